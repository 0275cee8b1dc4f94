use Rattle.std.proofs.Common.{false, unwrap_or, ap, ◌∙◌}
use Rattle.gnb.specs.Marks.{mark_of_bit}
use Rattle.gnb.proofs.Firsts.{bit_or_none}
use Rattle.gnb.proofs.states.reports.mark_at.Goals as goal

pub returns-in-Some : goal.returns-in-Some
returns-in-Some c =
    rw c.in-Some.is
    (c.from.ensures ∙ ap mark_of_bit (c.unwrap_or.ensures ∙ ap (λ o. unwrap_or o false) c.bit_at.ensures ∙ bit_or_none c.in-Some.bytes.now c.args.index))
