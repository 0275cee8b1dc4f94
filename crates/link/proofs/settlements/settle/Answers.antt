use Rattle.std.proofs.Common.{◌≡◌, Bool, false, cond, [], length, Some, None, Option, sym, ap, ◌∙◌}
use Rattle.harq.specs.declared.refusals.Refusal.{Refusal}
use Rattle.harq.specs.declared.refusals.Refusal.TheVariants as why
use Rattle.sink.specs.Bits.{bits_of}
use Rattle.gnb.specs.Calls.{expected}
use Rattle.gnb.specs.Readings.{table_read, sps_read, counted, settled, settled_of, absence_refused}
use Rattle.link.specs.Played.{is_expected}
use Rattle.link.proofs.settlements.settle.Goals as goal

pub returns-in-Err-clause-counts : goal.returns-in-Err-clause-counts
returns-in-Err-clause-counts c =
    let b = c.args.awaiting.batch in
    let t = c.args.table.now in
    let m = c.args.marks.now in
    let accepted : absence_refused b t (length m) ≡ None = ap (λ (x : Bool). cond {A = Option Refusal} x (Some why.Table) None) c.requires.lent in
    let answer = ap settled_of (sym c.unwrap-in-Err.ensures) ∙ c.absent.ensures.answer ∙ ap (λ o. settled o b false (bits_of []) t m) accepted in
    let counts : c.unwrap-in-Err.result ≡ counted b (table_read b false (bits_of []) t) (sps_read b false (bits_of []) m) = cc in
    counts
    ∙ ap (λ (x : Bool). counted b (table_read b x (bits_of c.args.bytes.now) t) (sps_read b x (bits_of c.args.bytes.now) m))
    (sym (ap (is_expected (expected b)) c.in-Err.is))
