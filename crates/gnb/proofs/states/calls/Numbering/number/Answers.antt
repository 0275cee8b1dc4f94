use Rattle.std.proofs.Common.{◌+◌, length, sym, ap, ◌∙◌}
use Rattle.gnb.specs.Calls.{table_by}
use Rattle.gnb.proofs.Calling.{allowed_none, entries_stand}
use Rattle.gnb.proofs.states.calls.Numbering.number.Goals as goal

pub returns-clause-table : goal.returns-clause-table
returns-clause-table c =
    let b = c.args.self.now.batch in
    let gs = c.args.grants.now in
    let n = b.numbered + length gs in
    c.place_entries.ensures ∙ entries_stand b.config c.args.occasion n b.numbered gs c.args.table.now c.in_ok-check_call.ensures.space
    ∙ ap (λ o. table_by o b c.args.occasion gs c.args.table.now) (sym (allowed_none _ _ c.in_ok-check_call.ensures.is))
