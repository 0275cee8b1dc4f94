use Rattle.std.proofs.Common.{◌<◌, ◌≤◌, map, length, is_ok, Ok, sym, ap, ◌∙◌}
use Rattle.std.proofs.ResultArms.{chosen}
use Rattle.std.proofs.lemmas.Result.{err_from_is_err_and}
use Rattle.std.proofs.lemmas.Option.{MatchOption-at_some}
use Rattle.trace.specs.Records.{entry_of, viewed_next}
use Rattle.trace.proofs.Walk.{sofar_none, sofar_push, sofar_all, sofar_fault}
use Rattle.trace.proofs.files.read_records.Goals as goal

pub loop-records-init : goal.loop-records-init
loop-records-init c = sofar_none _ _ _ (ap (map entry_of) c.new-records.ensures.items) c.new-records.ensures.len

pub returns-in_err-record : goal.returns-in_err-record
returns-in_err-record c =
    let p = err_from_is_err_and c.from_residual-in_err-record.result c.from_residual-in_err-record.ensures.1 in
    rw (p.1, p.2) (sofar_fault _ _ _ _ c.loop-records.invariant c.in_ok-check_length.ensures _ c.in_err-record.ensures.value)

pub loop-records-preserved : goal.loop-records-preserved
loop-records-preserved c =
    let ok = ap is_ok c.in_ok-push.was in
    let is = ap (λ o. viewed_next (Ok o)) (sym c.in-Some.is) ∙ c.in_ok-record.ensures.value in
    let w = MatchOption-at_some _ (λ p. (c.loop-records.at < p.1) × (p.1 ≤ length c.args.input.now)) _ c.in-Some.is c.in_ok-record.ensures.within in
    sofar_push entry_of _ _ _ _ _ _ _ _ c.loop-records.invariant (chosen _ _ _ _ c.push.ensures.items ok) (chosen _ _ _ _ c.push.ensures.len ok) is w.0 w.1

pub returns : goal.returns
returns c = sofar_all _ _ _ _ c.loop-records.invariant c.in_ok-check_length.ensures (ap (λ o. viewed_next (Ok o)) (sym c.in_default.is) ∙ c.in_ok-record.ensures.value)
