use Rattle.std.proofs.lemmas.Result.{err_from_is_err_and}
use Rattle.gnb.proofs.Calling.{stops}
use Rattle.gnb.proofs.states.calls.Numbering.check_grants.Goals as goal

pub returns-in_err-check_grant-clause-is : goal.returns-in_err-check_grant-clause-is
returns-in_err-check_grant-clause-is c =
    let p = err_from_is_err_and c.from_residual.result c.from_residual.ensures.1 in
    rw (p.1, p.2) (stops c.args.self.now.batch.config c.args.occasion c.loop-a.lowest c.args.grants.now c.loop-a.a-index _ c.loop-a.invariant.0 record { cell = 0; format = 0; blocks = 0 } c.loop-a-test.true _ c.in_err-check_grant.ensures)
