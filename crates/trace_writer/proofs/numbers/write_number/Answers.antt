use Rattle.std.proofs.Common.{is_ok, ap, arith}
use Rattle.std.proofs.ResultArms.{chosen}
use Rattle.trace_writer.proofs.RoundTrip.{write_first, write_more}
use Rattle.trace_writer.proofs.numbers.write_number.Goals as goal

pub loop-rest-init : goal.loop-rest-init
loop-rest-init c = write_first c.args.value _ (omega arith)

pub loop-rest-preserved : goal.loop-rest-preserved
loop-rest-preserved c =
    let i = c.loop-rest.invariant in
    let p = chosen _ _ _ _ c.push.ensures.items (ap is_ok c.in_ok-push.was) in
    simp (p, c.lowest_group.ensures) (write_more i.0 c.loop-rest.rest _ _ c.loop-rest-test.true i.1 i.2)
