use Rattle.scenario.proofs.Walking.{walked_more}
use Rattle.scenario.proofs.losses.longest_run.Goals as goal

pub loop-s-preserved : goal.loop-s-preserved
loop-s-preserved c =
    let l = c.loop-s in
    walked_more c.args.sent.now l.s-index _ l.best l.run _ _ c.loop-s-test.true l.invariant c.after-run.ensures c.or_longer-best.ensures
