use Rattle.std.proofs.Common.{◌+◌, is_some, arith}
use Rattle.gnb.specs.declared.marks.Mark.TheVariants.{Negative}
use Rattle.gnb.specs.Readings.{bits_heard, mark_by}
use Rattle.gnb.proofs.Firsts.{firsts_turn}
use Rattle.gnb.proofs.states.reports.mark_sps.Goals as goal

pub loop-i-preserved : goal.loop-i-preserved
loop-i-preserved c =
    firsts_turn (λ i _. mark_by (is_some c.args.report) (bits_heard c.args.report) (c.args.start + i)) c.loop-i.i c.args.marks.now c.loop-i.marks _ Negative
    c.loop-i.invariant (omega arith) c.mark_at.ensures
