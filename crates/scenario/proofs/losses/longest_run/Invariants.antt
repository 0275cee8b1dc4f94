use Rattle.std.proofs.Common.{map}
use Rattle.scenario.specs.Arrived.{arrived}
use Rattle.scenario.proofs.Walking.{Walked}
use Rattle.scenario.proofs.losses.longest_run.Given as goal

abbrev pub invariant-loop-s : goal.invariant-loop-s
invariant-loop-s l = Walked (map arrived l.sent) l.s-index l.best l.run
