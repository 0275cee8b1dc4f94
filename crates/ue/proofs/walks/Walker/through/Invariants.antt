use Rattle.std.proofs.Common.{◌≡◌, drop}
use Rattle.ue.specs.Walks.{walk_from}
use Rattle.ue.proofs.walks.Walker.through.Given as goal

abbrev pub invariant-loop-i : goal.invariant-loop-i
invariant-loop-i l =
    (l.walker.config.now ≡ l.self.config.now)
    × (walk_from l.self.config.now l.walker.walk l.i-counter (drop l.i-counter l.arrivals) ≡ walk_from l.self.config.now l.self.walk 0 l.arrivals)
