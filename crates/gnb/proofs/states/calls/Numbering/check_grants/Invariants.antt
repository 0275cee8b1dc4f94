use Rattle.std.proofs.Common.{◌≡◌, ◌≤◌, drop}
use Rattle.gnb.specs.Calls.{grants_refused}
use Rattle.gnb.proofs.states.calls.Numbering.check_grants.Given as goal

abbrev pub invariant-loop-a : goal.invariant-loop-a
invariant-loop-a l =
    (grants_refused l.self.batch.config l.occasion l.lowest (drop l.a-index l.grants) ≡ grants_refused l.self.batch.config l.occasion 0 l.grants) ×
    (l.a-index ≤ l.lowest) × (l.lowest ≤ l.self.batch.config.cells)
