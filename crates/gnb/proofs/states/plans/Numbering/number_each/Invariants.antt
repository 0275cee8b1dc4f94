use Rattle.std.proofs.Common.{◌≡◌, map, drop}
use Rattle.gnb.specs.Sending.{batch_run, table_run}
use Rattle.gnb.specs.Plans.{call_of}
use Rattle.gnb.proofs.states.plans.Numbering.number_each.Given as goal

abbrev pub invariant-loop-call : goal.invariant-loop-call
invariant-loop-call l =
    (batch_run l.self.batch l.table (map call_of (drop l.call-index l.calls)) ≡ batch_run l.initial.self.batch l.initial.table (map call_of l.calls)) ×
    (table_run l.self.batch l.table (map call_of (drop l.call-index l.calls)) ≡ table_run l.initial.self.batch l.initial.table (map call_of l.calls))
