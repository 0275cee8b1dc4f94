use Rattle.std.proofs.Common.{◌≡◌, ℕ, ◌<◌, ◌++◌, vec_items}
use Rattle.trace_writer.specs.Coding.{coded, coded_by}
use Rattle.trace_writer.proofs.RoundTrip.{limit}
use Rattle.trace_writer.proofs.numbers.write_number.Given as goal

abbrev pub invariant-loop-rest : goal.invariant-loop-rest
invariant-loop-rest l =
    (n : ℕ) × (l.rest < limit n) × (vec_items l.out ++ coded_by n l.rest ≡ vec_items l.initial.out ++ coded l.value)

abbrev pub decreases-loop-rest : goal.decreases-loop-rest
decreases-loop-rest l = l.rest
