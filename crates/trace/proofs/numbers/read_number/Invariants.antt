use Rattle.std.proofs.Common.{◌≡◌, ◌+◌, ◌<◌, drop}
use Rattle.trace.specs.Numbers.{groups, number_at}
use Rattle.trace.proofs.Groups.{outcome}
use Rattle.trace.proofs.numbers.read_number.Given as goal

abbrev pub invariant-loop-i : goal.invariant-loop-i
invariant-loop-i l =
    (0 < l.weight) × (l.value < l.weight) × (number_at l.bytes l.at ≡ outcome l.at (l.at + l.i) l.value l.weight (groups (drop l.i l.groups)))
