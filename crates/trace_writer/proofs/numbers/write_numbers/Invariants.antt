use Rattle.std.proofs.Common.{◌≡◌, ◌++◌, take, vec_items}
use Rattle.std.specs.List.{flat_map}
use Rattle.trace_writer.specs.Coding.{coded}
use Rattle.trace_writer.proofs.numbers.write_numbers.Given as goal

abbrev pub invariant-loop-value : goal.invariant-loop-value
invariant-loop-value l = vec_items l.out ≡ vec_items l.initial.out ++ flat_map coded (take l.value-index l.values)
