use Rattle.std.proofs.Common.{◌≡◌, ◌++◌, take, vec_items}
use Rattle.std.specs.List.{flat_map}
use Rattle.trace.specs.Kinds.{kind_number}
use Rattle.trace_writer.specs.Writing.{record_of}
use Rattle.trace_writer.proofs.records.write_each.Given as goal

abbrev pub invariant-loop-item : goal.invariant-loop-item
invariant-loop-item g l = vec_items l.out ≡ vec_items l.initial.out ++ flat_map (λ x. record_of (kind_number g.T.ToRecord.KIND) (g.T.ToRecord.content x)) (take l.item-index l.items)
