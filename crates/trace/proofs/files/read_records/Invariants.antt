use Rattle.std.proofs.Common.{◌-◌, map, length, vec_items, vec_len}
use Rattle.trace.specs.Records.{entry_of}
use Rattle.trace.proofs.Walk.{Sofar}
use Rattle.trace.proofs.files.read_records.Given as goal

abbrev pub invariant-loop-records : goal.invariant-loop-records
invariant-loop-records l = Sofar l.input (map entry_of (vec_items l.records)) (vec_len l.records) l.at

abbrev pub decreases-loop-records : goal.decreases-loop-records
decreases-loop-records l = length l.input - l.at
