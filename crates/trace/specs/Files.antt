-- A whole trace. Assumes nothing.
use Rattle.std.specs.Prelude.{◌≡◌, ℕ, zero, suc, cond, List, [], ◌∷◌, map, length, Some, None, Ok, Err, vec_items, Option, Result, Vec, nat_lt}
use Rattle.std.specs.declared.alloc.Global.{Global}
use Rattle.trace.specs.declared.faults.Failure.{Failure}
use Rattle.trace.specs.declared.faults.Failure.TheVariants as failure
use Rattle.trace.specs.declared.faults.Fault.{Fault}
use Rattle.trace.specs.declared.faults.Layer.TheVariants as layer
use Rattle.trace.specs.declared.records.Record.{Record}
use Rattle.trace.specs.Faults.{broken_at, after}
use Rattle.trace.specs.Records.{Entry, entry_of, record_at}

-- a trace has at most 65,536 bytes
abbrev pub length_checked : List ℕ → Result (Unit {0}) Fault
length_checked bs = cond (nat_lt 65536 (length bs)) (Err (broken_at layer.Record 65536)) (Ok tt)

-- a record, if there is one more, and those that follow it
abbrev pub and_then : (ℕ → Result (List Entry) Fault) → Option (Entry × ℕ) → Result (List Entry) Fault
and_then rest None = Ok []
and_then rest (Some p) = after (rest p.1) (λ es. Ok (p.0 ∷ es))

-- the records from an offset on, at most n of them
abbrev pub entries_from : ℕ → List ℕ → ℕ → Result (List Entry) Fault
entries_from zero bs at = Ok []
entries_from (suc n) bs at = after (record_at bs at) (and_then (entries_from n bs))

-- the records of a trace, or its first fault; there are fewer records than bytes
abbrev pub entries : List ℕ → Result (List Entry) Fault
entries bs = after (length_checked bs) (λ _. entries_from (suc (length bs)) bs 0)

-- what the reader of a trace answers; want of memory says nothing of the trace
abbrev pub Told : Result (Vec Record Global) Failure → Result (List Entry) Fault → Type 0
Told (Ok v) t = t ≡ Ok (map entry_of (vec_items v))
Told (Err (failure.Fault f)) t = t ≡ Err f
Told (Err (failure.Memory e)) t = Unit {0}
