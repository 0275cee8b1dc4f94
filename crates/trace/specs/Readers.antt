-- What readers answer, with the offset where they then stand. Assumes nothing.
use Rattle.std.specs.Prelude.{ℕ, Ok, Err, Result}
use Rattle.trace.specs.declared.faults.Fault.{Fault}

abbrev pub moved : Result ℕ Fault → ℕ → Result (ℕ × ℕ) Fault
moved (Ok v) next = Ok (v, next)
moved (Err e) next = Err e

abbrev pub reached : Result (Unit {0}) Fault → ℕ → Result ℕ Fault
reached (Ok u) next = Ok next
reached (Err e) next = Err e
