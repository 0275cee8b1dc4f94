-- Faults of a trace. Assumes nothing.
use Rattle.std.specs.Prelude.{ℕ, Ok, Err, Result}
use Rattle.harq.specs.declared.refusals.Refusal.TheVariants.{Trace}
use Rattle.trace.specs.declared.faults.Fault.{Fault}
use Rattle.trace.specs.declared.faults.Layer.{Layer}
use Rattle.trace.specs.declared.faults.Layer.TheVariants.{Number, Record, Report}

-- the number by which a layer is told
abbrev pub layer_number : Layer → ℕ
layer_number Number = 1
layer_number Record = 2
layer_number Report = 3

-- the trace is broken there
abbrev pub broken_at : Layer → ℕ → Fault
broken_at l offset = record { refusal = Trace; layer = l; offset = offset }

-- go on with what was read, or pass the fault up
abbrev pub after : {X Y : Type 0} → Result X Fault → (X → Result Y Fault) → Result Y Fault
after (Ok x) f = f x
after (Err e) f = Err e
