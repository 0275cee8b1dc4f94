-- A worked trace. Assumes nothing.
use Rattle.std.specs.Prelude.{◌≡◌, ℕ, List, [], ◌∷◌, replicate, Ok, Err}
use Rattle.harq.specs.declared.configs.Config.{Config}
use Rattle.ue.specs.declared.arrivals.Arrival.{Arrival}
use Rattle.ue.specs.declared.arrivals.SpsOutcome.{SpsOutcome}
use Rattle.trace.specs.declared.faults.Layer.TheVariants.{Number, Record}
use Rattle.trace.specs.Faults.{broken_at}
use Rattle.trace.specs.Batches.{contents}
use Rattle.trace_writer.specs.Coding.{coded}
use Rattle.trace_writer.specs.Writing.{trace_of}

-- two cells and three occasions, an arrival of one block, and an SPS reception in slot 200
abbrev config : Config
config = record { cells = 2; occasions = 3; width = 0; mode = 0; first = 0 ∷ 1 ∷ replicate 14 0 }

abbrev arrival : Arrival
arrival = record { cell = 1; occasion = 2; format = 1; field = 4; blocks = 1; outcomes = 1 ∷ 0 ∷ [] }

abbrev reception : SpsOutcome
reception = record { entry = record { cell = 0; configuration = 7; slot = 200 }; outcome = 1 }

abbrev bytes : List ℕ
bytes = 1 ∷ 6 ∷ 2 ∷ 3 ∷ 0 ∷ 0 ∷ 0 ∷ 1 ∷ 2 ∷ 6 ∷ 1 ∷ 2 ∷ 1 ∷ 4 ∷ 1 ∷ 1 ∷ 3 ∷ 5 ∷ 0 ∷ 7 ∷ 200 ∷ 1 ∷ 1 ∷ []

-- written and read; a number of two bytes; an empty file, a body cut short, a number that is not in its shortest form
abbrev pub Worked : Type 0
Worked =
    (trace_of config (arrival ∷ []) (reception ∷ []) ≡ bytes)
    × (contents bytes ≡ Ok (record { config = config; arrivals = arrival ∷ []; arrival_offsets = 8 ∷ []; sps = reception ∷ []; sps_offsets = 16 ∷ [] }))
    × (coded 300 ≡ 172 ∷ 2 ∷ [])
    × (contents [] ≡ Err (broken_at Record 0))
    × (contents (1 ∷ 6 ∷ 2 ∷ []) ≡ Err (broken_at Record 0))
    × (contents (1 ∷ 128 ∷ 0 ∷ []) ≡ Err (broken_at Number 1))
