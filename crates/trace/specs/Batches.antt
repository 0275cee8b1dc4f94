-- What the UE has of a trace. Assumes nothing.
use Rattle.std.specs.Prelude.{◌≡◌, ℕ, zero, suc, List, [], ◌∷◌, map, filter, is_some, replicate, Some, None, Ok, Err, vec_items, Option, Result, slice_index}
use Rattle.std.specs.List.{filter_map}
use Rattle.std.specs.Result.{result_unwrap_or}
use Rattle.harq.specs.declared.configs.Config.{Config}
use Rattle.ue.specs.declared.arrivals.Arrival.{Arrival}
use Rattle.ue.specs.declared.arrivals.SpsOutcome.{SpsOutcome}
use Rattle.trace.specs.declared.batches.Batch.{Batch}
use Rattle.trace.specs.declared.faults.Failure.{Failure}
use Rattle.trace.specs.declared.faults.Failure.TheVariants as failure
use Rattle.trace.specs.declared.faults.Fault.{Fault}
use Rattle.trace.specs.Faults.{after}
use Rattle.trace.specs.Numbers.{number_at}
use Rattle.trace.specs.Records.{Entry, offset_of, configuration, assignment, sps}
use Rattle.trace.specs.Files.{entries}

-- what was read, or 0 and the same offset
abbrev pub or_zero : ℕ → Result (ℕ × ℕ) Fault → ℕ × ℕ
or_zero at r = result_unwrap_or r (0, at)

-- n numbers, read one behind the other, 0 where there is none left
unfoldable pub numbers_from : ℕ → List ℕ → ℕ → List ℕ
numbers_from zero bs at = []
numbers_from (suc n) bs at = (or_zero at (number_at bs at)).0 ∷ numbers_from n bs (or_zero at (number_at bs at)).1

-- the first two outcomes, 0 where there is none
abbrev pub outcomes_of : List ℕ → List ℕ
outcomes_of bytes = slice_index bytes 0 ∷ slice_index bytes 1 ∷ []

-- a configuration that has nothing
abbrev pub no_config : Config
no_config = record { cells = 0; occasions = 0; width = 0; mode = 0; first = replicate 16 0 }

-- the configuration that a record says
abbrev pub config_of : Entry → Config
config_of (configuration at c m w mode from first) = record { cells = c; occasions = m; width = w; mode = mode; first = numbers_from 16 first 0 }
config_of (assignment at c m f d b from o) = no_config
config_of (sps at c k s o) = no_config

-- that of the first record
abbrev pub config_in : List Entry → Config
config_in [] = no_config
config_in (e ∷ es) = config_of e

-- the arrival of a record
abbrev pub arrival_of : Entry → Option Arrival
arrival_of (configuration at c m w mode from first) = None
arrival_of (assignment at c m f d b from o) = Some (record { cell = c; occasion = m; format = f; field = d; blocks = b; outcomes = outcomes_of o })
arrival_of (sps at c k s o) = None

-- the SPS reception of a record
abbrev pub sps_of : Entry → Option SpsOutcome
sps_of (configuration at c m w mode from first) = None
sps_of (assignment at c m f d b from o) = None
sps_of (sps at c k s o) = Some (record { entry = record { cell = c; configuration = k; slot = s }; outcome = o })

-- the offsets of the records of which f gives something, in their order
abbrev pub offsets_by : {X : Type 0} → (Entry → Option X) → List Entry → List ℕ
offsets_by f es = map offset_of (filter (λ e. is_some (f e)) es)

-- a batch: each list in the order of the file
pub record Contents : Type 0 where
  pub config : Config
  pub arrivals : List Arrival
  pub arrival_offsets : List ℕ
  pub sps : List SpsOutcome
  pub sps_offsets : List ℕ

abbrev pub contents_of : List Entry → Contents
contents_of es = record {
  config = config_in es;
  arrivals = filter_map arrival_of es;
  arrival_offsets = offsets_by arrival_of es;
  sps = filter_map sps_of es;
  sps_offsets = offsets_by sps_of es;
}

-- the batch of a trace, or its first fault
abbrev pub contents : List ℕ → Result Contents Fault
contents bs = after (entries bs) (λ es. Ok (contents_of es))

-- a batch as the program holds it
abbrev pub held : Batch → Contents
held b = record {
  config = b.config;
  arrivals = vec_items b.arrivals;
  arrival_offsets = vec_items b.arrival_offsets;
  sps = vec_items b.sps;
  sps_offsets = vec_items b.sps_offsets;
}

-- what the reader of a batch answers; want of memory says nothing of the trace
abbrev pub Batched : Result Batch Failure → Result Contents Fault → Type 0
Batched (Ok b) t = t ≡ Ok (held b)
Batched (Err (failure.Fault f)) t = t ≡ Err f
Batched (Err (failure.Memory e)) t = Unit {0}
