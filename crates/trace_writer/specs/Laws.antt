-- A batch that was written is read back. Assumes nothing.
use Rattle.std.specs.Prelude.{◌≡◌, ℕ, ◌+◌, ◌-◌, ◌^◌, ◌<◌, ◌≤◌, List, [], ◌∷◌, length, drop, replicate, Ok}
use Rattle.std.specs.List.{flat_map, AllByRecursion}
use Rattle.harq.specs.declared.configs.Config.{Config}
use Rattle.ue.specs.declared.arrivals.Arrival.{Arrival}
use Rattle.ue.specs.declared.arrivals.SpsOutcome.{SpsOutcome}
use Rattle.trace.specs.Batches.{Contents, contents}
use Rattle.trace_writer.specs.Writing.{config_numbers, arrival_numbers, sps_numbers, config_record, arrival_record, sps_record, trace_of}

-- numbers of 32 bits
abbrev pub Small : List ℕ → Type 0
Small vs = AllByRecursion (λ v. v < 2 ^ 32) vs

-- an array of that width, of which the first n count and the others are 0
pub record Padded (width n : ℕ) (xs : List ℕ) : Type 0 where
  pub wide : length xs ≡ width
  pub fits : n ≤ width
  pub zeros : drop n xs ≡ replicate (width - n) 0

-- what a trace can say: a configuration of at most 16 cells, with first occasions for these alone
pub record ConfigSayable (g : Config) : Type 0 where
  pub small : Small (config_numbers g)
  pub firsts : Small g.first
  pub padded : Padded 16 g.cells g.first

-- an arrival of at most two blocks, with outcomes for these alone
pub record ArrivalSayable (a : Arrival) : Type 0 where
  pub small : Small (arrival_numbers a)
  pub padded : Padded 2 a.blocks a.outcomes

-- every SPS reception
pub record SpsSayable (s : SpsOutcome) : Type 0 where
  pub small : Small (sps_numbers s)

-- where the record of each begins, the first at an offset, one behind the other
abbrev pub starts : {X : Type 0} → (X → List ℕ) → ℕ → List X → List ℕ
starts bytes at [] = []
starts bytes at (x ∷ xs) = at ∷ starts bytes (at + length (bytes x)) xs

-- the batch that a written trace holds
abbrev pub batch_of : Config → List Arrival → List SpsOutcome → Contents
batch_of g arrivals sps = record {
  config = g;
  arrivals = arrivals;
  arrival_offsets = starts arrival_record (length (config_record g)) arrivals;
  sps = sps;
  sps_offsets = starts sps_record (length (config_record g) + length (flat_map arrival_record arrivals)) sps;
}

-- a batch that a trace can say, and that is not too long, is read back as it was written
abbrev pub ReadsWritten : Type 0
ReadsWritten =
    (g : Config) (arrivals : List Arrival) (sps : List SpsOutcome)
    → ConfigSayable g
    → AllByRecursion ArrivalSayable arrivals
    → AllByRecursion SpsSayable sps
    → length (trace_of g arrivals sps) ≤ 65536
    → contents (trace_of g arrivals sps) ≡ Ok (batch_of g arrivals sps)
