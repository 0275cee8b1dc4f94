-- The report in the words of TS 38.213 clause 9.1.3.1: which bit is whose. Assumes nothing.
use Rattle.std.specs.List.{filter, range_with_len}
use Rattle.std.specs.Prelude.{◌≡◌, ℕ, ◌+◌, ◌*◌, ◌<◌, Bool, false, ◌&&◌, List, ◌∷◌, ◌++◌, length, Ok, ◌==◌, ◌≢◌, slice_index, slice_index_or, flat_map}
use Rattle.harq.specs.declared.configs.Config.{Config}
use Rattle.harq.specs.Words.{last_or}
use Rattle.harq.specs.Configs.{span, bits_per_place}
use Rattle.harq.specs.PlacingLaws.{Least, StandsFor}
use Rattle.ue.specs.declared.arrivals.Arrival.{Arrival}
use Rattle.ue.specs.declared.arrivals.SpsOutcome.{SpsOutcome}
use Rattle.ue.specs.Slots.{slot_of, place_bits}
use Rattle.ue.specs.Batches.{counted, counters, end_value, slots_in}
use Rattle.ue.specs.Checks.{judged}
use Rattle.ue.specs.Reports.{places_of, report_bits, sps_bit}

-- an arrival in that monitoring occasion on that cell
abbrev pub is_at : ℕ → ℕ → Arrival → Bool
is_at occasion cell a = a.occasion == occasion && a.cell == cell

-- The two nested loops: through the monitoring occasions, and in each through the cells, the arrivals that are met.
abbrev pub met_by_loops : Config → List Arrival → List Arrival
met_by_loops g arrivals =
    flat_map (λ m. flat_map (λ c. filter (is_at m c) arrivals) (range_with_len 0 g.cells)) (range_with_len 0 g.occasions)

-- the place of the i-th counted arrival
abbrev pub place_of_arrival : Config → List Arrival → ℕ → ℕ
place_of_arrival g arrivals i = slice_index (places_of g arrivals) i

-- bit d of place p
abbrev pub bit_of : Config → List Bool → ℕ → ℕ → Bool
bit_of g bits p d = slice_index_or bits (bits_per_place g * p + d) false

-- a list of bits is the report for what arrived
pub record ReportFor (g : Config) (arrivals : List Arrival) (sps : List SpsOutcome) (bits : List Bool) : Type 0 where
  -- the length: the bits of each slot, and one for each SPS reception
  pub long : length bits ≡ bits_per_place g * slots_in g arrivals + length sps
  -- counters are taken in the order in which the two loops meet the counted arrivals
  pub loops : met_by_loops g (counted g arrivals) ≡ counted g arrivals
  -- each counter stands for the least number above the one before it that has its value, and its place is that number - 1
  pub stands : StandsFor (span g) 0 (counters g arrivals) (places_of g arrivals)
  -- the slots are as many as the least number, from the last one on, that has the end value; none where nothing counted
  pub counts :
      0 < length (counted g arrivals) →
      Least (span g) (last_or 0 (places_of g arrivals) + 1) (end_value g (counted g arrivals)) (slots_in g arrivals)
  pub none : length (counted g arrivals) ≡ 0 → slots_in g arrivals ≡ 0
  -- each counted arrival has a place of its own among the slots
  pub within : (i : ℕ) → i < length (counted g arrivals) → place_of_arrival g arrivals i < slots_in g arrivals
  pub apart : (i j : ℕ) → i < j → j < length (counted g arrivals) → place_of_arrival g arrivals i < place_of_arrival g arrivals j
  -- there its own outcomes stand
  pub own :
      (before after : List Arrival) (a : Arrival) → counted g arrivals ≡ before ++ (a ∷ after) →
      (d : ℕ) → d < bits_per_place g →
      bit_of g bits (place_of_arrival g arrivals (length before)) d ≡ slice_index_or (place_bits g.mode (slot_of a)) d false
  -- at a place that no counted arrival has: NACK
  pub nacks :
      (p : ℕ) → p < slots_in g arrivals →
      ((i : ℕ) → i < length (counted g arrivals) → place_of_arrival g arrivals i ≢ p) →
      (d : ℕ) → d < bits_per_place g → bit_of g bits p d ≡ false
  -- behind the slots stand the SPS outcomes, in their order
  pub behind :
      (before after : List SpsOutcome) (s : SpsOutcome) → sps ≡ before ++ (s ∷ after) →
      slice_index_or bits (bits_per_place g * slots_in g arrivals + length before) false ≡ sps_bit s

-- the report that is defined by what the places hold is that of the clause
abbrev pub ReportStands : Type 0
ReportStands =
    (g : Config) (arrivals : List Arrival) (sps : List SpsOutcome) (lent room n : ℕ) →
    judged g arrivals sps lent room ≡ Ok n → ReportFor g arrivals sps (report_bits g arrivals sps)
