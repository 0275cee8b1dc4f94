-- When the slot count is the count of what was sent, and the places are those of the numbers sent. Assumes nothing.
use Rattle.std.specs.Prelude.{◌≡◌, ℕ, ◌-◌, ◌<◌, ◌≤◌, Bool, ◌⊎◌, ◌↔◌, List, map, length, slice_index}
use Rattle.dai.specs.Values.{value}
use Rattle.harq.specs.Placing.{places, slot_count}
use Rattle.harq.specs.Losses.{numbers, last_arrived, RunsShort, longest}

-- the counters that arrive
abbrev pub counters : ℕ → List Bool → List ℕ
counters span arrived = map (value span) (numbers 0 arrived)

-- The end value is that of number `upto`: the last that arrived, or by a total a later one that was sent. Nothing arrived: 0.
pub record CountsTo (arrived : List Bool) (upto : ℕ) : Type 0 where
  pub from_last : last_arrived arrived ≤ upto
  pub sent : upto ≤ length arrived
  pub none : last_arrived arrived ≡ 0 → upto ≡ 0

-- the slot count of what arrived, at the end value of number `upto`
abbrev pub slots_of : ℕ → List Bool → ℕ → ℕ
slots_of span arrived upto = slot_count span (counters span arrived) (value span upto)

-- What arrived against what was sent.
pub record Agreement (span : ℕ) (arrived : List Bool) (upto : ℕ) : Type 0 where
  -- never more slots than assignments sent
  pub within : slots_of span arrived upto ≤ length arrived
  -- no arrival is placed above its own number's place
  pub low : (i : ℕ) → slice_index (places span 0 0 (counters span arrived)) i ≤ slice_index (numbers 0 arrived) i - 1
  -- as many slots as assignments exactly when nothing was sent, or every run of losses is short and the end value is that of the last number sent
  pub agrees : (slots_of span arrived upto ≡ length arrived) ↔ ((length arrived ≡ 0) ⊎ (RunsShort span arrived × (upto ≡ length arrived)))
  -- then each arrival is placed by its own number
  pub exact : slots_of span arrived upto ≡ length arrived → places span 0 0 (counters span arrived) ≡ map (λ k. k - 1) (numbers 0 arrived)
  -- the run condition is one on the longest run
  pub short : RunsShort span arrived ↔ (longest arrived < span)

-- over every span and every loss
abbrev pub CountsAgree : Type 0
CountsAgree = (span : ℕ) → 0 < span → (arrived : List Bool) (upto : ℕ) → CountsTo arrived upto → Agreement span arrived upto
