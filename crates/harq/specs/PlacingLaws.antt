-- Placing in the subject's words: which number a counter stands for. Assumes nothing.
use Rattle.std.specs.Prelude.{◌≡◌, ℕ, ◌+◌, ◌<◌, ◌≤◌, List, [], ◌∷◌, map, length, slice_index_or}
use Rattle.std.specs.List.{range_with_len}
use Rattle.std.specs.Option.{unwrap_or}
use Rattle.dai.specs.Values.{value}
use Rattle.harq.specs.Words.{last_or}
use Rattle.harq.specs.Placing.{places, slot_count, standing_at, written_at}

-- every counter lies within 1..span
abbrev pub Within : ℕ → List ℕ → Type 0
Within span [] = Unit {0}
Within span (v ∷ vs) = ((0 < v) × (v ≤ span)) × Within span vs

-- n is the least number from `low` on that has the value v
pub record Least (span low v n : ℕ) : Type 0 where
  pub reached : low ≤ n
  pub valued : value span n ≡ v
  pub least : (m : ℕ) → low ≤ m → value span m ≡ v → n ≤ m

-- Behind number k, each counter stands for the least number above the one before it that has its value, and its place is that number - 1.
abbrev pub StandsFor : ℕ → ℕ → List ℕ → List ℕ → Type 0
StandsFor span k [] [] = Unit {0}
StandsFor span k [] (q ∷ qs) = ⊥
StandsFor span k (v ∷ vs) [] = ⊥
StandsFor span k (v ∷ vs) (q ∷ qs) = Least span (k + 1) v (q + 1) × StandsFor span (q + 1) vs qs

-- places rise strictly
abbrev pub Rising : ℕ → List ℕ → Type 0
Rising low [] = Unit {0}
Rising low (q ∷ qs) = (low ≤ q) × Rising (q + 1) qs

-- each place lies below n
abbrev pub Below : ℕ → List ℕ → Type 0
Below n [] = Unit {0}
Below n (q ∷ qs) = (q < n) × Below n qs

-- What the places of any row of counters are, over every span.
pub record Placed (span : ℕ) (vs : List ℕ) : Type 0 where
  -- each stands for the least number that it can
  pub stands : StandsFor span 0 vs (places span 0 0 vs)
  -- no place is used twice
  pub rises : Rising 0 (places span 0 0 vs)
  -- at an end value the slot count is the least number at or above the last that has this value, and every place lies below it
  pub counts : (e : ℕ) → 0 < e → e ≤ span → 0 < length vs → Least span (last_or 0 (places span 0 0 vs) + 1) e (slot_count span vs e)
  pub below : (e : ℕ) → 0 < e → e ≤ span → Below (slot_count span vs e) (places span 0 0 vs)

abbrev pub PlacingStands : Type 0
PlacingStands = (span : ℕ) → 0 < span → (vs : List ℕ) → Within span vs → Placed span vs

-- where no number is missing, number k is placed at k - 1 and the slots are as many as the numbers
abbrev pub NothingLost : Type 0
NothingLost =
    (span : ℕ) → 0 < span → (n : ℕ) →
    (places span 0 0 (map (value span) (range_with_len 1 n)) ≡ range_with_len 0 n) ×
    (slot_count span (map (value span) (range_with_len 1 n)) (value span n) ≡ n)

-- a slot holds the entry whose place it is, and any other keeps its content
abbrev pub SlotsHold : Type 0 → Type 0
SlotsHold E =
    (qs : List ℕ) (xs slots : List E) → Rising 0 qs → Below (length slots) qs → length xs ≡ length qs → (p : ℕ) (d : E) →
    slice_index_or (written_at qs xs slots) p d ≡ unwrap_or (standing_at p qs xs) (slice_index_or slots p d)
