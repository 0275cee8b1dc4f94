-- Placing by the counter DAI: places, slot count, and the slots afterwards. Assumes nothing.
use Rattle.std.specs.Prelude.{ℕ, ◌+◌, ◌-◌, ◌*◌, cond, List, [], ◌∷◌, Some, None, Option, ◌==◌, nat_le, nat_lt, slice_set}

-- the turns of the counter once the value v has come behind `previous`: one more if v is not above it
abbrev pub turns_after : ℕ → ℕ → ℕ → ℕ
turns_after turns previous v = cond (nat_le v previous) (turns + 1) turns

-- the place of the value v
abbrev pub place_of : ℕ → ℕ → ℕ → ℕ → ℕ
place_of span turns previous v = span * turns_after turns previous v + v - 1

-- the places of a row of counters
abbrev pub places : ℕ → ℕ → ℕ → List ℕ → List ℕ
places span turns previous [] = []
places span turns previous (v ∷ vs) = place_of span turns previous v ∷ places span (turns_after turns previous v) v vs

-- the slot count at the end value e: one turn more if e is below the last counter
abbrev pub count_at : ℕ → ℕ → ℕ → ℕ → ℕ
count_at span turns previous e = span * cond (nat_lt e previous) (turns + 1) turns + e

-- the slot count behind a row of counters
abbrev pub count_after : ℕ → ℕ → ℕ → List ℕ → ℕ → ℕ
count_after span turns previous [] e = count_at span turns previous e
count_after span turns previous (v ∷ vs) e = count_after span (turns_after turns previous v) v vs e

-- the slot count of a batch: none without a counter
abbrev pub slot_count : ℕ → List ℕ → ℕ → ℕ
slot_count span [] e = 0
slot_count span (v ∷ vs) e = count_after span 0 0 (v ∷ vs) e

-- what stands at place p, by the places of the entries
abbrev pub standing_at : {E : Type 0} → ℕ → List ℕ → List E → Option E
standing_at p [] entries = None
standing_at p (q ∷ qs) [] = None
standing_at p (q ∷ qs) (x ∷ xs) = cond (q == p) (Some x) (standing_at p qs xs)

-- the slots after each entry has been written at its place
abbrev pub written_at : {E : Type 0} → List ℕ → List E → List E → List E
written_at [] entries slots = slots
written_at (q ∷ qs) [] slots = slots
written_at (q ∷ qs) (x ∷ xs) slots = written_at qs xs (slice_set slots q x)
