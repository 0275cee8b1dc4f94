-- What the places of a row of counters are, behind a number k that stands in turn j with the value p. Assumes nothing.
use Rattle.std.proofs.Common.{◌≡◌, ℕ, zero, suc, ◌+◌, ◌-◌, ◌*◌, ◌<◌, ◌≤◌, cond, ltb, leb, List, [], ◌∷◌, map, length, refl, ap, subst, ap₂, mul-le-mul_left, mul-zero, mul-suc, add-one, arith}
use Rattle.std.proofs.lemmas.Bool.{cond_both, leb-false, ltb-false}
use Rattle.std.specs.List.{range_with_len}
use Rattle.dai.specs.Values.{value}
use Rattle.harq.specs.Words.{last_or}
use Rattle.harq.specs.Placing.{turns_after, place_of, places, count_at, count_after, slot_count}
use Rattle.harq.specs.PlacingLaws.{Within, Least, StandsFor, Rising, Below, PlacingStands, NothingLost}
use Rattle.harq.proofs.Turns.{Stands, turn_of, stands, stands_value, turn_le, turn_kept, end_le, end_kept}

-- before the first counter
pub stands_none : (span : ℕ) → Stands span 0 0 0
stands_none span = record { is = omega (arith, mul-zero span); top = omega arith }

-- behind a counter: the number of its place
pub stands_next : (span j p v : ℕ) → 0 < v → v ≤ span → Stands span (place_of span j p v + 1) (turns_after j p v) v
stands_next span j p v hv top = record { is = omega arith; top = top }

-- a turn more makes up for any value
turn_more : (span j p : ℕ) → p ≤ span → span * j + p ≤ span * (j + 1)
turn_more span j p top = rw add-one (omega (arith, mul-suc span j))

-- a place is not below the number before it, and the slot count not below the last number
pub place_above : (span j p k v : ℕ) → Stands span k j p → 0 < v → k ≤ place_of span j p v
place_above span j p k v s hv =
    cond_both (leb v p) (j + 1) j (λ t. k ≤ span * t + v - 1)
    (λ _. omega (arith, turn_more span j p s.top)) (λ e. omega (arith, leb-false v p e))

pub end_above : (span j p k e : ℕ) → Stands span k j p → k ≤ count_at span j p e
end_above span j p k e s =
    cond_both (ltb e p) (j + 1) j (λ t. k ≤ span * t + e)
    (λ _. omega (arith, turn_more span j p s.top)) (λ q. omega (arith, ltb-false e p q))

module _ (span : ℕ) (hs : 0 < span) where
  -- the number of the place is the least above the one before that has the value
  pub place_least : (j p k v : ℕ) → Stands span k j p → 0 < v → v ≤ span → Least span (k + 1) v (place_of span j p v + 1)
  place_least j p k v s hv top =
      let n = stands_next span j p v hv top in
      record {
        reached = omega (arith, place_above span j p k v s hv);
        valued = stands_value span (place_of span j p v + 1) (turns_after j p v) v n hv;
        least = λ m low valued.
            let t : Stands span m (turn_of span m) v = subst (Stands span m (turn_of span m)) valued (stands span m hs (omega arith)) in
            omega (arith, mul-le-mul_left span (turn_le span j j p k v (turn_of span m) m s t hv (omega arith) (omega arith)));
      }

  -- the slot count is the least number from the last on that has the end value
  pub end_least : (j p k e : ℕ) → Stands span k j p → 0 < p → 0 < e → e ≤ span → Least span k e (count_at span j p e)
  end_least j p k e s hp he top =
      let n : Stands span (count_at span j p e) (cond (ltb e p) (j + 1) j) e = record { is = refl; top = top } in
      record {
        reached = end_above span j p k e s;
        valued = stands_value span (count_at span j p e) (cond (ltb e p) (j + 1) j) e n he;
        least = λ m low valued.
            let t : Stands span m (turn_of span m) e = subst (Stands span m (turn_of span m)) valued (stands span m hs (omega arith)) in
            omega (arith, mul-le-mul_left span (end_le span j j p k e (turn_of span m) m s t hp low (omega arith)));
      }

  pub stands_from : (vs : List ℕ) (j p k : ℕ) → Stands span k j p → Within span vs → StandsFor span k vs (places span j p vs)
  stands_from [] j p k s w = tt
  stands_from (v ∷ vs) j p k s w = (
    place_least j p k v s w.0.0 w.0.1,
    stands_from vs (turns_after j p v) v (place_of span j p v + 1) (stands_next span j p v w.0.0 w.0.1) w.1,
  )

  pub rises_from : (vs : List ℕ) (j p k : ℕ) → Stands span k j p → Within span vs → Rising k (places span j p vs)
  rises_from [] j p k s w = tt
  rises_from (v ∷ vs) j p k s w = (
    place_above span j p k v s w.0.0,
    rises_from vs (turns_after j p v) v (place_of span j p v + 1) (stands_next span j p v w.0.0 w.0.1) w.1,
  )

  pub counts_from : (e : ℕ) → 0 < e → e ≤ span → (vs : List ℕ) (j p q : ℕ) → Stands span (q + 1) j p → 0 < p → Within span vs →
      Least span (last_or q (places span j p vs) + 1) e (count_after span j p vs e)
  counts_from e he top [] j p q s hp w = end_least j p (q + 1) e s hp he top
  counts_from e he top (v ∷ vs) j p q s hp w =
      counts_from e he top vs (turns_after j p v) v (place_of span j p v) (stands_next span j p v w.0.0 w.0.1) w.0.0 w.1

  pub count_above : (e : ℕ) (vs : List ℕ) (j p k : ℕ) → Stands span k j p → Within span vs → k ≤ count_after span j p vs e
  count_above e [] j p k s w = end_above span j p k e s
  count_above e (v ∷ vs) j p k s w =
      let more = count_above e vs (turns_after j p v) v (place_of span j p v + 1) (stands_next span j p v w.0.0 w.0.1) w.1 in
      omega (arith, place_above span j p k v s w.0.0)

  pub below_from : (e : ℕ) (vs : List ℕ) (j p : ℕ) → Within span vs → Below (count_after span j p vs e) (places span j p vs)
  below_from e [] j p w = tt
  below_from e (v ∷ vs) j p w =
      let more = count_above e vs (turns_after j p v) v (place_of span j p v + 1) (stands_next span j p v w.0.0 w.0.1) w.1 in
      (omega arith, below_from e vs (turns_after j p v) v w.1)

  -- nothing lost: the next number is in its own turn
  next_turn : (j p k : ℕ) → Stands span k j p → turns_after j p (value span (k + 1)) ≡ turn_of span (k + 1)
  next_turn j p k s =
      turn_kept span j j p k (value span (k + 1)) (turn_of span (k + 1)) (k + 1) s (stands span (k + 1) hs (omega arith)) (omega arith) (omega arith) (omega arith) refl (omega arith)

  next_stands : (j p k : ℕ) → Stands span k j p → Stands span (k + 1) (turns_after j p (value span (k + 1))) (value span (k + 1))
  next_stands j p k s = rw (next_turn j p k s) (stands span (k + 1) hs (omega arith))

  pub whole_places : (n j p k : ℕ) → Stands span k j p → places span j p (map (value span) (range_with_len (k + 1) n)) ≡ range_with_len k n
  whole_places zero j p k s = refl
  whole_places (suc n) j p k s =
      let next = next_stands j p k s in
      let here : place_of span j p (value span (k + 1)) ≡ k = omega (arith, next.is) in
      ap₂ ◌∷◌ here (whole_places n (turns_after j p (value span (k + 1))) (value span (k + 1)) (k + 1) next)

  pub whole_count : (n j p k N : ℕ) → Stands span k j p → 0 < p → k + n ≡ N → count_after span j p (map (value span) (range_with_len (k + 1) n)) (value span N) ≡ N
  whole_count zero j p k N s hp all =
      let t = stands span N hs (omega arith) in
      let same = end_kept span j j p k (value span N) (turn_of span N) N s t hp (omega arith) (omega arith) refl (omega arith) in
      omega (arith, ap (λ (m : ℕ). span * m) same, t.is)
  whole_count (suc n) j p k N s hp all =
      whole_count n (turns_after j p (value span (k + 1))) (value span (k + 1)) (k + 1) N (next_stands j p k s) (omega arith) (omega arith)

module _ (span : ℕ) (hs : 0 < span) (e : ℕ) where
  row_counts : (vs : List ℕ) → Within span vs → 0 < e → e ≤ span → 0 < length vs → Least span (last_or 0 (places span 0 0 vs) + 1) e (slot_count span vs e)
  row_counts [] w he top some = absurd (omega arith)
  row_counts (v ∷ vs) w he top some =
      counts_from span hs e he top vs (turns_after 0 0 v) v (place_of span 0 0 v) (stands_next span 0 0 v w.0.0 w.0.1) w.0.0 w.1

  row_below : (vs : List ℕ) → Within span vs → Below (slot_count span vs e) (places span 0 0 vs)
  row_below [] w = tt
  row_below (v ∷ vs) w = below_from span hs e (v ∷ vs) 0 0 w

pub placing_stands : PlacingStands
placing_stands span hs vs w = record {
  stands = stands_from span hs vs 0 0 0 (stands_none span) w;
  rises = rises_from span hs vs 0 0 0 (stands_none span) w;
  counts = λ e he top some. row_counts span hs e vs w he top some;
  below = λ e he top. row_below span hs e vs w;
}

whole_slots : (span : ℕ) → 0 < span → (n : ℕ) → slot_count span (map (value span) (range_with_len 1 n)) (value span n) ≡ n
whole_slots span hs zero = refl
whole_slots span hs (suc n) =
    whole_count span hs n (turns_after 0 0 (value span 1)) (value span 1) 1 (suc n) (next_stands span hs 0 0 0 (stands_none span)) (omega arith) (omega arith)

pub nothing_lost : NothingLost
nothing_lost span hs n = (whole_places span hs n 0 0 0 (stands_none span), whole_slots span hs n)
