-- Placing what arrived, against the true numbers. Assumes nothing.
use Rattle.std.proofs.Common.{◌≡◌, ℕ, zero, suc, ◌+◌, ◌-◌, ◌*◌, ◌<◌, ◌≤◌, Bool, true, false, List, [], ◌∷◌, map, length, get_or, refl, ap, ap₂, inl, inr, mul-le-mul_left, mul-suc, arith}
use Rattle.std.proofs.lemmas.Bool.{cases_lt}
use Rattle.dai.specs.Values.{value}
use Rattle.harq.specs.Words.{last_or}
use Rattle.harq.specs.Placing.{turns_after, place_of, places, count_after}
use Rattle.harq.specs.Losses.{numbers, longest_after}
use Rattle.harq.proofs.Turns.{Stands, turn_of, stands, turn_le, turn_exact, turn_kept, end_le, end_exact, end_kept}
use Rattle.harq.proofs.Standing.{stands_none}

-- n numbers have gone by, the last `lost` of them lost; the last arrival k stands in turn J with the value p, and the placer is in turn j
pub record At (span j J p k lost n : ℕ) : Type 0 where
  pub stand : Stands span k J p
  pub some : 0 < k → 0 < p
  pub behind : j ≤ J
  pub gone : n ≡ k + lost

pub at_first : (span : ℕ) → At span 0 0 0 0 0 0
at_first span = record { stand = stands_none span; some = λ h. omega arith; behind = omega arith; gone = omega arith }

-- products by the span: from places back to turns
cancel : (span a b : ℕ) → 0 < span → a ≤ b → span * a ≡ span * b → a ≡ b
cancel span a b hs le e =
    elim (cases_lt a b) [ inl lt ↦ absurd (omega (arith, mul-le-mul_left span lt, mul-suc span a)) | inr ge ↦ omega arith ]

module _ (span : ℕ) (hs : 0 < span) where
  next : (n : ℕ) → Stands span (n + 1) (turn_of span (n + 1)) (value span (n + 1))
  next n = stands span (n + 1) hs (omega arith)

  -- the state after an arrival, and after a loss
  pub came : (j J p k lost n : ℕ) → At span j J p k lost n → At span (turns_after j p (value span (n + 1))) (turn_of span (n + 1)) (value span (n + 1)) (n + 1) 0 (n + 1)
  came j J p k lost n a =
      record {
        stand = next n;
        some = λ _. omega arith;
        behind = turn_le span j J p k (value span (n + 1)) (turn_of span (n + 1)) (n + 1) a.stand (next n) (omega arith) (omega arith) a.behind;
        gone = omega arith;
      }

  pub missed : (j J p k lost n : ℕ) → At span j J p k lost n → At span j J p k (lost + 1) (n + 1)
  missed j J p k lost n a = record { stand = a.stand; some = a.some; behind = a.behind; gone = omega arith }

  -- in the true turn still, exactly if it was so before and the losses in between are few
  pub came_exact : (j J p k lost n : ℕ) → At span j J p k lost n → turns_after j p (value span (n + 1)) ≡ turn_of span (n + 1) → (j ≡ J) × (lost < span)
  came_exact j J p k lost n a e =
      let r = turn_exact span j J p k (value span (n + 1)) (turn_of span (n + 1)) (n + 1) a.stand (next n) (omega arith) (omega arith) a.behind e in
      (r.0, omega arith)

  pub came_kept : (j J p k lost n : ℕ) → At span j J p k lost n → j ≡ J → lost < span → turns_after j p (value span (n + 1)) ≡ turn_of span (n + 1)
  came_kept j J p k lost n a e lt =
      turn_kept span j J p k (value span (n + 1)) (turn_of span (n + 1)) (n + 1) a.stand (next n) (omega arith) (omega arith) a.behind e (omega arith)

  -- no arrival is placed above its number's place
  pub low_after : (bs : List Bool) (j J p k lost n : ℕ) → At span j J p k lost n → (i : ℕ) →
      get_or (places span j p (map (value span) (numbers n bs))) i 0 ≤ get_or (numbers n bs) i 0 - 1
  low_after [] j J p k lost n a i = omega arith
  low_after (true ∷ bs) j J p k lost n a zero =
      let s = came j J p k lost n a in
      omega (arith, mul-le-mul_left span s.behind, s.stand.is)
  low_after (true ∷ bs) j J p k lost n a (suc i) = low_after bs _ _ _ _ _ (n + 1) (came j J p k lost n a) i
  low_after (false ∷ bs) j J p k lost n a i = low_after bs j J p k (lost + 1) (n + 1) (missed j J p k lost n a) i

  -- in the true turn, and no run too long: every place is its number's own
  pub places_kept : (bs : List Bool) (j J p k lost n : ℕ) → At span j J p k lost n → j ≡ J → longest_after lost bs < span →
      places span j p (map (value span) (numbers n bs)) ≡ map (λ m. m - 1) (numbers n bs)
  places_kept [] j J p k lost n a e short = refl
  places_kept (true ∷ bs) j J p k lost n a e short =
      let s = came j J p k lost n a in
      let kept = came_kept j J p k lost n a e (omega arith) in
      let here : place_of span j p (value span (n + 1)) ≡ (n + 1) - 1 = omega (arith, ap (λ (m : ℕ). span * m) kept, s.stand.is) in
      ap₂ ◌∷◌ here (places_kept bs _ _ _ _ _ (n + 1) s kept (omega arith))
  places_kept (false ∷ bs) j J p k lost n a e short = places_kept bs j J p k (lost + 1) (n + 1) (missed j J p k lost n a) e short

  -- the slot count at the end value e of number K, once something has arrived
  module _ (K JK e : ℕ) (t : Stands span K JK e) where
    pub count_le : (bs : List Bool) (j J p k lost n : ℕ) → At span j J p k lost n → 0 < last_or k (numbers n bs) → last_or k (numbers n bs) ≤ K →
        count_after span j p (map (value span) (numbers n bs)) e ≤ K
    count_le [] j J p k lost n a pos ge =
        omega (arith, mul-le-mul_left span (end_le span j J p k e JK K a.stand t (a.some pos) ge a.behind))
    count_le (true ∷ bs) j J p k lost n a pos ge = count_le bs _ _ _ _ _ (n + 1) (came j J p k lost n a) pos ge
    count_le (false ∷ bs) j J p k lost n a pos ge = count_le bs j J p k (lost + 1) (n + 1) (missed j J p k lost n a) pos ge

    pub count_exact : (bs : List Bool) (j J p k lost n N : ℕ) → At span j J p k lost n → 0 < last_or k (numbers n bs) → last_or k (numbers n bs) ≤ K → K ≤ N →
        n + length bs ≡ N → count_after span j p (map (value span) (numbers n bs)) e ≡ N → (j ≡ J) × (longest_after lost bs < span) × (K ≡ N)
    count_exact [] j J p k lost n N a pos ge top all q =
        let le = end_le span j J p k e JK K a.stand t (a.some pos) ge a.behind in
        let same = cancel span _ JK hs le (omega (arith, mul-le-mul_left span le)) in
        let r = end_exact span j J p k e JK K a.stand t (a.some pos) ge a.behind same in
        (r.0, omega (arith, mul-le-mul_left span le), omega (arith, mul-le-mul_left span le))
    count_exact (true ∷ bs) j J p k lost n N a pos ge top all q =
        let r = count_exact bs _ _ _ _ _ (n + 1) N (came j J p k lost n a) pos ge top (omega arith) q in
        let s = came_exact j J p k lost n a r.0 in
        (s.0, omega arith, r.2)
    count_exact (false ∷ bs) j J p k lost n N a pos ge top all q =
        count_exact bs j J p k (lost + 1) (n + 1) N (missed j J p k lost n a) pos ge top (omega arith) q

    pub count_kept : (bs : List Bool) (j J p k lost n N : ℕ) → At span j J p k lost n → 0 < last_or k (numbers n bs) → last_or k (numbers n bs) ≤ K →
        n + length bs ≡ N → j ≡ J → longest_after lost bs < span → K ≡ N → count_after span j p (map (value span) (numbers n bs)) e ≡ N
    count_kept [] j J p k lost n N a pos ge all q short up =
        let same = end_kept span j J p k e JK K a.stand t (a.some pos) ge a.behind q (omega arith) in
        omega (arith, ap (λ (m : ℕ). span * m) same)
    count_kept (true ∷ bs) j J p k lost n N a pos ge all q short up =
        count_kept bs _ _ _ _ _ (n + 1) N (came j J p k lost n a) pos ge (omega arith) (came_kept j J p k lost n a q (omega arith)) (omega arith) up
    count_kept (false ∷ bs) j J p k lost n N a pos ge all q short up =
        count_kept bs j J p k (lost + 1) (n + 1) N (missed j J p k lost n a) pos ge (omega arith) q short up
