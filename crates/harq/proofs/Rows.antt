-- Rows: counted numbers, last elements, and what a row of counters leaves behind. Assumes nothing.
use Rattle.std.proofs.Common.{◌≡◌, ℕ, zero, suc, ◌+◌, ◌<◌, ◌≤◌, List, [], ◌∷◌, ◌++◌, map, length, get_or, take, drop, set, replicate, sym, refl, ap, ◌∙◌, ap₂, arith}
use Rattle.std.specs.List.{range_with_len}
pub use Rattle.std.proofs.lemmas.List.FromFn.{length-range_with_len as length_counting_from, get_or-range_with_len as get_or_counting_from}
use Rattle.std.proofs.lemmas.List.FromFn.{fill_by_all}
use Rattle.std.proofs.lemmas.List.{take-append-drop, length-take-le, length-drop, get_or-take, get_or-drop, ext_get_or}
use Rattle.harq.specs.Words.{last_or}
use Rattle.harq.specs.Placing.{turns_after, place_of, places, count_at, count_after}
use Rattle.harq.specs.PlacingLaws.{Below}

-- a list that is made by place up to n, and then is `rest`
pub made_by_place : {X : Type 0} (f : ℕ → X) (n : ℕ) (ys rest : List X) (d : X) → length ys ≡ n + length rest →
    ((k : ℕ) → k < n → get_or ys k d ≡ f k) → ((k : ℕ) → get_or ys (n + k) d ≡ get_or rest k d) → ys ≡ map f (range_with_len 0 n) ++ rest
made_by_place f n ys rest d all front back =
    sym (take-append-drop n ys) ∙ ap₂ ◌++◌
    (fill_by_all f (take n ys) n d (length-take-le n ys (omega arith)) (λ k h. get_or-take n ys k d h ∙ front k h))
    (ext_get_or d (drop n ys) rest (omega (arith, length-drop n ys)) (λ k _. get_or-drop n ys k d ∙ back k))

pub below_le : (n m : ℕ) (qs : List ℕ) → n ≤ m → Below n qs → Below m qs
below_le n m [] le b = tt
below_le n m (q ∷ qs) le b = (omega arith, below_le n m qs le b.1)

pub last_or_push : {X : Type 0} (d : X) (xs : List X) (x : X) → last_or d (xs ++ x ∷ []) ≡ x
last_or_push d [] x = refl
last_or_push d (y ∷ xs) x = last_or_push y xs x

-- the turns behind a row of counters; the counter before the next is `last_or previous vs`
abbrev pub turns_along : ℕ → ℕ → List ℕ → ℕ
turns_along turns previous [] = turns
turns_along turns previous (v ∷ vs) = turns_along (turns_after turns previous v) v vs

pub turns_along_push : (j p : ℕ) (vs : List ℕ) (v : ℕ) → turns_along j p (vs ++ v ∷ []) ≡ turns_after (turns_along j p vs) (last_or p vs) v
turns_along_push j p [] v = refl
turns_along_push j p (u ∷ vs) v = turns_along_push (turns_after j p u) u vs v

pub length_places : (span j p : ℕ) (vs : List ℕ) → length (places span j p vs) ≡ length vs
length_places span j p [] = refl
length_places span j p (v ∷ vs) = ap suc (length_places span (turns_after j p v) v vs)

pub places_push : (span j p : ℕ) (vs : List ℕ) (v : ℕ) →
    places span j p (vs ++ v ∷ []) ≡ places span j p vs ++ place_of span (turns_along j p vs) (last_or p vs) v ∷ []
places_push span j p [] v = refl
places_push span j p (u ∷ vs) v =
    ap (λ (l : List ℕ). place_of span j p u ∷ l) (places_push span (turns_after j p u) u vs v)

-- the slot count behind a row is the one of the state behind it
pub count_after_is : (span j p : ℕ) (vs : List ℕ) (e : ℕ) → count_after span j p vs e ≡ count_at span (turns_along j p vs) (last_or p vs) e
count_after_is span j p [] e = refl
count_after_is span j p (v ∷ vs) e = count_after_is span (turns_after j p v) v vs e

pub count_after_push : (span j p : ℕ) (vs : List ℕ) (v e : ℕ) →
    count_after span j p (vs ++ v ∷ []) e ≡ count_at span (turns_after (turns_along j p vs) (last_or p vs) v) v e
count_after_push span j p [] v e = refl
count_after_push span j p (u ∷ vs) v e = count_after_push span (turns_after j p u) u vs v e

-- one more of the first filled
pub fill_more : {X : Type 0} (v : X) (n : ℕ) (d : List X) → n < length d → set (replicate n v ++ drop n d) n v ≡ replicate (suc n) v ++ drop (suc n) d
fill_more v n [] h = absurd (omega arith)
fill_more v zero (x ∷ d) h = refl
fill_more v (suc n) (x ∷ d) h = ap (λ l. v ∷ l) (fill_more v n d (omega arith))
