-- The order in which two nested loops meet the arrivals. Assumes nothing.
use Rattle.std.specs.Prelude.{flat_map}
use Rattle.std.proofs.Common.{◌≡◌, ℕ, zero, suc, ◌+◌, ◌<◌, ◌≤◌, Bool, true, false, cond, ◌&&◌, eqb, List, [], ◌∷◌, ◌++◌, Some, Ok, Option, sym, refl, ap, ◌∙◌, ap₂, ⊎_elim, arith}
use Rattle.std.specs.List.{AllByRecursion, filter, range_with_len}
use Rattle.std.proofs.ByRecursion.{All-weaker, all_kept_by, kept_by_passes}
use Rattle.std.proofs.lemmas.Bool.{cases_eq, eq-eqb, ne_eqb, ltb-true, and_parts, cond-true, cond-false}
use Rattle.std.proofs.lemmas.Bool.Decides.{nat_tests}
use Rattle.harq.specs.declared.configs.Config.{Config}
use Rattle.harq.specs.Configs.{in_range}
use Rattle.ue.proofs.Walked.{last_of_push}
use Rattle.ue.specs.declared.arrivals.Arrival.{Arrival}
use Rattle.ue.specs.Batches.{counting, counted}
use Rattle.ue.specs.Checks.{last_of, rises_above, arrivals_judged}
use Rattle.ue.specs.Clause.{is_at, met_by_loops}
use Rattle.ue.proofs.Accepted.{Passing, arrived, all_counted}

-- each element stands so to all later ones
abbrev Sorted : {X : Type 0} → (X → X → Type 0) → List X → Type 0
Sorted R [] = Unit {0}
Sorted R (x ∷ xs) = AllByRecursion (R x) xs × Sorted R xs

module _ {X : Type 0} where
  sorted_those : (R : X → X → Type 0) (test : X → Bool) (xs : List X) → Sorted R xs → Sorted R (filter test xs)
  sorted_those R test [] h = tt
  sorted_those R test (x ∷ xs) h =
      let more = sorted_those R test xs h.1 in
      elim (test x) as (λ b. Sorted R (cond b (x ∷ filter test xs) (filter test xs))) [ true ↦ (all_kept_by test (R x) xs h.0, more) | false ↦ more ]

  all_both : (P Q R : X → Type 0) → ((x : X) → P x → Q x → R x) → (xs : List X) → AllByRecursion P xs → AllByRecursion Q xs → AllByRecursion R xs
  all_both P Q R f [] p q = tt
  all_both P Q R f (x ∷ xs) p q = (f x p.0 q.0, all_both P Q R f xs p.1 q.1)

  sorted_weaker : (R S : X → X → Type 0) (P : X → Type 0) → ((x y : X) → P x → P y → R x y → S x y) → (xs : List X) → AllByRecursion P xs → Sorted R xs → Sorted S xs
  sorted_weaker R S P f [] p h = tt
  sorted_weaker R S P f (x ∷ xs) p h = (all_both P (R x) (S x) (λ y q r. f x y p.0 q r) xs p.1 h.0, sorted_weaker R S P f xs p.1 h.1)

  those_both : (p q : X → Bool) (xs : List X) → filter (λ x. p x && q x) xs ≡ filter q (filter p xs)
  those_both p q [] = refl
  those_both p q (x ∷ xs) =
      elim (p x) as (λ b. cond (b && q x) (x ∷ filter (λ x. p x && q x) xs) (filter (λ x. p x && q x) xs) ≡ filter q (cond b (x ∷ filter p xs) (filter p xs))) [
        | true ↦ ap (λ (l : List X). cond (q x) (x ∷ l) l) (those_both p q xs)
        | false ↦ those_both p q xs
      ]

module _ {X Y : Type 0} where
  all_of_same : (f h : X → List Y) → ((x : X) → f x ≡ h x) → (xs : List X) → flat_map f xs ≡ flat_map h xs
  all_of_same f h e [] = refl
  all_of_same f h e (x ∷ xs) = ap₂ ◌++◌ (e x) (all_of_same f h e xs)

  all_of_none : (xs : List X) → flat_map {A = Y} (λ (_ : X). []) xs ≡ []
  all_of_none [] = refl
  all_of_none (x ∷ xs) = all_of_none xs

-- elements sorted by a number
module _ {X : Type 0} (key : X → ℕ) where
  abbrev keyed : List X → ℕ → List X
  keyed xs m = filter (λ x. eqb (key x) m) xs

  -- those of each number in turn
  abbrev by_key : List X → ℕ → ℕ → List X
  by_key xs a n = flat_map (keyed xs) (range_with_len a n)

  none_keyed : (xs : List X) (m : ℕ) → AllByRecursion (λ x. m < key x) xs → keyed xs m ≡ []
  none_keyed [] m h = refl
  none_keyed (x ∷ xs) m h =
      let lt : m < key x = h.0 in
      cond-false (eqb (key x) m) (x ∷ keyed xs m) (keyed xs m) (ne_eqb (key x) m (λ e. omega arith)) ∙ none_keyed xs m h.1

  -- the first is met once, as soon as its number comes
  met_past : (n a : ℕ) (x : X) (xs : List X) → key x < a → by_key (x ∷ xs) a n ≡ by_key xs a n
  met_past zero a x xs lt = refl
  met_past (suc n) a x xs lt =
      ap₂ ◌++◌ (cond-false (eqb (key x) a) (x ∷ keyed xs a) (keyed xs a) (ne_eqb (key x) a (λ e. omega arith))) (met_past n (a + 1) x xs (omega arith))

  met_first : (n a : ℕ) (x : X) (xs : List X) → a ≤ key x → key x < a + n → AllByRecursion (λ y. key x ≤ key y) xs → by_key (x ∷ xs) a n ≡ x ∷ by_key xs a n
  met_first zero a x xs low high up = absurd (omega arith)
  met_first (suc n) a x xs low high up =
      ⊎_elim
      (λ e. ap₂ ◌++◌ (cond-true (eqb (key x) a) (x ∷ keyed xs a) (keyed xs a) (eq-eqb (key x) a e)) (met_past n (a + 1) x xs (omega arith)))
      (λ ne.
      let above : a < key x = omega arith in
      let later : AllByRecursion (λ y. a < key y) xs = All-weaker (λ y. key x ≤ key y) (λ y. a < key y) (λ y h. omega arith) xs up in
      ap (λ (l : List X). l ++ by_key (x ∷ xs) (a + 1) n) (none_keyed (x ∷ xs) a (above, later))
      ∙ met_first n (a + 1) x xs (omega arith) (omega arith) up
      ∙ ap (λ (l : List X). x ∷ (l ++ by_key xs (a + 1) n)) (sym (none_keyed xs a later)))
      (cases_eq (key x) a)

  met_all : (n : ℕ) (xs : List X) → Sorted (λ x y. key x ≤ key y) xs → AllByRecursion (λ x. key x < n) xs → by_key xs 0 n ≡ xs
  met_all n [] s h = all_of_none (range_with_len 0 n)
  met_all n (x ∷ xs) s h =
      let lt : key x < n = h.0 in
      met_first n 0 x xs (omega arith) (omega arith) s.0 ∙ ap (λ (l : List X). x ∷ l) (met_all n xs s.1 h.1)

-- by occasion, then by cell
abbrev Above : Arrival → Arrival → Type 0
Above p a = rises_above (Some p) a ≡ true

above_trans : (p a b : Arrival) → Above p a → Above a b → Above p b
above_trans p a b h k = grind (arith, nat_tests)

abbrev InRange : Config → Arrival → Type 0
InRange g a = in_range g a.cell a.occasion ≡ true

module _ (g : Config) (xs : List Arrival) (s : Sorted Above xs) (h : AllByRecursion (InRange g) xs) where
  -- the inner loop, through the cells in one occasion
  cells_meet : (m : ℕ) → flat_map (λ c. filter (is_at m c) xs) (range_with_len 0 g.cells) ≡ keyed (λ a. a.occasion) xs m
  cells_meet m =
      let here : Arrival → Bool = λ a. eqb a.occasion m in
      let ys : List Arrival = filter here xs in
      let rise : Sorted (λ p a. p.cell ≤ a.cell) ys =
      sorted_weaker Above (λ p a. p.cell ≤ a.cell) (λ a. here a ≡ true) (λ p a e f u. grind (arith, nat_tests)) ys (kept_by_passes here xs) (sorted_those Above here xs s)
      in
      let low : AllByRecursion (λ a. a.cell < g.cells) xs = All-weaker (InRange g) (λ a. a.cell < g.cells) (λ a r. ltb-true _ _ (and_parts _ _ r).0) xs h in
      all_of_same (λ c. filter (is_at m c) xs) (keyed (λ a. a.cell) ys) (λ c. those_both here (λ a. eqb a.cell c) xs) (range_with_len 0 g.cells)
      ∙ met_all (λ a. a.cell) g.cells ys rise (all_kept_by here (λ a. a.cell < g.cells) xs low)

  -- the outer loop, through the occasions
  loops_meet : met_by_loops g xs ≡ xs
  loops_meet =
      let rise : Sorted (λ p a. p.occasion ≤ a.occasion) xs =
      sorted_weaker Above (λ p a. p.occasion ≤ a.occasion) (InRange g) (λ p a _ _ u. grind (arith, nat_tests)) xs h s
      in
      let low : AllByRecursion (λ a. a.occasion < g.occasions) xs =
      All-weaker (InRange g) (λ a. a.occasion < g.occasions) (λ a r. ltb-true _ _ (and_parts _ _ r).1) xs h
      in
      all_of_same (λ m. flat_map (λ c. filter (is_at m c) xs) (range_with_len 0 g.cells)) (keyed (λ a. a.occasion) xs) cells_meet (range_with_len 0 g.occasions)
      ∙ met_all (λ a. a.occasion) g.occasions xs rise low

module _ (g : Config) where
  all_above : (xs earlier : List Arrival) (p : Arrival) → last_of earlier ≡ Some p → Passing g earlier xs → AllByRecursion (Above p) xs
  all_above [] earlier p e h = tt
  all_above (a ∷ xs) earlier p e h =
      let here : Above p a = ap (λ (o : Option Arrival). rises_above o a) (sym e) ∙ h.0.rises in
      (here, All-weaker (Above a) (Above p) (λ b k. above_trans p a b here k) xs (all_above xs (earlier ++ a ∷ []) a (last_of_push earlier a) h.1))

  sorted : (xs earlier : List Arrival) → Passing g earlier xs → Sorted Above xs
  sorted [] earlier h = tt
  sorted (a ∷ xs) earlier h = (all_above xs (earlier ++ a ∷ []) a (last_of_push earlier a) h.1, sorted xs (earlier ++ a ∷ []) h.1)

-- counted arrivals that are accepted are met in their order
pub counted_met : (g : Config) (arrivals : List Arrival) (n : ℕ) → arrivals_judged g arrivals ≡ Ok n → met_by_loops g (counted g arrivals) ≡ counted g arrivals
counted_met g arrivals n e =
    loops_meet g (counted g arrivals) (sorted_those Above (counting g) arrivals (sorted g arrivals [] (arrived g arrivals n e).passing))
    (all_counted g arrivals n e (InRange g) (λ _ a p. p.range))
