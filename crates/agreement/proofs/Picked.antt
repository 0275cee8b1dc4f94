-- Elements that pass a test, the last element, and rows that climb. Assumes nothing.
use Rattle.std.proofs.Common.{◌≡◌, ℕ, zero, suc, ◌<◌, ◌≤◌, Bool, true, false, cond, List, [], ◌∷◌, map, length, get_or, sym, refl, ap, ◌∙◌, subst, ⊎_elim, arith}
use Rattle.std.specs.List.{AllByRecursion, list_any, filter}
use Rattle.std.proofs.lemmas.Bool.{true≢false, cond-true, or_cases, or_parts}
use Rattle.harq.specs.Words.{last_or}
use Rattle.ue.proofs.Walked.{those_few}

module _ {X : Type 0} where
  -- two facts of each element give a third
  pub all_both : (P Q R : X → Type 0) → ((x : X) → P x → Q x → R x) → (xs : List X) → AllByRecursion P xs → AllByRecursion Q xs → AllByRecursion R xs
  all_both P Q R f [] p q = tt
  all_both P Q R f (x ∷ xs) p q = (f x p.0 q.0, all_both P Q R f xs p.1 q.1)

  -- what holds of each holds of the last
  pub last_all : (P : X → Type 0) (x : X) (xs : List X) → AllByRecursion P (x ∷ xs) → P (last_or x xs)
  last_all P x [] h = h.0
  last_all P x (y ∷ xs) h = last_all P y xs h.1

  -- the last of a row that was mapped
  pub last_map : {Y : Type 0} (f : X → Y) (x : X) (xs : List X) → last_or (f x) (map f xs) ≡ f (last_or x xs)
  last_map f x [] = refl
  last_map f x (y ∷ xs) = last_map f y xs

module _ {X : Type 0} (test : X → Bool) where
  -- all pass: those are all
  pub those_all : (xs : List X) → AllByRecursion (λ x. test x ≡ true) xs → filter test xs ≡ xs
  those_all [] h = refl
  those_all (x ∷ xs) h = cond-true (test x) _ _ h.0 ∙ ap (λ l. x ∷ l) (those_all xs h.1)

  -- as many pass as there are: all pass
  full_by : (x : X) (xs : List X) (b : Bool) → test x ≡ b → (length xs ≤ length (filter test xs) → AllByRecursion (λ y. test y ≡ true) xs) →
      suc (length xs) ≤ length (cond b (x ∷ filter test xs) (filter test xs)) → AllByRecursion (λ y. test y ≡ true) (x ∷ xs)
  full_by x xs true e on le = (e, on (omega arith))
  full_by x xs false e on le = absurd (omega (arith, those_few test xs))

  pub those_full : (xs : List X) → length xs ≤ length (filter test xs) → AllByRecursion (λ x. test x ≡ true) xs
  those_full [] le = tt
  those_full (x ∷ xs) le = full_by x xs (test x) refl (those_full xs) le

  -- what holds of those that pass, at an index
  all_after_first : (P : X → Type 0) (b : Bool) (x : X) (xs : List X) → AllByRecursion P (cond b (x ∷ xs) xs) → AllByRecursion P xs
  all_after_first P true x xs h = h.1
  all_after_first P false x xs h = h

  pub at_those : (P : X → Type 0) (xs : List X) (i : ℕ) (d : X) → AllByRecursion P (filter test xs) → i < length xs → test (get_or xs i d) ≡ true → P (get_or xs i d)
  at_those P [] i d all h e = absurd (omega arith)
  at_those P (x ∷ xs) zero d all h e = let p : AllByRecursion P (x ∷ filter test xs) = subst (AllByRecursion P) (cond-true (test x) _ _ e) all in p.0
  at_those P (x ∷ xs) (suc i) d all h e = at_those P xs i d (all_after_first P (test x) x (filter test xs) all) (omega arith) e

  -- one that passes, with what holds of each
  pub any_true : {Y : Type 0} (f : Y → X) (P : Y → Type 0) (ys : List Y) → AllByRecursion P ys → list_any test (map f ys) ≡ true → (y : Y) × P y × (test (f y) ≡ true)
  any_true f P [] all e = absurd (true≢false (sym e))
  any_true f P (y ∷ ys) all e = ⊎_elim (λ here. (y, all.0, here)) (λ on. any_true f P ys all.1 on) (or_cases (test (f y)) _ e)

  -- none passes
  pub any_false : {Y : Type 0} (f : Y → X) (ys : List Y) → list_any test (map f ys) ≡ false → AllByRecursion (λ y. test (f y) ≡ false) ys
  any_false f [] e = tt
  any_false f (y ∷ ys) e = let p = or_parts _ _ e in (p.0, any_false f ys p.1)

-- a row whose values do not fall
module _ {X : Type 0} (f : X → ℕ) where
  abbrev pub Climbs : ℕ → List X → Type 0
  Climbs low [] = Unit {0}
  Climbs low (x ∷ xs) = (low ≤ f x) × Climbs (f x) xs

  climbs_lower : (low high : ℕ) (xs : List X) → low ≤ high → Climbs high xs → Climbs low xs
  climbs_lower low high [] le h = tt
  climbs_lower low high (x ∷ xs) le h = (omega (arith, h.0), h.1)

  pub climbs_those : (test : X → Bool) (low : ℕ) (xs : List X) → Climbs low xs → Climbs low (filter test xs)
  climbs_those test low [] h = tt
  climbs_those test low (x ∷ xs) h =
      elim (test x) as (λ b. Climbs low (cond b (x ∷ filter test xs) (filter test xs))) [
        | true ↦ (h.0, climbs_those test (f x) xs h.1)
        | false ↦ climbs_lower low (f x) (filter test xs) h.0 (climbs_those test (f x) xs h.1)
      ]

  -- none is above the last
  pub climbs_last : (low : ℕ) (x : X) (xs : List X) → Climbs low (x ∷ xs) → AllByRecursion (λ y. f y ≤ f (last_or x xs)) (x ∷ xs)
  climbs_last low x [] h = (omega arith, tt)
  climbs_last low x (y ∷ xs) h = let on = climbs_last (f x) y xs h.1 in (omega (arith, h.1.0, on.0), on)
