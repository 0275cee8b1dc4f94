-- A vector that takes in what a chain gives holds it all, where all of it fits. Assumes nothing.
use Rattle.std.proofs.Common.{◌≡◌, ℕ, ◌≤◌, List, [], ◌++◌, length, Ok, Err, Option, Result, sym, ap, ◌∙◌, subst, arith}
use Rattle.std.specs.Iterator.{Yields, Drains}
use Rattle.std.specs.Result.{MatchResult, OnErr}
use Rattle.std.proofs.lemmas.Iterator.{YieldsList}
use Rattle.std.proofs.lemmas.Iterator.Adapters.{items_from_extend}
use Rattle.std.proofs.lemmas.Iterator.Consumers.{YieldsList-so_far}
use Rattle.std.proofs.lemmas.List.{take_all, map-id}

module _ {S A E : Type 0} {steps : S → Option A → S → Type 0} {s : S} (old new : List A) (empty : old ≡ []) where
  -- the vector was empty, and refuses an item only where it is full
  pub filled : (r : Result (Unit {0}) E) (room : ℕ) →
      ((it : S) × (xs : List A) × (it ≡ s) × (new ≡ old ++ xs) × MatchResult r (λ _. Drains steps it xs) (λ _. (t : S) × Yields steps it xs t)) →
      OnErr r (length new ≡ room) → (all : List A) → length all ≤ room → YieldsList steps (λ x. x) s all → new ≡ all
  filled (Ok u) room ran full all fits road =
      let whole : new ≡ old ++ all = items_from_extend {E = E} {P = λ xs. new ≡ old ++ xs} (Ok u) ran road in
      whole ∙ ap (λ (l : List A). l ++ all) empty
  filled (Err e) room (it, xs, same, is, run) full all fits road =
      let gained : new ≡ xs = is ∙ ap (λ (l : List A). l ++ xs) empty in
      gained ∙ sym (map-id xs) ∙ YieldsList-so_far road xs run.0 (subst (λ z. Yields steps z xs run.0) same run.1)
      ∙ take_all (length xs) all (omega (arith, fits, full, ap length gained))
