-- Memory that is written, one place after another. Assumes nothing.
use Rattle.std.specs.Prelude.{◌≡◌, ℕ, suc, ◌+◌, List, [], ◌∷◌, length, slice_set}

-- the list with others written over it, from place i on
unfoldable pub written : {A : Type 0} → List A → ℕ → List A → List A
written xs i [] = xs
written xs i (y ∷ ys) = written (slice_set xs i y) (suc i) ys

-- lent memory by its lender's name, with n places used, and the same memory after `ys` were written next
pub record Laid {A : Type 0} (lender : ℕ) (xs : List A) (n : ℕ) (ys : List A) (lender' : ℕ) (xs' : List A) (n' : ℕ) : Type 0 where
  pub lent : lender' ≡ lender
  pub used : n' ≡ n + length ys
  pub holds : xs' ≡ written xs n ys
