-- The first occasions, one on. Assumes nothing.
use Rattle.std.proofs.Common.{◌≡◌, ℕ, suc, ◌+◌, ◌-◌, ◌<◌, ◌≤◌, List, [], ◌∷◌, ◌++◌, length, take, set, sym, ap, ◌∙◌, append_assoc, append-nil, arith}
use Rattle.std.proofs.lemmas.List.{take_all, take_more_set}
use Rattle.trace.specs.Numbers.{number_at}
use Rattle.trace.specs.Batches.{or_zero, numbers_from}

-- one turn of `first_occasions`
module _ (xs bs all : List ℕ) (i at : ℕ) (wide : length xs ≡ 16) (e : take i xs ++ numbers_from (16 - i) bs at ≡ all) where
  pub occasions_more : (p : ℕ × ℕ) → i < 16 → p ≡ or_zero at (number_at bs at) → take (i + 1) (set xs i p.0) ++ numbers_from (16 - (i + 1)) bs p.1 ≡ all
  unfolding numbers_from
  occasions_more p h is =
      let n : suc (16 - (i + 1)) ≡ 16 - i = omega arith in
      let lt : i < length xs = omega arith in
      ap (λ l. l ++ numbers_from (16 - (i + 1)) bs p.1) (take_more_set xs i p.0 lt)
      ∙ append_assoc (take i xs) (p.0 ∷ []) (numbers_from (16 - (i + 1)) bs p.1)
      ∙ ap (λ q. take i xs ++ q.0 ∷ numbers_from (16 - (i + 1)) bs q.1) is
      ∙ ap (λ m. take i xs ++ numbers_from m bs at) n
      ∙ e

  pub occasions_all : 16 ≤ i → xs ≡ all
  unfolding numbers_from
  occasions_all h =
      let n : 16 - i ≡ 0 = omega arith in
      sym (take_all i xs (omega arith)) ∙ sym (append-nil (take i xs)) ∙ ap (λ m. take i xs ++ numbers_from m bs at) (sym n) ∙ e
