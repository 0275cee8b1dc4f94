-- A list in order has at most 64 elements. Assumes nothing.
use Rattle.std.proofs.Common.{◌≡◌, ℕ, ◌+◌, ◌≤◌, Bool, true, false, cond, ◌&&◌, List, [], ◌∷◌, length, Some, None, Option, refl, arith}
use Rattle.std.proofs.lemmas.Bool.{and_parts, ltb-true}
use Rattle.harq.specs.declared.configs.Config.{Config}
use Rattle.harq.specs.declared.sps.SpsEntry.{SpsEntry}
use Rattle.harq.specs.SpsLists.{entry_fits, unfit_from}

module _ {X : Type 0} (listed : X → SpsEntry) (sound : X → Bool) (g : Config) where
  few_rest : (b : Bool) (i n : ℕ) (o : Option ℕ) → cond b o (Some i) ≡ None → (b ≡ true → o ≡ None → n ≤ 64) → n ≤ 64
  few_rest true i n o e h = h refl e
  few_rest false i n o e h = absurd cc

  pub fit_few : (xs : List X) (i : ℕ) (previous : Option SpsEntry) → i ≤ 64 → unfit_from listed sound g i previous xs ≡ None → i + length xs ≤ 64
  fit_few [] i previous h e = omega arith
  fit_few (x ∷ xs) i previous h e =
      few_rest (entry_fits g i previous (listed x) && sound x) i (i + length (x ∷ xs)) (unfit_from listed sound g (i + 1) (Some (listed x)) xs) e (λ fits rest.
      let below = ltb-true i 64 (and_parts _ _ (and_parts _ _ fits).0).0 in
      omega (arith, fit_few xs (i + 1) (Some (listed x)) (omega arith) rest))
