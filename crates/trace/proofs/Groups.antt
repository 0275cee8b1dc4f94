-- One turn of `read_number`. Assumes nothing.
use Rattle.std.proofs.Common.{◌≡◌, ℕ, ◌+◌, ◌-◌, ◌*◌, ◌^◌, ◌<◌, ◌≤◌, ltb, List, length, get_or, drop, Some, None, Err, Option, Result, sym, refl, ap, ◌∙◌, mul_assoc, mul-add, arith}
use Rattle.std.proofs.lemmas.List.{at_drop_more, at_drop_all}
use Rattle.std.proofs.lemmas.Nat.{mul-le}
use Rattle.std.proofs.lemmas.Bool.{cond-true, cond-false, lt-ltb, le-ltb}
use Rattle.std.proofs.lemmas.Bool.Decides.{nat_tests}
use Rattle.trace.specs.declared.faults.Fault.{Fault}
use Rattle.trace.specs.declared.faults.Layer.TheVariants as layer
use Rattle.trace.specs.Numbers.{before, groups, limited, closed}
use Rattle.trace.specs.Faults.{broken_at}

-- what is read, once groups worth v are behind, with w the weight of the next group
abbrev pub outcome : (at next v w : ℕ) → Option (ℕ × ℕ) → Result (ℕ × ℕ) Fault
outcome at next v w None = Err (broken_at layer.Number at)
outcome at next v w (Some p) = closed at (next + p.1) v w p.0

pub outcome_none : (at : ℕ) (o : Option (ℕ × ℕ)) → limited at o ≡ outcome at at 0 1 o
outcome_none at None = refl
outcome_none at (Some p) = grind (arith, nat_tests)

pub outcome_more : (at next v w g : ℕ) (o : Option (ℕ × ℕ)) → 0 < w → outcome at next v w (before g o) ≡ outcome at (next + 1) (v + w * g) (w * 128) o
outcome_more at next v w g None h = refl
outcome_more at next v w g (Some p) h =
    let e : w * (g + 128 * p.0) ≡ w * g + w * 128 * p.0 = mul-add w g (128 * p.0) ∙ ap (λ x. w * g + x) (sym (mul_assoc w 128 p.0)) in
    grind (arith, nat_tests)

pub outcome_large : (at next v w : ℕ) (o : Option (ℕ × ℕ)) → 2 ^ 32 ≤ w → outcome at next v w o ≡ Err (broken_at layer.Number at)
outcome_large at next v w None h = refl
outcome_large at next v w (Some p) h =
    let e : 0 < p.0 → w * 1 ≤ w * p.0 = λ k. mul-le w 1 w p.0 (omega arith) k in grind (arith, nat_tests)

-- the byte at i is the last of the number
pub outcome_last : (bs : List ℕ) (at i v w : ℕ) → i < length bs → get_or bs i 0 < 128 → outcome at i v w (groups (drop i bs)) ≡ outcome at i v w (Some (get_or bs i 0, 1))
outcome_last bs at i v w h k =
    ap (outcome at i v w) (at_drop_more groups bs i 0 h ∙ cond-true (ltb (get_or bs i 0) 128) _ _ (lt-ltb _ 128 k))

-- another follows it
pub outcome_next : (bs : List ℕ) (at i v w : ℕ) → i < length bs → 128 ≤ get_or bs i 0 → 0 < w → outcome at i v w (groups (drop i bs)) ≡ outcome at (i + 1) (v + w * (get_or bs i 0 - 128)) (w * 128) (groups (drop (i + 1) bs))
outcome_next bs at i v w h k p =
    ap (outcome at i v w) (at_drop_more groups bs i 0 h ∙ cond-false (ltb (get_or bs i 0) 128) _ _ (le-ltb _ 128 k)) ∙ outcome_more at i v w (get_or bs i 0 - 128) (groups (drop (i + 1) bs)) p

pub outcome_end : (bs : List ℕ) (at i v w : ℕ) → length bs ≤ i → outcome at i v w (groups (drop i bs)) ≡ Err (broken_at layer.Number at)
outcome_end bs at i v w h = ap (outcome at i v w) (at_drop_all groups bs i h)
