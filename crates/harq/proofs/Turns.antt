-- One step of placing, against the true number. Assumes nothing.
use Rattle.std.proofs.Common.{◌≡◌, ℕ, suc, ◌+◌, ◌-◌, ◌*◌, ◌/◌, ◌%◌, ◌<◌, ◌≤◌, Bool, true, false, cond, ltb, leb, refl, ap, ◌∙◌, mod-lt, mod-eq_of_lt, mul-suc, arith}
use native.Mathlib.Nat.{lt_of_mul-lt-mul_left, div-add-mod, add-mul-mod_self_left}
use Rattle.std.proofs.lemmas.Bool.{leb-true, leb-false}
use Rattle.dai.specs.Values.{value}
use Rattle.harq.specs.Placing.{turns_after}

-- number k stands in that turn with the value p
pub record Stands (span k turns p : ℕ) : Type 0 where
  pub is : k ≡ span * turns + p
  pub top : p ≤ span

-- the turn of number k
abbrev pub turn_of : ℕ → ℕ → ℕ
turn_of span k = (k - 1) / span

-- every number from 1 stands with its counter value
pub stands : (span k : ℕ) → 0 < span → 0 < k → Stands span k (turn_of span k) (value span k)
stands span k hs hk =
    record { is = omega (arith, div-add-mod (k - 1) span); top = omega (arith, mod-lt (k - 1) hs) }

-- and what it stands with is its counter value
pub stands_value : (span k turns p : ℕ) → Stands span k turns p → 0 < p → value span k ≡ p
stands_value span k turns p s hp =
    let same : k - 1 ≡ (p - 1) + span * turns = omega arith in
    let low : p - 1 < span = omega arith in
    let rest : (k - 1) % span ≡ p - 1 = ap (λ (n : ℕ). n % span) same ∙ add-mul-mod_self_left (p - 1) span turns ∙ mod-eq_of_lt low in
    omega arith

-- quotients compare as the products do
pub below : (span a b : ℕ) (x : ℕ) → span * a + x < span * b + span → a < suc b
below span a b x h = lt_of_mul-lt-mul_left span (omega (arith, mul-suc span b))

-- The placer is in turn j, and the number k before stands in turn J with the value p. The next number k' has the value v in turn J'.
-- It may reach one past the span, so that the end value e, which may be the last counter's own, goes as the value e + 1 of the next number.
module _ (span j J p k v J' k' : ℕ) (s : Stands span k J p) (t : k' ≡ span * J' + v) (near : v ≤ span + p) (hv : 0 < v) (lt : k < k') (le : j ≤ J) where
  go_le : (b : Bool) → leb v p ≡ b → cond b (j + 1) j ≤ J'
  go_le true e =
      let vp : v ≤ p = leb-true v p e in
      let less : J < J' = lt_of_mul-lt-mul_left span (omega arith) in
      omega arith
  go_le false e =
      let less : J < suc J' = below span J J' 0 (omega arith) in
      omega arith

  go_exact : (b : Bool) → leb v p ≡ b → cond b (j + 1) j ≡ J' → (j ≡ J) × (k' ≤ k + span)
  go_exact true e q =
      let vp : v ≤ p = leb-true v p e in
      let less : J < J' = lt_of_mul-lt-mul_left span (omega arith) in
      let same : J' ≡ suc J = omega arith in
      (omega arith, omega (arith, ap (λ (n : ℕ). span * n) same, mul-suc span J))
  go_exact false e q =
      let less : J < suc J' = below span J J' 0 (omega arith) in
      let same : J' ≡ J = omega arith in
      (omega arith, omega (arith, ap (λ (n : ℕ). span * n) same))

  go_kept : (b : Bool) → leb v p ≡ b → j ≡ J → k' ≤ k + span → cond b (j + 1) j ≡ J'
  go_kept true e q far =
      let vp : v ≤ p = leb-true v p e in
      let less : J < J' = lt_of_mul-lt-mul_left span (omega arith) in
      let top : J' < suc (suc J) = below span J' (suc J) 0 (omega (arith, mul-suc span J)) in
      omega arith
  go_kept false e q far =
      let vp : p < v = leb-false v p e in
      let less : J < suc J' = below span J J' 0 (omega arith) in
      let top : J' < suc J = below span J' J 0 (omega arith) in
      omega arith

-- the next arrival, k'
module _ (span j J p k v J' k' : ℕ) (s : Stands span k J p) (t : Stands span k' J' v) (hv : 0 < v) (lt : k < k') (le : j ≤ J) where
  pub turn_le : turns_after j p v ≤ J'
  turn_le = go_le span j J p k v J' k' s t.is (omega arith) hv lt le (leb v p) refl

  pub turn_exact : turns_after j p v ≡ J' → (j ≡ J) × (k' ≤ k + span)
  turn_exact = go_exact span j J p k v J' k' s t.is (omega arith) hv lt le (leb v p) refl

  pub turn_kept : j ≡ J → k' ≤ k + span → turns_after j p v ≡ J'
  turn_kept = go_kept span j J p k v J' k' s t.is (omega arith) hv lt le (leb v p) refl

-- the end value e, of number K: at or after the last arrival k
module _ (span j J p k e JK K : ℕ) (s : Stands span k J p) (t : Stands span K JK e) (hp : 0 < p) (ge : k ≤ K) (le : j ≤ J) where
  pub end_le : cond (ltb e p) (j + 1) j ≤ JK
  end_le = go_le span j J p k (suc e) JK (suc K) s (omega arith) (omega arith) (omega arith) (omega arith) le (ltb e p) refl

  pub end_exact : cond (ltb e p) (j + 1) j ≡ JK → (j ≡ J) × (K < k + span)
  end_exact q =
      let r = go_exact span j J p k (suc e) JK (suc K) s (omega arith) (omega arith) (omega arith) (omega arith) le (ltb e p) refl q in
      (r.0, omega arith)

  pub end_kept : j ≡ J → K < k + span → cond (ltb e p) (j + 1) j ≡ JK
  end_kept q far = go_kept span j J p k (suc e) JK (suc K) s (omega arith) (omega arith) (omega arith) (omega arith) le (ltb e p) refl q (omega arith)
