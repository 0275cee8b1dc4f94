-- The placer follows the definition of placing as long as its turns are below the largest number. Assumes nothing.
use Rattle.std.proofs.Common.{◌≡◌, ℕ, ◌+◌, ◌-◌, ◌*◌, ◌/◌, ◌<◌, ◌≤◌, min, Bool, true, false, cond, ◌||◌, eqb, ltb, leb, List, [], ◌∷◌, length, fold, sym, refl, ap, ◌∙◌, subst, mul-le-mul, div-le_self, arith}
use Rattle.std.proofs.lemmas.Bool.{cond-false}
use Rattle.std.proofs.lemmas.Bool.Decides.{nat_tests}
use Rattle.harq.specs.declared.placing.Placer.{Placer}
use Rattle.dai.specs.Values.{value}
use Rattle.harq.specs.Words.{last_or}
use Rattle.harq.specs.Placing.{turns_after, place_of, count_after}
use Rattle.harq.specs.Placers.{fresh, placer_after, turns_of, advanced, place_at, slots_at}
use Rattle.harq.proofs.Turns.{Stands, stands, turn_of, turn_kept}
use Rattle.harq.proofs.Standing.{stands_none}

-- one more turn is not the last that fits
pub turns_of_is : (p : Placer) (v : ℕ) → p.turns < 4294967295 → turns_of p v ≡ turns_after p.turns p.previous v
turns_of_is p v h = let e : min (p.turns + 1) 4294967295 ≡ p.turns + 1 = omega arith in ap (λ n. cond (leb v p.previous) n p.turns) e

pub place_at_is : (p : Placer) (v : ℕ) → p.turns < 4294967295 → place_at p v ≡ place_of p.span p.turns p.previous v
place_at_is p v h = ap (λ t. p.span * t + v - 1) (turns_of_is p v h)

pub turns_of_le : (p : Placer) (v : ℕ) → turns_of p v ≤ p.turns + 1
turns_of_le p v = grind (arith, nat_tests)

-- the slot count of a placer that has come through a row of counters
pub slots_at_along : (vs : List ℕ) (p : Placer) (e : ℕ) → p.turns + length vs < 4294967295 →
    slots_at (fold advanced p vs) e ≡ count_after p.span p.turns p.previous vs e
slots_at_along [] p e h =
    let k : min (p.turns + 1) 4294967295 ≡ p.turns + 1 = omega arith in
    ap (λ n. p.span * cond (ltb e p.previous) n p.turns + e) k
slots_at_along (v ∷ vs) p e h =
    slots_at_along vs (advanced p v) e (omega (arith, turns_of_le p v))
    ∙ ap (λ t. count_after p.span t v vs e) (turns_of_is p v (omega arith))

-- it keeps the last counter
pub previous_along : (v : ℕ) (vs : List ℕ) (p : Placer) → (fold advanced p (v ∷ vs)).previous ≡ last_or v vs
previous_along v [] p = refl
previous_along v (w ∷ vs) p = previous_along w vs (advanced p v)

-- few turns of a narrow span make few slots
pub slots_at_le : (p : Placer) (e : ℕ) → p.span ≤ 4 → p.turns ≤ 512 → slots_at p e ≤ 2052 + e
slots_at_le p e narrow few =
    let t : cond (ltb e p.previous) (min (p.turns + 1) 4294967295) p.turns ≤ 513 = grind (arith, nat_tests) in
    omega (arith, mul-le-mul narrow t)

-- number k + 1 behind the numbers 1 to k: its place is k, and the placer goes on
module _ (span : ℕ) (some : 0 < span) where
  -- the placer by its parts
  record After (k : ℕ) (p : Placer) : Type 0 where
    wide : p.span ≡ span
    stand : Stands span k p.turns p.previous
    few : p.turns ≤ k

  after_is : (k : ℕ) → (b : Bool) → (eqb k 0 || eqb span 0) ≡ b →
      After k (cond b (fresh span) (record { span = span; turns = (k - 1) / span; previous = value span k }))
  after_is k true e =
      let z : k ≡ 0 = grind (arith, nat_tests) in
      record { wide = refl; stand = subst (λ (n : ℕ). Stands span n 0 0) (sym z) (stands_none span); few = omega arith }
  after_is k false e =
      let h : 0 < k = grind (arith, nat_tests) in
      record { wide = refl; stand = stands span k some h; few = omega (arith, div-le_self (k - 1) span) }

  after_k : (k : ℕ) → After k (placer_after span k)
  after_k k = after_is k (eqb k 0 || eqb span 0) refl

  -- one more turn, or not
  turns_next : (k : ℕ) (p : Placer) → After k p → k < 4294967295 → turns_of p (value span (k + 1)) ≡ turn_of span (k + 1)
  turns_next k p a small =
      turns_of_is p (value span (k + 1)) (omega (arith, a.few))
      ∙ turn_kept span p.turns p.turns p.previous k (value span (k + 1)) (turn_of span (k + 1)) (k + 1) a.stand (stands span (k + 1) some (omega arith)) (omega arith) (omega arith) (omega arith) refl (omega arith)

  pub place_next : (k : ℕ) → k < 4294967295 → place_at (placer_after span k) (value span (k + 1)) ≡ k
  place_next k small =
      let a = after_k k in
      let s = stands span (k + 1) some (omega arith) in
      ap (λ (w : ℕ). w * turns_of (placer_after span k) (value span (k + 1)) + value span (k + 1) - 1) a.wide
      ∙ ap (λ (t : ℕ). span * t + value span (k + 1) - 1) (turns_next k (placer_after span k) a small)
      ∙ (omega (arith, s.is))

  pub placer_next : (k : ℕ) → k < 4294967295 → advanced (placer_after span k) (value span (k + 1)) ≡ placer_after span (k + 1)
  placer_next k small =
      let a = after_k k in
      ap (λ (w : ℕ). record { span = w; turns = turns_of (placer_after span k) (value span (k + 1)); previous = value span (k + 1) }) a.wide
      ∙ ap (λ (t : ℕ). record { span = span; turns = t; previous = value span (k + 1) }) (turns_next k (placer_after span k) a small)
      ∙ sym (cond-false (eqb (k + 1) 0 || eqb span 0) (fresh span) (record { span = span; turns = turn_of span (k + 1); previous = value span (k + 1) }) (grind (arith, nat_tests)))
