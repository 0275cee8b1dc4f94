-- Arrivals that are accepted are few: their order rises below 32 x 16. Assumes nothing.
use Rattle.std.proofs.Common.{◌≡◌, ℕ, ◌+◌, ◌<◌, ◌≤◌, true, ltb, List, [], ◌∷◌, ◌++◌, length, Some, None, Ok, Option, sym, ap, ◌∙◌, subst, arith}
use Rattle.std.proofs.lemmas.Bool.{and_parts, leb-true, ltb-true}
use Rattle.std.proofs.lemmas.Bool.Decides.{nat_tests}
use Rattle.harq.specs.declared.configs.Config.{Config}
use Rattle.harq.specs.Words.{onward}
use Rattle.harq.specs.Configs.{config_within}
use Rattle.ue.specs.declared.arrivals.Arrival.{Arrival}
use Rattle.ue.specs.Checks.{last_of, rises_above, first_refused, config_judged, arrivals_judged}
use Rattle.ue.specs.Walks.{start, walk_from, slots_after, reach, CellFits}
use Rattle.ue.proofs.Walked.{pair, last_of_push, walked_none, walk_ends, judged_by}
use Rattle.ue.proofs.Accepted.{Passing, passing, arrived, held_ok}

within_limits : (g : Config) → config_within g ≡ true → (g.cells ≤ 16) × (g.occasions ≤ 32)
within_limits g e =
    let numbers = and_parts _ _ (and_parts _ _ e).0 in
    let occasions = and_parts _ _ (and_parts _ _ numbers.1).0 in
    (leb-true g.cells 16 (and_parts _ _ numbers.0).1, leb-true g.occasions 32 occasions.1)

-- an arrival above the last one reaches further
reaches : (o : Option Arrival) (a : Arrival) → CellFits (pair o) → rises_above o a ≡ true → reach (pair o) < reach (Some (a.occasion, a.cell))
reaches None a fits up = omega arith
reaches (Some p) a fits up = grind (arith, nat_tests)

module _ (g : Config) (within : config_within g ≡ true) where
  few_from : (xs earlier : List Arrival) → reach (pair (last_of earlier)) ≤ 512 → CellFits (pair (last_of earlier)) → Passing g earlier xs →
      reach (pair (last_of earlier)) + length xs ≤ 512
  few_from [] earlier low fits p = omega (arith, low)
  few_from (a ∷ rest) earlier low fits p =
      let limits = within_limits g within in
      let inside = and_parts (ltb a.cell g.cells) (ltb a.occasion g.occasions) p.0.range in
      let cell : a.cell < 16 = omega (arith, limits.0, ltb-true _ _ inside.0) in
      let occasion : a.occasion < 32 = omega (arith, limits.1, ltb-true _ _ inside.1) in
      let further = reaches (last_of earlier) a fits p.0.rises in
      let now = sym (last_of_push earlier a) in
      let more = few_from rest (earlier ++ a ∷ []) (subst (λ (o : Option Arrival). reach (pair o) ≤ 512) now (omega arith)) (subst (λ (o : Option Arrival). CellFits (pair o)) now cell) p.1 in
      let there = ap (λ (o : Option Arrival). reach (pair o)) (last_of_push earlier a) in
      omega (arith, more, further, there)

  pub few_unrefused : (xs : List Arrival) → first_refused g [] xs ≡ None → length xs ≤ 512
  few_unrefused xs e = omega (arith, few_from xs [] (omega arith) tt (passing g xs [] e))

  pub few_accepted : (xs : List Arrival) (n : ℕ) → arrivals_judged g xs ≡ Ok n → length xs ≤ 512
  few_accepted xs n e = omega (arith, few_from xs [] (omega arith) tt (arrived g xs n e).passing)

-- the walk's slot count, under a configuration that passed
pub walk_counts : (g : Config) (all : List Arrival) → Ok tt ≡ config_judged g →
    onward (walk_from g (start g) 0 all) (λ t. Ok (slots_after t)) ≡ onward (config_judged g) (λ _. arrivals_judged g all)
walk_counts g all passes =
    let within = held_ok (config_within g) _ _ _ (sym passes) in
    judged_by g all (first_refused g [] all) (walk_from g (start g) 0 all) (walk_ends g all [] (start g) (walked_none g)) (few_unrefused g within all)
    ∙ ap (λ r. onward r (λ _. arrivals_judged g all)) passes
