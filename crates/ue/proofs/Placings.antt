-- One pass of placing writes each counted arrival at its place. Assumes nothing.
use Rattle.std.proofs.Common.{◌≡◌, ℕ, suc, ◌+◌, ◌<◌, ◌≤◌, Bool, true, false, cond, ltb, List, [], ◌∷◌, map, length, set, replicate, sym, refl, ap, ◌∙◌, subst, arith, length-set}
use Rattle.std.proofs.lemmas.List.{append-nil, length-replicate, length-map}
use Rattle.std.proofs.lemmas.Bool.{cond-true, lt-ltb}
use Rattle.harq.specs.declared.configs.Config.{Config}
use Rattle.harq.specs.declared.placing.Placer.{Placer}
use Rattle.harq.specs.Configs.{span}
use Rattle.harq.specs.Placing.{turns_after, place_of, places, written_at}
use Rattle.harq.specs.PlacingLaws.{Rising, Below}
use Rattle.harq.specs.Placers.{fresh, turns_of, advanced, place_at}
use Rattle.harq.proofs.Placers.{turns_of_is, place_at_is, turns_of_le}
use Rattle.harq.proofs.Rows.{length_places, below_le}
use Rattle.harq.proofs.Writing.{written_over}
use Rattle.ue.specs.declared.arrivals.Arrival.{Arrival}
use Rattle.ue.specs.declared.slots.Slot.{Slot}
use Rattle.ue.specs.Slots.{slot_of, nack}
use Rattle.ue.specs.Batches.{counter, counting, counted, counters, slots_in}
use Rattle.ue.specs.Fillings.{placed_by}
use Rattle.ue.specs.Reports.{places_of, held}

module _ (g : Config) where
  -- with a case for whether the first arrival counts
  abbrev PlacedIs : List Arrival → Placer → List Slot → Type 0
  PlacedIs xs p slots =
      Below (length slots) (places p.span p.turns p.previous (counters g xs)) →
      placed_by g p xs slots ≡ written_at (places p.span p.turns p.previous (counters g xs)) (map slot_of (counted g xs)) slots

  module _ (a : Arrival) (rest : List Arrival) (p : Placer) (slots : List Slot) (few : p.turns + suc (length rest) < 4294967295)
      (ih : (q : Placer) (ys : List Slot) → q.turns + length rest < 4294967295 → PlacedIs rest q ys) where
    here : place_at p (counter g a) ≡ place_of p.span p.turns p.previous (counter g a)
    here = place_at_is p (counter g a) (omega arith)

    go_placed : (b : Bool) →
        Below (length slots) (places p.span p.turns p.previous (map (counter g) (cond b (a ∷ counted g rest) (counted g rest)))) →
        placed_by g (cond b (cond (ltb (place_at p (counter g a)) (length slots)) (advanced p (counter g a)) p) p) rest (cond b (set slots (place_at p (counter g a)) (slot_of a)) slots)
        ≡ written_at (places p.span p.turns p.previous (map (counter g) (cond b (a ∷ counted g rest) (counted g rest)))) (map slot_of (cond b (a ∷ counted g rest) (counted g rest))) slots
    go_placed false below = ih p slots (omega arith) below
    go_placed true below =
        let v : ℕ = counter g a in
        let P : ℕ = place_of p.span p.turns p.previous v in
        let fits : P < length slots = below.0 in
        let ys : List Slot = set slots P (slot_of a) in
        let moves : cond (ltb (place_at p v) (length slots)) (advanced p v) p ≡ advanced p v = cond-true (ltb (place_at p v) (length slots)) _ _ (lt-ltb _ _ (omega (arith, here))) in
        let turns-is : turns_of p v ≡ turns_after p.turns p.previous v = turns_of_is p v (omega arith) in
        let same : places p.span (turns_after p.turns p.previous v) v (counters g rest) ≡ places p.span (turns_of p v) v (counters g rest) =
        ap (λ (t : ℕ). places p.span t v (counters g rest)) (sym turns-is)
        in
        let inside : Below (length ys) (places p.span (turns_of p v) v (counters g rest)) =
        subst (λ (n : ℕ). Below n (places p.span (turns_of p v) v (counters g rest))) (sym (length-set slots P (slot_of a))) (subst (Below (length slots)) same below.1)
        in
        ap (λ (q : Placer). placed_by g q rest (set slots (place_at p v) (slot_of a))) moves
        ∙ ap (λ (n : ℕ). placed_by g (advanced p v) rest (set slots n (slot_of a))) here
        ∙ ih (advanced p v) ys (omega (arith, turns_of_le p v)) inside
        ∙ ap (λ (qs : List ℕ). written_at qs (map slot_of (counted g rest)) ys) (sym same)

  pub placed_is : (xs : List Arrival) (p : Placer) (slots : List Slot) → p.turns + length xs < 4294967295 → PlacedIs xs p slots
  placed_is [] p slots few below = refl
  placed_is (a ∷ rest) p slots few below = go_placed a rest p slots few (placed_is rest) (counting g a) below

  -- over NACKs alone: what the places hold
  pub placed_held : (xs : List Arrival) (n : ℕ) → length xs ≤ 512 → n ≡ slots_in g xs → Rising 0 (places_of g xs) → Below (slots_in g xs) (places_of g xs) →
      placed_by g (fresh (span g)) xs (replicate n nack) ≡ held g xs
  placed_held xs n few is rising below =
      let within : Below (length (replicate n nack)) (places_of g xs) = below_le _ _ (places_of g xs) (omega (arith, length-replicate n nack)) below in
      let same : length (map slot_of (counted g xs)) ≡ length (places_of g xs) =
      length-map (counted g xs) slot_of ∙ sym (length_places (span g) 0 0 (counters g xs) ∙ length-map (counted g xs) (counter g))
      in
      placed_is xs (fresh (span g)) (replicate n nack) (omega arith) within
      ∙ ap (λ (k : ℕ). written_at (places_of g xs) (map slot_of (counted g xs)) (replicate k nack)) is
      ∙ ap (written_at (places_of g xs) (map slot_of (counted g xs))) (sym (append-nil (replicate (slots_in g xs) nack)))
      ∙ written_over (places_of g xs) (map slot_of (counted g xs)) [] (slots_in g xs) nack rising below same
      ∙ append-nil (held g xs)
