-- What holds of a batch that is not declined. Assumes nothing.
use Rattle.std.specs.Prelude.{flat_map}
use Rattle.std.specs.Option.{option_or}
use Rattle.std.proofs.Common.{◌≡◌, ℕ, ◌+◌, ◌*◌, ◌<◌, ◌≤◌, Bool, true, false, cond, eqb, List, [], ◌∷◌, ◌++◌, map, length, is_some, Some, None, Ok, Err, Option, Result, unwrap_or, sym, refl, ap, ◌∙◌, subst, ap₂, arith}
use Rattle.std.specs.List.{AllByRecursion}
use Rattle.std.proofs.lemmas.List.{length-append, length-map}
use Rattle.std.proofs.lemmas.Bool.{not-false, ltb-false, cond_both}
use Rattle.harq.specs.declared.configs.Config.{Config}
use Rattle.harq.specs.declared.refusals.Refusal.{Refusal}
use Rattle.harq.specs.Words.{last_or, onward}
use Rattle.harq.specs.Configs.{span, bits_per_place, config_within, in_range}
use Rattle.harq.specs.Placing.{places, slot_count}
use Rattle.harq.specs.PlacingLaws.{Within, Rising, Below, Placed}
use Rattle.harq.proofs.Rows.{length_places}
use Rattle.harq.proofs.Standing.{below_from, placing_stands}
use Rattle.ue.specs.declared.arrivals.Arrival.{Arrival}
use Rattle.ue.specs.declared.arrivals.SpsOutcome.{SpsOutcome}
use Rattle.ue.specs.declared.declines.Decline.{Decline}
use Rattle.ue.specs.declared.slots.Slot.{Slot}
use Rattle.ue.specs.Slots.{first_bit, second_bit, place_bits}
use Rattle.ue.specs.Batches.{dai_of, counter, total, counting, brought, counted, counters, total_at, end_value, slots_in}
use Rattle.ue.specs.Checks.{last_of, rises_above, total_differs, arrival_refused, first_refused, config_judged, slots_or, arrivals_judged, sps_judged, size_judged, length_of, judged}
use Rattle.ue.specs.Reports.{places_of, held, held_at, sps_bit, report_bits}
use Rattle.std.proofs.lemmas.List.FromFn.{length-map-range_with_len}
use Rattle.std.proofs.ByRecursion.{all_kept_by}
use Rattle.ue.proofs.Pieces.{length_pieces}
use Rattle.ue.proofs.Fields.{TotalWithin, read_within, counter_within, total_within}

-- a check that refuses nothing
unrefused : {X : Type 0} (b : Bool) (e : X) (o : Option X) → cond b (Some e) o ≡ None → (b ≡ false) × (o ≡ None)
unrefused true e o q = let z : ◌≡◌ {A = ℕ} 0 1 = cc in absurd (omega arith)
unrefused false e o q = (refl, q)

-- an arrival that passes the checks behind earlier ones
pub record Passed (g : Config) (earlier : List Arrival) (a : Arrival) : Type 0 where
  pub range : in_range g a.cell a.occasion ≡ true
  pub rises : rises_above (last_of earlier) a ≡ true
  pub read : is_some (dai_of g a) ≡ true
  pub brings : brought g a ≡ true
  pub totals : total_differs g earlier a ≡ false

-- and each behind the ones before it
abbrev pub Passing : Config → List Arrival → List Arrival → Type 0
Passing g earlier [] = Unit {0}
Passing g earlier (a ∷ rest) = Passed g earlier a × Passing g (earlier ++ a ∷ []) rest

module _ (g : Config) where
  passed : (earlier : List Arrival) (a : Arrival) → arrival_refused g earlier a ≡ None → Passed g earlier a
  passed earlier a e =
      let c₁ = unrefused _ _ _ e in
      let c₂ = unrefused _ _ _ c₁.1 in
      let c₃ = unrefused _ _ _ c₂.1 in
      let c₄ = unrefused _ _ _ c₃.1 in
      let c₅ = unrefused _ _ _ c₄.1 in
      record {
        range = not-false _ c₁.0;
        rises = not-false _ c₂.0;
        read = not-false _ c₃.0;
        brings = not-false _ c₄.0;
        totals = c₅.0;
      }

  go_passing : (rest earlier : List Arrival) (a : Arrival) → (first_refused g (earlier ++ a ∷ []) rest ≡ None → Passing g (earlier ++ a ∷ []) rest) →
      (o : Option Refusal) → arrival_refused g earlier a ≡ o →
      ◌≡◌ {A = Option (ℕ × Refusal)} (elim o [ Some e ↦ Some (length earlier, e) | None ↦ first_refused g (earlier ++ (a ∷ [])) rest ]) None → Passing g earlier (a ∷ rest)
  go_passing rest earlier a ih None p q = (passed earlier a p, ih q)
  go_passing rest earlier a ih (Some e) p q = let z : ◌≡◌ {A = ℕ} 0 1 = cc in absurd (omega arith)

  pub passing : (xs earlier : List Arrival) → first_refused g earlier xs ≡ None → Passing g earlier xs
  passing [] earlier e = tt
  passing (a ∷ rest) earlier e = go_passing rest earlier a (passing rest (earlier ++ a ∷ [])) (arrival_refused g earlier a) refl e

  -- what follows for each arrival from its own checks
  pub all_passing : (P : Arrival → Type 0) → ((earlier : List Arrival) (a : Arrival) → Passed g earlier a → P a) →
      (xs earlier : List Arrival) → Passing g earlier xs → AllByRecursion P xs
  all_passing P f [] earlier p = tt
  all_passing P f (a ∷ rest) earlier p = (f earlier a p.0, all_passing P f rest (earlier ++ a ∷ []) p.1)

-- the arrivals are accepted, with that slot count
pub record Arrived (g : Config) (arrivals : List Arrival) (n : ℕ) : Type 0 where
  pub passing : Passing g [] arrivals
  pub slots : n ≡ slots_in g arrivals

slotted : (n m : ℕ) (o : Option (ℕ × Refusal)) → slots_or n o ≡ Ok m → (o ≡ None) × (m ≡ n)
slotted n m None e = let z : n ≡ m = cc in (refl, sym z)
slotted n m (Some p) e = let z : ◌≡◌ {A = ℕ} 0 1 = cc in absurd (omega arith)

pub arrived : (g : Config) (arrivals : List Arrival) (n : ℕ) → arrivals_judged g arrivals ≡ Ok n → Arrived g arrivals n
arrived g arrivals n e =
    let s = slotted (slots_in g arrivals) n (first_refused g [] arrivals) e in
    record { passing = passing g arrivals [] s.0; slots = s.1 }

-- an arrival whose field was read
abbrev WasRead : Config → Arrival → Type 0
WasRead g a = is_some (dai_of g a) ≡ true

module _ (g : Config) where
  span_some : 0 < span g
  span_some = cond_both (eqb g.width 1) 2 4 (λ s. 0 < s) (λ _. omega arith) (λ _. omega arith)

  counters_within : (xs : List Arrival) → AllByRecursion (WasRead g) xs → Within (span g) (map (counter g) xs)
  counters_within [] h = tt
  counters_within (a ∷ xs) h = (counter_within (span g) (dai_of g a) h.0 (read_within g a.format a.field), counters_within xs h.1)

  or_within : (s : ℕ) (o u : Option ℕ) → TotalWithin s o → TotalWithin s u → TotalWithin s (option_or o u)
  or_within s None u h k = k
  or_within s (Some t) u h k = h

  total_at_within : (m : ℕ) (xs : List Arrival) → TotalWithin (span g) (total_at g m xs)
  total_at_within m [] = tt
  total_at_within m (a ∷ xs) =
      or_within (span g) (cond (eqb a.occasion m) (total g a) None) (total_at g m xs)
      (cond_both (eqb a.occasion m) (total g a) None (TotalWithin (span g)) (λ _. total_within (span g) (dai_of g a) (read_within g a.format a.field)) (λ _. tt))
      (total_at_within m xs)

  value_within : (s d : ℕ) (o : Option ℕ) → (0 < d) × (d ≤ s) → TotalWithin s o → (0 < unwrap_or o d) × (unwrap_or o d ≤ s)
  value_within s d None h k = h
  value_within s d (Some t) h k = k

  last_read : (a : Arrival) (xs : List Arrival) → AllByRecursion (WasRead g) (a ∷ xs) → WasRead g (last_or a xs)
  last_read a [] h = h.0
  last_read a (b ∷ xs) h = last_read b xs h.1

  ends_within : (xs : List Arrival) → AllByRecursion (WasRead g) xs → 0 < length xs → (0 < end_value g xs) × (end_value g xs ≤ span g)
  ends_within [] h some = absurd (omega arith)
  ends_within (a ∷ xs) h some =
      let b : Arrival = last_or a xs in
      value_within (span g) (counter g b) (total_at g b.occasion (a ∷ xs))
      (counter_within (span g) (dai_of g b) (last_read a xs h) (read_within g b.format b.field)) (total_at_within b.occasion (a ∷ xs))

  row_below : (xs : List Arrival) → AllByRecursion (WasRead g) xs →
      Below (slot_count (span g) (map (counter g) xs) (end_value g xs)) (places (span g) 0 0 (map (counter g) xs))
  row_below [] h = tt
  row_below (a ∷ xs) h = below_from (span g) span_some (end_value g (a ∷ xs)) (map (counter g) (a ∷ xs)) 0 0 (counters_within (a ∷ xs) h)

-- arrivals that are accepted
module _ (g : Config) (arrivals : List Arrival) (n : ℕ) (e : arrivals_judged g arrivals ≡ Ok n) where
  -- what follows for each counted arrival from its own checks
  pub all_counted : (P : Arrival → Type 0) → ((earlier : List Arrival) (a : Arrival) → Passed g earlier a → P a) → AllByRecursion P (counted g arrivals)
  all_counted P f = all_kept_by (counting g) P arrivals (all_passing g P f arrivals [] (arrived g arrivals n e).passing)

  counted_read : AllByRecursion (WasRead g) (counted g arrivals)
  counted_read = all_counted (WasRead g) (λ _ a p. p.read)

  -- counters lie within 1..span
  pub accepted_within : Within (span g) (counters g arrivals)
  accepted_within = counters_within g (counted g arrivals) counted_read

  -- and so does the end value
  pub end_within : 0 < length (counted g arrivals) → (0 < end_value g (counted g arrivals)) × (end_value g (counted g arrivals) ≤ span g)
  end_within some = ends_within g (counted g arrivals) counted_read some

  pub placed : Placed (span g) (counters g arrivals)
  placed = placing_stands (span g) (span_some g) (counters g arrivals) accepted_within

  -- places rise, below the slot count
  pub rising : Rising 0 (places_of g arrivals)
  rising = placed.rises

  pub below_slots : Below (slots_in g arrivals) (places_of g arrivals)
  below_slots = row_below g (counted g arrivals) counted_read

  pub arrivals_slots : n ≡ slots_in g arrivals
  arrivals_slots = (arrived g arrivals n e).slots

-- what was answered behind an answer
onward_ok : {X Y E : Type 0} (r : Result X E) (f : X → Result Y E) (y : Y) → onward r f ≡ Ok y → (x : X) × ((r ≡ Ok x) × (f x ≡ Ok y))
onward_ok (Ok x) f y e = (x, (refl, e))
onward_ok (Err d) f y e = let z : ◌≡◌ {A = ℕ} 0 1 = cc in absurd (omega arith)

-- a check that must hold, and one that must not
pub held_ok : {X E : Type 0} (b : Bool) (r : Result X E) (d : E) (x : X) → cond b r (Err d) ≡ Ok x → b ≡ true
held_ok true r d x e = refl
held_ok false r d x e = let z : ◌≡◌ {A = ℕ} 0 1 = cc in absurd (omega arith)

passed_ok : {X E : Type 0} (b : Bool) (d : E) (r : Result X E) (x : X) → cond b (Err d) r ≡ Ok x → (b ≡ false) × (r ≡ Ok x)
passed_ok true d r x e = let z : ◌≡◌ {A = ℕ} 0 1 = cc in absurd (omega arith)
passed_ok false d r x e = (refl, e)

-- a report that is accepted, with n slots
pub record Accepted (g : Config) (arrivals : List Arrival) (sps : List SpsOutcome) (lent room n : ℕ) : Type 0 where
  pub config : config_within g ≡ true
  pub passes : arrivals_judged g arrivals ≡ Ok n
  pub fits : sps_judged g sps ≡ Ok tt
  pub slots : n ≡ slots_in g arrivals
  pub short : length_of g n (length sps) ≤ 1706
  pub lends : n ≤ lent
  pub holds : length_of g n (length sps) ≤ room

module _ (g : Config) (arrivals : List Arrival) (sps : List SpsOutcome) (lent room n : ℕ) (e : judged g arrivals sps lent room ≡ Ok n) where
  pub accepted : Accepted g arrivals sps lent room n
  accepted =
      let c = onward_ok (config_judged g) _ n e in
      let a = onward_ok (arrivals_judged g arrivals) _ n c.1.1 in
      let s = onward_ok (sps_judged g sps) _ n a.1.1 in
      let z = onward_ok (size_judged g a.0 (length sps) lent room) _ n s.1.1 in
      let same : a.0 ≡ n = let q : ◌≡◌ {A = Result ℕ Decline} (Ok a.0) (Ok n) = z.1.1 in cc in
      let passes : arrivals_judged g arrivals ≡ Ok n = a.1.0 ∙ ap Ok same in
      let sized : size_judged g n (length sps) lent room ≡ Ok tt = subst (λ m. size_judged g m (length sps) lent room ≡ Ok tt) same z.1.0 in
      let l = passed_ok _ _ _ _ sized in
      let t = passed_ok _ _ _ _ l.1 in
      let r = passed_ok _ _ _ _ t.1 in
      record {
        config = held_ok _ _ _ _ c.1.0;
        passes = passes;
        fits = s.1.0;
        slots = arrivals_slots g arrivals n passes;
        short = ltb-false _ _ l.0;
        lends = ltb-false _ _ t.0;
        holds = ltb-false _ _ r.0;
      }

  pub judged_slots : n ≡ slots_in g arrivals
  judged_slots = accepted.slots

-- lengths
pub length_place_bits : (mode : ℕ) (s : Slot) → length (place_bits mode s) ≡ cond (eqb mode 1) 2 1
length_place_bits mode s = elim (eqb mode 1) as (λ b. length (cond b (first_bit mode s ∷ second_bit s ∷ []) (first_bit mode s ∷ [])) ≡ cond b 2 1) [ true ↦ refl | false ↦ refl ]

module _ (g : Config) (arrivals : List Arrival) where
  pub length_counted_places : length (places_of g arrivals) ≡ length (counted g arrivals)
  length_counted_places = length_places (span g) 0 0 (counters g arrivals) ∙ length-map (counted g arrivals) (counter g)

  pub length_held : length (held g arrivals) ≡ slots_in g arrivals
  length_held = length-map-range_with_len (held_at g arrivals) 0 (slots_in g arrivals)

  -- the bits of the slots
  pub length_slot_bits : length (flat_map (place_bits g.mode) (held g arrivals)) ≡ bits_per_place g * slots_in g arrivals
  length_slot_bits =
      length_pieces (place_bits g.mode) (bits_per_place g) (length_place_bits g.mode) (held g arrivals)
      ∙ ap (λ (n : ℕ). bits_per_place g * n) length_held

  pub length_bits : (sps : List SpsOutcome) → length (report_bits g arrivals sps) ≡ length_of g (slots_in g arrivals) (length sps)
  length_bits sps =
      length-append (flat_map (place_bits g.mode) (held g arrivals)) (map sps_bit sps)
      ∙ ap₂ ◌+◌ length_slot_bits (length-map sps sps_bit)

pub length_report : (g : Config) (arrivals : List Arrival) (sps : List SpsOutcome) (lent room n : ℕ) → judged g arrivals sps lent room ≡ Ok n →
    length (report_bits g arrivals sps) ≡ length_of g n (length sps)
length_report g arrivals sps lent room n e =
    length_bits g arrivals sps ∙ ap (λ (m : ℕ). length_of g m (length sps)) (sym (judged_slots g arrivals sps lent room n e))
