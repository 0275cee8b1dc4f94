-- Which bit of the report is whose. Assumes nothing.
use Rattle.std.specs.Prelude.{flat_map}
use Rattle.std.proofs.Common.{◌≡◌, ℕ, zero, suc, ◌+◌, ◌*◌, ◌<◌, ◌≤◌, Bool, true, false, cond, eqb, List, [], ◌∷◌, ◌++◌, map, length, get_or, drop, Some, None, Ok, Err, Option, Result, unwrap_or, sym, refl, ap, ◌∙◌, subst, arith}
use Rattle.std.proofs.lemmas.Nat.{mul-add-lt}
use Rattle.std.proofs.lemmas.List.{drop_at, map-append, length-append, length-map, get_or_at, get_or_append_left, get_or-append-add}
use Rattle.std.proofs.lemmas.Bool.{eq-eqb, ne_eqb, cond-true, cond-false}
use Rattle.harq.specs.declared.configs.Config.{Config}
use Rattle.harq.specs.Words.{onward}
use Rattle.harq.specs.Configs.{span, bits_per_place}
use Rattle.harq.specs.Placing.{slot_count, standing_at}
use Rattle.harq.specs.PlacingLaws.{Rising, Below}
use Rattle.std.proofs.lemmas.List.FromFn.{get_or-map-range_with_len}
use Rattle.ue.specs.declared.arrivals.Arrival.{Arrival}
use Rattle.ue.specs.declared.arrivals.SpsOutcome.{SpsOutcome}
use Rattle.ue.specs.declared.declines.Decline.{Decline}
use Rattle.ue.specs.declared.slots.Slot.{Slot}
use Rattle.ue.specs.Slots.{slot_of, nack, place_bits}
use Rattle.ue.specs.Batches.{counter, counted, end_value, slots_in}
use Rattle.ue.specs.Checks.{arrivals_judged, judged, length_of}
use Rattle.ue.specs.Reports.{places_of, held_at, held, sps_bit, report_bits, report_answer}
use Rattle.ue.specs.Clause.{place_of_arrival, bit_of, ReportFor, ReportStands}
use Rattle.ue.proofs.Pieces.{get_or_pieces}
use Rattle.ue.proofs.Accepted.{accepted, end_within, placed, rising, below_slots, length_place_bits, length_counted_places, length_held, length_slot_bits, length_bits}
use Rattle.ue.proofs.Loops.{counted_met}

-- places
below_get_or : (n : ℕ) (qs : List ℕ) (i : ℕ) → Below n qs → i < length qs → get_or qs i 0 < n
below_get_or n [] i b h = absurd (omega arith)
below_get_or n (q ∷ qs) zero b h = b.0
below_get_or n (q ∷ qs) (suc i) b h = below_get_or n qs i b.1 (omega arith)

rising_get_or : (low : ℕ) (qs : List ℕ) (i : ℕ) → Rising low qs → i < length qs → low ≤ get_or qs i 0
rising_get_or low [] i r h = absurd (omega arith)
rising_get_or low (q ∷ qs) zero r h = r.0
rising_get_or low (q ∷ qs) (suc i) r h = let l : low ≤ q = r.0 in omega (arith, rising_get_or (q + 1) qs i r.1 (omega arith))

rising_apart : (low : ℕ) (qs : List ℕ) (i j : ℕ) → Rising low qs → i < j → j < length qs → get_or qs i 0 < get_or qs j 0
rising_apart low [] i j r lt h = absurd (omega arith)
rising_apart low (q ∷ qs) i zero r lt h = absurd (omega arith)
rising_apart low (q ∷ qs) zero (suc j) r lt h = omega (arith, rising_get_or (q + 1) qs j r.1 (omega arith))
rising_apart low (q ∷ qs) (suc i) (suc j) r lt h = rising_apart (q + 1) qs i j r.1 (omega arith) (omega arith)

module _ {E : Type 0} where
  -- at its place an entry stands
  standing_own : (low : ℕ) (qs : List ℕ) (xs : List E) (i : ℕ) (d : E) → Rising low qs → length xs ≡ length qs → i < length qs →
      standing_at (get_or qs i 0) qs xs ≡ Some (get_or xs i d)
  standing_own low [] xs i d r same h = absurd (omega arith)
  standing_own low (q ∷ qs) [] i d r same h = absurd (omega arith)
  standing_own low (q ∷ qs) (x ∷ xs) zero d r same h = cond-true (eqb q q) (Some x) (standing_at q qs xs) (eq-eqb q q refl)
  standing_own low (q ∷ qs) (x ∷ xs) (suc i) d r same h =
      let p : ℕ = get_or qs i 0 in
      let above : q + 1 ≤ p = rising_get_or (q + 1) qs i r.1 (omega arith) in
      cond-false (eqb q p) (Some x) (standing_at p qs xs) (ne_eqb q p (λ e. omega arith)) ∙ standing_own (q + 1) qs xs i d r.1 (omega arith) (omega arith)

  -- at a place that no entry has, none
  standing_none : (p : ℕ) (qs : List ℕ) (xs : List E) → ((i : ℕ) → i < length qs → get_or qs i 0 ≡ p → ⊥) → standing_at p qs xs ≡ None
  standing_none p [] xs free = refl
  standing_none p (q ∷ qs) [] free = refl
  standing_none p (q ∷ qs) (x ∷ xs) free =
      cond-false (eqb q p) (Some x) (standing_at p qs xs) (ne_eqb q p (free 0 (omega arith))) ∙ standing_none p qs xs (λ i h e. free (suc i) (omega arith) e)

-- what is made of the element behind `before`
get_or_behind : {X Y : Type 0} (f : X → Y) (xs before after : List X) (a : X) (y : Y) → xs ≡ before ++ (a ∷ after) → get_or (map f xs) (length before) y ≡ f a
get_or_behind {X} f xs before after a y e =
    ap (λ (l : List X). get_or (map f l) (length before) y) e
    ∙ ap (λ l. get_or l (length before) y) (map-append f before (a ∷ after))
    ∙ get_or_at (map f before) (f a) (map f after) y (length before) (length-map before f)

one_nack : (d : ℕ) → get_or (false ∷ []) d false ≡ false
one_nack zero = refl
one_nack (suc d) = refl

two_nacks : (d : ℕ) → get_or (false ∷ false ∷ []) d false ≡ false
two_nacks zero = refl
two_nacks (suc d) = one_nack d

nack_bit : (mode d : ℕ) → get_or (place_bits mode nack) d false ≡ false
nack_bit mode d = elim (eqb mode 1) as (λ b. get_or (cond b (false ∷ false ∷ []) (false ∷ [])) d false ≡ false) [ true ↦ two_nacks d | false ↦ one_nack d ]

-- nothing counted, no slot
no_slots : (g : Config) (xs : List Arrival) → length xs ≡ 0 → slot_count (span g) (map (counter g) xs) (end_value g xs) ≡ 0
no_slots g [] e = refl
no_slots g (x ∷ xs) e = absurd (omega arith)

module _ (g : Config) (arrivals : List Arrival) (sps : List SpsOutcome) where
  get_or_held : (p : ℕ) → p < slots_in g arrivals → get_or (held g arrivals) p nack ≡ held_at g arrivals p
  get_or_held p h = get_or-map-range_with_len (held_at g arrivals) 0 (slots_in g arrivals) p p nack h (omega arith)

  -- a bit of a place is one of what the place holds
  slot_bit : (p d : ℕ) → p < slots_in g arrivals → d < bits_per_place g →
      bit_of g (report_bits g arrivals sps) p d ≡ get_or (place_bits g.mode (held_at g arrivals p)) d false
  slot_bit p d hp hd =
      let w : ℕ = bits_per_place g in
      let many = length_held g arrivals in
      get_or_append_left (flat_map (place_bits g.mode) (held g arrivals)) (map sps_bit sps) false (w * p + d)
      (omega (arith, length_slot_bits g arrivals, mul-add-lt p w d (slots_in g arrivals) hp hd))
      ∙ get_or_pieces (place_bits g.mode) w (length_place_bits g.mode) (held g arrivals) p d nack false (omega arith) hd
      ∙ ap (λ (s : Slot). get_or (place_bits g.mode s) d false) (get_or_held p hp)

  sps_behind : (before after : List SpsOutcome) (s : SpsOutcome) → sps ≡ before ++ (s ∷ after) →
      get_or (report_bits g arrivals sps) (bits_per_place g * slots_in g arrivals + length before) false ≡ sps_bit s
  sps_behind before after s e =
      ap (λ (n : ℕ). get_or (report_bits g arrivals sps) (n + length before) false) (sym (length_slot_bits g arrivals))
      ∙ get_or-append-add (flat_map (place_bits g.mode) (held g arrivals)) (map sps_bit sps) (length before) false
      ∙ get_or_behind sps_bit sps before after s false e

  module _ (n : ℕ) (e : arrivals_judged g arrivals ≡ Ok n) where
    place_within : (i : ℕ) → i < length (counted g arrivals) → place_of_arrival g arrivals i < slots_in g arrivals
    place_within i h = below_get_or (slots_in g arrivals) (places_of g arrivals) i (below_slots g arrivals n e) (omega (arith, length_counted_places g arrivals))

    own_bits : (before after : List Arrival) (a : Arrival) → counted g arrivals ≡ before ++ (a ∷ after) → (d : ℕ) → d < bits_per_place g →
        bit_of g (report_bits g arrivals sps) (place_of_arrival g arrivals (length before)) d ≡ get_or (place_bits g.mode (slot_of a)) d false
    own_bits before after a is d hd =
        let p : ℕ = place_of_arrival g arrivals (length before) in
        let places = length_counted_places g arrivals in
        let h : length before < length (counted g arrivals) = omega (arith, ap length is, length-append before (a ∷ after)) in
        let stands : standing_at p (places_of g arrivals) (map slot_of (counted g arrivals)) ≡ Some (slot_of a) =
        standing_own 0 (places_of g arrivals) (map slot_of (counted g arrivals)) (length before) nack (rising g arrivals n e) (omega (arith, length-map (counted g arrivals) slot_of)) (omega arith)
        ∙ ap Some (get_or_behind slot_of (counted g arrivals) before after a nack is)
        in
        slot_bit p d (place_within (length before) h) hd ∙ ap (λ (o : Option Slot). get_or (place_bits g.mode (unwrap_or o nack)) d false) stands

    free_bits : (p : ℕ) → p < slots_in g arrivals → ((i : ℕ) → i < length (counted g arrivals) → place_of_arrival g arrivals i ≡ p → ⊥) →
        (d : ℕ) → d < bits_per_place g → bit_of g (report_bits g arrivals sps) p d ≡ false
    free_bits p hp free d hd =
        let none = standing_none p (places_of g arrivals) (map slot_of (counted g arrivals)) (λ i h. free i (omega (arith, length_counted_places g arrivals))) in
        slot_bit p d hp hd ∙ ap (λ (o : Option Slot). get_or (place_bits g.mode (unwrap_or o nack)) d false) none ∙ nack_bit g.mode d

    pub report_for : ReportFor g arrivals sps (report_bits g arrivals sps)
    report_for = record {
      long = length_bits g arrivals sps;
      loops = counted_met g arrivals n e;
      stands = (placed g arrivals n e).stands;
      counts = λ some.
          let end = end_within g arrivals n e some in
          (placed g arrivals n e).counts (end_value g (counted g arrivals)) end.0 end.1 (omega (arith, length-map (counted g arrivals) (counter g)));
      none = λ nothing. no_slots g (counted g arrivals) nothing;
      within = place_within;
      apart = λ i j lt h. rising_apart 0 (places_of g arrivals) i j (rising g arrivals n e) lt (omega (arith, length_counted_places g arrivals));
      own = own_bits;
      nacks = free_bits;
      behind = sps_behind;
    }

pub report_stands : ReportStands
report_stands g arrivals sps lent room n e = report_for g arrivals sps n (accepted g arrivals sps lent room n e).passes

-- a report that was answered stands
module _ (g : Config) (arrivals : List Arrival) (sps : List SpsOutcome) (lent room n : ℕ) where
  answered_stands : (r : Result ℕ Decline) → judged g arrivals sps lent room ≡ r → Ok n ≡ onward r (λ slots. Ok (length_of g slots (length sps))) →
      ReportFor g arrivals sps (report_bits g arrivals sps)
  answered_stands (Ok m) e is = report_stands g arrivals sps lent room m e
  answered_stands (Err d) e is = let z : ◌≡◌ {A = ℕ} 0 1 = cc in absurd (omega arith)

-- what the sink's list gained is that report
pub gained_stands : (g : Config) (arrivals : List Arrival) (sps : List SpsOutcome) (lent room n : ℕ) (before after : List Bool) →
    Ok n ≡ report_answer g arrivals sps lent room → after ≡ before ++ report_bits g arrivals sps → ReportFor g arrivals sps (drop (length before) after)
gained_stands g arrivals sps lent room n before after is gains =
    let same : report_bits g arrivals sps ≡ drop (length before) after = sym (ap (drop (length before)) gains ∙ drop_at before (report_bits g arrivals sps) (length before) refl) in
    subst (ReportFor g arrivals sps) same (answered_stands g arrivals sps lent room n (judged g arrivals sps lent room) refl is)
