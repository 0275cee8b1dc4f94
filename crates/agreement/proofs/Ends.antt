-- The end value of what arrived: the number that it stands for, and when that is the last number sent. Assumes nothing.
use Rattle.std.proofs.Common.{◌≡◌, ℕ, ◌-◌, ◌<◌, ◌≤◌, Bool, true, false, cond, ◌⊎◌, List, [], ◌∷◌, map, length, get_or, Some, None, Option, unwrap_or, sym, refl, ap, ◌∙◌, subst, ap₂, inl, inr, arith}
use Rattle.std.specs.List.{AllByRecursion, list_any, filter}
use Rattle.std.proofs.ByRecursion.{All-get_or, All-weaker}
use Rattle.std.proofs.lemmas.List.{length-map}
use Rattle.std.proofs.lemmas.Bool.{cond_both, and_parts, and_from, eqb-true, eq-eqb, leb-true, le-leb, both_ways}
use Rattle.dai.specs.Values.{value}
use Rattle.harq.specs.declared.configs.Config.{Config}
use Rattle.harq.specs.Words.{last_or}
use Rattle.harq.specs.Configs.{span, carries_total}
use Rattle.harq.specs.Placing.{slot_count}
use Rattle.harq.specs.Losses.{numbers, last_arrived}
use Rattle.harq.specs.Agreement.{CountsTo}
use Rattle.ue.specs.declared.arrivals.Arrival.{Arrival}
use Rattle.ue.specs.Batches.{counter, total_at, end_value}
use Rattle.ue.proofs.Pieces.{all_those, those_pass}
use Rattle.ue.proofs.Walked.{those_few}
use Rattle.gnb.specs.Sending.{Assignment}
use Rattle.agreement.specs.declared.fates.Fate.{Fate}
use Rattle.agreement.specs.Fates.{fate_of}
use Rattle.agreement.proofs.Picked.{all_both, last_all, last_map, those_all, those_full, at_those, any_true, any_false, Climbs, climbs_those, climbs_last}
use Rattle.agreement.proofs.Sendings.{number_of, occasion_of, early, row_at, row_numbers, row_occasions, till, occasions, Sends, Known, known}
use Rattle.agreement.proofs.Arriving.{Good, tells, total_at_is, here, arrival, numbers_are, counter_is}

-- all are sent up to the last occasion
till_last : (xs : List Assignment) (m low : ℕ) → Climbs occasion_of low xs → last_or None (occasions xs) ≡ Some m → till xs m ≡ length xs
till_last [] m low h e = refl
till_last (a ∷ xs) m low h e =
    let last : (last_or a xs).occasion ≡ m = let q : Some (last_or a xs).occasion ≡ Some m = sym (last_map (λ (b : Assignment). Some b.occasion) a xs) ∙ e in cc in
    ap length (those_all (early m) (a ∷ xs)
    (All-weaker (λ (b : Assignment). b.occasion ≤ (last_or a xs).occasion) (λ b. early m b ≡ true)
    (λ b le. le-leb b.occasion m (omega arith)) (a ∷ xs) (climbs_last occasion_of low a xs h)))

-- an occasion of the row up to which all are sent is the last
last_till : (xs : List Assignment) (m low i : ℕ) (d : Assignment) → Climbs occasion_of low xs → i < length xs → (get_or xs i d).occasion ≡ m →
    length xs ≤ till xs m → last_or None (occasions xs) ≡ Some m
last_till [] m low i d h lt e full = absurd (omega arith)
last_till (a ∷ xs) m low i d h lt e full =
    let upper : (last_or a xs).occasion ≤ m = leb-true _ _ (last_all (λ b. early m b ≡ true) a xs (those_full (early m) (a ∷ xs) full)) in
    let lower : (get_or (a ∷ xs) i d).occasion ≤ (last_or a xs).occasion =
    All-get_or (λ (b : Assignment). b.occasion ≤ (last_or a xs).occasion) (a ∷ xs) i d lt (climbs_last occasion_of low a xs h) in
    let same : (last_or a xs).occasion ≡ m = omega arith in
    last_map (λ (b : Assignment). Some b.occasion) a xs ∙ ap Some same

-- a value of one or of another number
value_cond : (f : ℕ → ℕ) (c : Bool) (t n : ℕ) → unwrap_or (cond c (Some (f t)) None) (f n) ≡ f (cond c t n)
value_cond f true t n = refl
value_cond f false t n = refl

module _ (g : Config) (fates : List Fate) (xs : List Assignment) (d : Assignment) (s : Sends g xs) where
  -- one that arrived
  abbrev pub Got : Assignment → Type 0
  Got a = Known g xs d a × (here fates a ≡ true)

  -- each of those that arrived is one
  pub got : AllByRecursion Got (filter (here fates) xs)
  got = all_both (Known g xs d) (λ a. here fates a ≡ true) Got (λ a k h. (k, h)) (filter (here fates) xs)
      (all_those (here fates) (Known g xs d) xs (known g xs d s)) (those_pass (here fates) xs)

  -- some arrival tells the total of an occasion
  abbrev told : ℕ → List Assignment → Bool
  told m ys = list_any (tells g m) (map (arrival fates) ys)

  -- the number that the end value stands for: the total of the last occasion where one tells it, else the last number
  abbrev pub upto : List Assignment → ℕ
  upto [] = 0
  upto (a ∷ ys) = cond (told (last_or a ys).occasion (a ∷ ys)) (till xs (last_or a ys).occasion) (last_or a ys).number

  -- the counters
  pub counters_are : (ys : List Assignment) → AllByRecursion Got ys → map (counter g) (map (arrival fates) ys) ≡ map (value (span g)) (map number_of ys)
  counters_are [] all = refl
  counters_are (a ∷ ys) all = ap₂ (λ (k : ℕ) (l : List ℕ). k ∷ l) (counter_is fates g (till xs a.occasion) a all.0.0.reads) (counters_are ys all.1)

  -- the end value
  end_is : (a : Assignment) (ys : List Assignment) → AllByRecursion Got (a ∷ ys) → AllByRecursion (Good g (till xs)) (map (arrival fates) (a ∷ ys)) →
      end_value g (map (arrival fates) (a ∷ ys)) ≡ value (span g) (upto (a ∷ ys))
  end_is a ys all good =
      let b = last_or a ys in
      let arrived = map (arrival fates) (a ∷ ys) in
      let last : last_or (arrival fates a) (map (arrival fates) ys) ≡ arrival fates b = last_map (arrival fates) a ys in
      ap (λ (l : Arrival). unwrap_or (total_at g l.occasion arrived) (counter g l)) last
      ∙ ap₂ unwrap_or (total_at_is g (till xs) b.occasion arrived good)
      (counter_is fates g (till xs b.occasion) b (last_all Got a ys all).0.reads)
      ∙ value_cond (value (span g)) (told b.occasion (a ∷ ys)) (till xs b.occasion) b.number

  -- the slot count
  pub slots_are : (ys : List Assignment) → AllByRecursion Got ys → AllByRecursion (Good g (till xs)) (map (arrival fates) ys) →
      slot_count (span g) (map (counter g) (map (arrival fates) ys)) (end_value g (map (arrival fates) ys))
      ≡ slot_count (span g) (map (value (span g)) (map number_of ys)) (value (span g) (upto ys))
  slots_are [] all good = refl
  slots_are (a ∷ ys) all good = ap₂ (slot_count (span g)) (counters_are (a ∷ ys) all) (end_is a ys all good)

  -- it is no lower than the last number, and no higher than what was sent
  from_last : (a : Assignment) (ys : List Assignment) → Got (last_or a ys) → (last_or a ys).number ≤ upto (a ∷ ys)
  from_last a ys k = cond_both (told (last_or a ys).occasion (a ∷ ys)) _ _ (λ n. (last_or a ys).number ≤ n) (λ _. k.0.total) (λ _. omega arith)

  within_sent : (a : Assignment) (ys : List Assignment) → Got (last_or a ys) → upto (a ∷ ys) ≤ length xs
  within_sent a ys k =
      cond_both (told (last_or a ys).occasion (a ∷ ys)) _ _ (λ n. n ≤ length xs)
      (λ _. those_few (early (last_or a ys).occasion) xs) (λ _. k.0.last)

  -- so the counting theorem is at hand
  counts_by : (ys : List Assignment) → AllByRecursion Got ys → numbers 0 (map (here fates) xs) ≡ map number_of ys → CountsTo (map (here fates) xs) (upto ys)
  counts_by [] all e =
      let none : last_arrived (map (here fates) xs) ≡ 0 = ap (last_or 0) e in
      record { from_last = omega arith; sent = omega arith; none = λ _. refl }
  counts_by (a ∷ ys) all e =
      let last : last_arrived (map (here fates) xs) ≡ (last_or a ys).number = ap (last_or 0) e ∙ last_map number_of a ys in
      let k = last_all Got a ys all in
      record {
        from_last = omega (arith, from_last a ys k);
        sent = omega (arith, within_sent a ys k, length-map xs (here fates));
        none = λ z. absurd (omega (arith, k.0.first));
      }

  pub counts_to : CountsTo (map (here fates) xs) (upto (filter (here fates) xs))
  counts_to = counts_by (filter (here fates) xs) got (numbers_are fates 0 0 xs s.row)

  -- number k was sent and arrived
  abbrev Came : ℕ → Type 0
  Came k = ((0 < k) × (k ≤ length xs)) × ((fate_of fates k).arrived ≡ true)

  module _ (used : Option ℕ) (used-is : used ≡ last_or None (occasions xs)) where
    -- one that carries a total arrived in the last occasion used
    abbrev TotalCame : Type 0
    TotalCame = (k : ℕ) × Came k × (used ≡ Some (get_or xs (k - 1) d).occasion) × (carries_total g (get_or xs (k - 1) d).format ≡ true)

    -- it is the last number sent only if this arrived, or a total in the last occasion used
    only_by : (a : Assignment) (ys : List Assignment) → AllByRecursion Got (a ∷ ys) → 0 < length xs → (c : Bool) → told (last_or a ys).occasion (a ∷ ys) ≡ c →
        cond c (till xs (last_or a ys).occasion) (last_or a ys).number ≡ length xs → Came (length xs) ⊎ TotalCame
    only_by a ys all some false e q = inl ((some, omega arith), subst (λ k. (fate_of fates k).arrived ≡ true) q (last_all Got a ys all).1)
    only_by a ys all some true e q =
        let m = (last_or a ys).occasion in
        let t = any_true (tells g m) (arrival fates) Got (a ∷ ys) all e in
        let k = t.1.0 in
        let told = and_parts _ _ t.2 in
        let there : (get_or xs (t.0.number - 1) d).occasion ≡ m = ap occasion_of k.at ∙ eqb-true t.0.occasion m told.0 in
        let last = last_till xs m 0 (t.0.number - 1) d (row_occasions 0 0 xs s.row) (omega (arith, k.first, k.last)) there (omega arith) in
        inr (
          t.0.number,
          ((k.first, k.last), t.1.1),
          used-is ∙ last ∙ ap Some (sym there),
          subst (λ (b : Assignment). carries_total g b.format ≡ true) (sym k.at) told.1,
        )

    pub ends_only : (ys : List Assignment) → AllByRecursion Got ys → 0 < length xs → upto ys ≡ length xs → Came (length xs) ⊎ TotalCame
    ends_only [] all some q = absurd (omega arith)
    ends_only (a ∷ ys) all some q = only_by a ys all some (told (last_or a ys).occasion (a ∷ ys)) refl q

    -- what holds of each that arrived holds of number k, if this arrived
    at_number : (ys : List Assignment) → filter (here fates) xs ≡ ys → (P : Assignment → Type 0) → AllByRecursion P ys → (k : ℕ) → Came k → P (get_or xs (k - 1) d)
    at_number ys e P all k came =
        let number : (get_or xs (k - 1) d).number ≡ k = row_at 0 0 xs s.row (k - 1) d (omega arith) ∙ omega arith in
        at_those (here fates) P xs (k - 1) d (subst (AllByRecursion P) (sym e) all) (omega arith) (subst (λ n. (fate_of fates n).arrived ≡ true) (sym number) came.1)

    -- the last number arrived
    by_last : (a : Assignment) (ys : List Assignment) → filter (here fates) xs ≡ a ∷ ys → Came (length xs) → upto (a ∷ ys) ≡ length xs
    by_last a ys e came =
        let b = last_all Got a ys (subst (AllByRecursion Got) e got) in
        let climbs = subst (Climbs number_of 0) e (climbs_those number_of (here fates) 0 xs (row_numbers 0 0 xs s.row)) in
        let le = at_number (a ∷ ys) e (λ y. y.number ≤ (last_or a ys).number) (climbs_last number_of 0 a ys climbs) (length xs) came in
        omega (arith, le, row_at 0 0 xs s.row (length xs - 1) d (omega arith), from_last a ys b, within_sent a ys b)

    -- a total arrived in the last occasion used
    by_total : (a : Assignment) (ys : List Assignment) → filter (here fates) xs ≡ a ∷ ys → (t : TotalCame) → (c : Bool) → told (last_or a ys).occasion (a ∷ ys) ≡ c →
        cond c (till xs (last_or a ys).occasion) (last_or a ys).number ≡ length xs
    by_total a ys e t c is =
        let n = (last_or a ys).occasion in
        let m = (get_or xs (t.0 - 1) d).occasion in
        let row = row_occasions 0 0 xs s.row in
        let full : till xs m ≡ length xs = till_last xs m 0 row (sym used-is ∙ t.2) in
        let all-early = those_full (early m) xs (omega arith) in
        let upper : n ≤ m = leb-true n m (last_all (λ y. early m y ≡ true) a ys
        (subst (AllByRecursion (λ y. early m y ≡ true)) e (all_those (here fates) (λ y. early m y ≡ true) xs all-early))) in
        let climbs = subst (Climbs occasion_of 0) e (climbs_those occasion_of (here fates) 0 xs row) in
        let lower : m ≤ n = at_number (a ∷ ys) e (λ y. y.occasion ≤ n) (climbs_last occasion_of 0 a ys climbs) t.0 t.1 in
        let same : n ≡ m = omega arith in
        elim c as (λ c. told n (a ∷ ys) ≡ c → cond c (till xs n) (last_or a ys).number ≡ length xs) [
          | true ↦ λ _. ap (till xs) same ∙ full
          | false ↦ λ none. absurd (both_ways (tells g n (arrival fates (get_or xs (t.0 - 1) d)))
              (at_number (a ∷ ys) e (λ y. tells g n (arrival fates y) ≡ false) (any_false (tells g n) (arrival fates) (a ∷ ys) none) t.0 t.1)
              (and_from _ _ (eq-eqb m n (sym same)) t.3))
        ] is

    -- it is the last number sent if the last arrived, or a total in the last occasion used
    pub ends_enough : (ys : List Assignment) → filter (here fates) xs ≡ ys → Came (length xs) ⊎ TotalCame → upto ys ≡ length xs
    ends_enough [] e (inl came) = absurd (at_number [] e (λ _. ⊥) tt (length xs) came)
    ends_enough [] e (inr t) = absurd (at_number [] e (λ _. ⊥) tt t.0 t.1)
    ends_enough (a ∷ ys) e (inl came) = by_last a ys e came
    ends_enough (a ∷ ys) e (inr t) = by_total a ys e t (told (last_or a ys).occasion (a ∷ ys)) refl
