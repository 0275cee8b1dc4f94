-- What arrives of what is sent: each arrival passes the UE's checks, and the counters are those of the numbers that arrived. Assumes nothing.
use Rattle.std.specs.Option.{option_or}
use Rattle.std.proofs.Common.{◌≡◌, ℕ, ◌+◌, ◌<◌, ◌≤◌, Bool, true, false, cond, ◌&&◌, ◌||◌, eqb, ltb, leb, List, [], ◌∷◌, ◌++◌, map, length, is_some, Some, None, Option, sym, refl, ap, ◌∙◌, subst, ap₂, inl, inr, ⊎_elim, arith}
use Rattle.std.specs.List.{AllByRecursion, list_any, filter}
use Rattle.std.proofs.ByRecursion.{All-push, All-weaker}
use Rattle.std.proofs.lemmas.Bool.{cases_lt, lt-ltb, le-leb, eq-eqb, eqb-true, and_from, and_right, or_left, or_right, not_from_true, cond-false}
use Rattle.dai.specs.Values.{value}
use Rattle.harq.specs.declared.configs.Config.{Config}
use Rattle.harq.specs.declared.refusals.Refusal.{Refusal}
use Rattle.harq.specs.Configs.{span, in_range, carries_total}
use Rattle.harq.specs.Losses.{numbers}
use Rattle.ue.specs.declared.arrivals.Arrival.{Arrival}
use Rattle.ue.specs.Batches.{dai_of, counter_read, total_read, counter, total, counting, brought, counted, total_at}
use Rattle.ue.specs.Checks.{last_of, rises_above, differ, total_differs, arrival_refused, first_refused}
use Rattle.ue.proofs.Walked.{last_of_push}
use Rattle.gnb.specs.Sending.{Assignment, ReadsBack}
use Rattle.gnb.proofs.Order.{Sendable, Above, InOrder}
use Rattle.agreement.specs.declared.fates.Fate.{Fate}
use Rattle.agreement.specs.Fates.{fate_of, outcome, arrival_of, arrivals_of}
use Rattle.agreement.proofs.Picked.{those_all}
use Rattle.agreement.proofs.Sendings.{number_of, Row}

-- a row in order stays so when some are lost
above_trans : (last : Option (ℕ × ℕ)) (m c occasion cell : ℕ) → Above last m c → Above (Some (m, c)) occasion cell → Above last occasion cell
above_trans None m c occasion cell h k = tt
above_trans (Some p) m c occasion cell (inl h) (inl k) = inl (omega arith)
above_trans (Some p) m c occasion cell (inl h) (inr k) = inl (omega (arith, k.0))
above_trans (Some p) m c occasion cell (inr h) (inl k) = inl (omega (arith, h.0))
above_trans (Some p) m c occasion cell (inr h) (inr k) = inr (h.0 ∙ k.0, omega (arith, h.1, k.1))

pub in_order_those : (g : Config) (test : Assignment → Bool) (last before : Option (ℕ × ℕ)) (xs : List Assignment) →
    ((m c : ℕ) → Above last m c → Above before m c) → InOrder g last xs → InOrder g before (filter test xs)
in_order_those g test last before [] weaker h = tt
in_order_those g test last before (a ∷ xs) weaker h =
    elim (test a) as (λ b. InOrder g before (cond b (a ∷ filter test xs) (filter test xs))) [
      | true ↦ (h.0, weaker _ _ h.1, in_order_those g test (Some (a.occasion, a.cell)) (Some (a.occasion, a.cell)) xs (λ m c k. k) h.2)
      | false ↦ in_order_those g test (Some (a.occasion, a.cell)) before xs (λ m c k. weaker m c (above_trans last a.occasion a.cell m c h.1 k)) h.2
    ]

-- an arrival that passes the checks by itself, where T is the total of each occasion
pub record Good (g : Config) (T : ℕ → ℕ) (a : Arrival) : Type 0 where
  pub range : in_range g a.cell a.occasion ≡ true
  pub counts : counting g a ≡ true
  pub brings : brought g a ≡ true
  pub read : is_some (dai_of g a) ≡ true
  pub total_is : total g a ≡ cond (carries_total g a.format) (Some (value (span g) (T a.occasion))) None

-- each rises above the one before it
abbrev pub Ascends : Option Arrival → List Arrival → Type 0
Ascends p [] = Unit {0}
Ascends p (a ∷ rest) = (rises_above p a ≡ true) × Ascends (Some a) rest

-- an arrival that tells the total of an occasion
abbrev pub tells : Config → ℕ → Arrival → Bool
tells g m a = eqb a.occasion m && carries_total g a.format

or_same : {X : Type 0} (b c : Bool) (v : X) → option_or (cond b (Some v) None) (cond c (Some v) None) ≡ cond (b || c) (Some v) None
or_same true c v = refl
or_same false c v = refl

same_total : (b c : Bool) (v : ℕ) → differ (cond b (Some v) None) (cond c (Some v) None) ≡ false
same_total true true v = not_from_true (eqb v v) (eq-eqb v v refl)
same_total true false v = refl
same_total false c v = refl

module _ (g : Config) (T : ℕ → ℕ) where
  -- the total of an occasion, where one tells it
  total_step : (m : ℕ) (a : Arrival) (c : Bool) (rest : Option ℕ) → Good g T a → rest ≡ cond c (Some (value (span g) (T m))) None → (b : Bool) → eqb a.occasion m ≡ b →
      option_or (cond b (total g a) None) rest ≡ cond ((b && carries_total g a.format) || c) (Some (value (span g) (T m))) None
  total_step m a c rest good is true e =
      let here : total g a ≡ cond (carries_total g a.format) (Some (value (span g) (T m))) None =
      good.total_is ∙ ap (λ k. cond (carries_total g a.format) (Some (value (span g) (T k))) None) (eqb-true a.occasion m e) in
      ap₂ option_or here is ∙ or_same (carries_total g a.format) c (value (span g) (T m))
  total_step m a c rest good is false e = is

  pub total_at_is : (m : ℕ) (xs : List Arrival) → AllByRecursion (Good g T) xs → total_at g m xs ≡ cond (list_any (tells g m) xs) (Some (value (span g) (T m))) None
  total_at_is m [] all = refl
  total_at_is m (a ∷ xs) all = total_step m a (list_any (tells g m) xs) (total_at g m xs) all.0 (total_at_is m xs all.1) (eqb a.occasion m) refl

  -- every arrival counts
  pub counted_is : (xs : List Arrival) → AllByRecursion (Good g T) xs → counted g xs ≡ xs
  counted_is xs all = those_all (counting g) xs (All-weaker (Good g T) (λ a. counting g a ≡ true) (λ a h. h.counts) xs all)

  -- none is refused
  totals_agree : (earlier : List Arrival) (a : Arrival) → AllByRecursion (Good g T) earlier → Good g T a → total_differs g earlier a ≡ false
  totals_agree earlier a all good =
      and_right (counting g a) _
      (ap₂ differ (ap (total_at g a.occasion) (counted_is earlier all) ∙ total_at_is a.occasion earlier all) good.total_is
      ∙ same_total (list_any (tells g a.occasion) earlier) (carries_total g a.format) (value (span g) (T a.occasion)))

  one_passes : (earlier : List Arrival) (a : Arrival) → AllByRecursion (Good g T) earlier → Good g T a → rises_above (last_of earlier) a ≡ true → arrival_refused g earlier a ≡ None
  one_passes earlier a all good up =
      cond-false _ _ _ (not_from_true _ good.range)
      ∙ cond-false _ _ _ (not_from_true _ up)
      ∙ cond-false _ _ _ (not_from_true _ good.read)
      ∙ cond-false _ _ _ (not_from_true _ good.brings)
      ∙ cond-false _ _ _ (totals_agree earlier a all good)

  pub none_refused : (rest earlier : List Arrival) → AllByRecursion (Good g T) earlier → AllByRecursion (Good g T) rest → Ascends (last_of earlier) rest → first_refused g earlier rest ≡ None
  none_refused [] earlier all good up = refl
  none_refused (a ∷ rest) earlier all good up =
      ap (λ (o : Option Refusal). elim o as (λ _. Option (ℕ × Refusal)) [ Some e ↦ Some (length earlier, e) | None ↦ first_refused g (earlier ++ (a ∷ [])) rest ])
      (one_passes earlier a all good.0 up.0)
      ∙ none_refused rest (earlier ++ a ∷ []) (All-push (Good g T) earlier a all good.0) good.1
      (subst (λ (o : Option Arrival). Ascends o rest) (sym (last_of_push earlier a)) up.1)

-- what an assignment arrives as, where its fate is that of its number
module _ (fates : List Fate) where
  abbrev pub here : Assignment → Bool
  here a = (fate_of fates a.number).arrived

  abbrev pub arrival : Assignment → Arrival
  arrival a = arrival_of a (fate_of fates a.number)

  pub arrivals_are : (xs : List Assignment) → arrivals_of fates xs ≡ map arrival (filter here xs)
  arrivals_are [] = refl
  arrivals_are (a ∷ xs) =
      elim (here a) as (λ b. cond b (arrival a ∷ arrivals_of fates xs) (arrivals_of fates xs) ≡ map arrival (cond b (a ∷ filter here xs) (filter here xs)))
      [ true ↦ ap (λ (l : List Arrival). arrival a ∷ l) (arrivals_are xs) | false ↦ arrivals_are xs ]

  pub numbers_are : (n low : ℕ) (xs : List Assignment) → Row n low xs → numbers n (map here xs) ≡ map number_of (filter here xs)
  numbers_are n low [] h = refl
  numbers_are n low (a ∷ xs) h =
      let on = numbers_are (n + 1) a.occasion xs h.2 in
      elim (here a) as (λ b. numbers n (b ∷ map here xs) ≡ map number_of (cond b (a ∷ filter here xs) (filter here xs)))
      [ true ↦ ap₂ (λ (k : ℕ) (l : List ℕ). k ∷ l) (sym h.0) on | false ↦ on ]

  module _ (g : Config) where
    -- the pair of an arrival
    abbrev spot : Option Arrival → Option (ℕ × ℕ)
    spot None = None
    spot (Some a) = Some (a.occasion, a.cell)

    rises : (p : Option Arrival) (a : Assignment) → Above (spot p) a.occasion a.cell → rises_above p (arrival a) ≡ true
    rises None a h = refl
    rises (Some p) a (inl h) = or_left _ _ (lt-ltb p.occasion a.occasion h)
    rises (Some p) a (inr h) = or_right _ _ (and_from _ _ (eq-eqb p.occasion a.occasion h.0) (lt-ltb p.cell a.cell h.1))

    pub ascends : (p : Option Arrival) (xs : List Assignment) → InOrder g (spot p) xs → Ascends p (map arrival xs)
    ascends p [] h = tt
    ascends p (a ∷ xs) h = (rises p a h.1, ascends (Some (arrival a)) xs h.2)

    -- an arrival is read as its assignment was sent
    pub counter_is : (t : ℕ) (a : Assignment) → ReadsBack g t a → counter g (arrival a) ≡ value (span g) a.number
    counter_is t a r = ap counter_read r

    outcome_fits : (a : Assignment) (i : ℕ) → (i < a.blocks → outcome (fate_of fates a.number) i ≤ 1) →
        (ltb a.blocks (i + 1) || leb (outcome (fate_of fates a.number) i) 1) ≡ true
    outcome_fits a i h =
        ⊎_elim (λ lt. or_right (ltb a.blocks (i + 1)) _ (le-leb (outcome (fate_of fates a.number) i) 1 (h lt)))
        (λ ge. or_left _ (leb (outcome (fate_of fates a.number) i) 1) (lt-ltb a.blocks (i + 1) (omega arith))) (cases_lt i a.blocks)

    pub good : (T : ℕ → ℕ) (a : Assignment) → Sendable g a → ReadsBack g (T a.occasion) a →
        ((i : ℕ) → i < a.blocks → outcome (fate_of fates a.number) i ≤ 1) → Good g T (arrival a)
    good T a s r out = record {
      range = and_from _ _ (lt-ltb a.cell g.cells s.below) (lt-ltb a.occasion g.occasions s.within);
      counts = s.counted;
      brings = and_from _ _ s.sized (and_from _ _ (outcome_fits a 0 (out 0)) (outcome_fits a 1 (out 1)));
      read = ap is_some r;
      total_is = ap total_read r;
    }
