-- What the UE makes of what arrived. Assumes nothing.
use Rattle.std.proofs.Common.{◌≡◌, ℕ, ◌+◌, ◌-◌, ◌*◌, ◌<◌, ◌≤◌, Bool, true, false, cond, ◌&&◌, eqb, leb, ◌⊎◌, List, [], ◌∷◌, map, length, get_or, is_some, Some, None, Ok, Option, Result, sym, refl, ap, ◌∙◌, subst, ap₂, inl, inr, ⊎_elim, mul-le-mul, arith}
use Rattle.std.specs.List.{AllByRecursion, filter, list_all}
use Rattle.std.proofs.ByRecursion.{All-weaker, All-map}
use Rattle.std.proofs.lemmas.List.{length-map, get_or-map, get_or_past}
use Rattle.std.proofs.lemmas.Bool.{true≢false, cases_lt, and_parts, and_from, not-false, le-ltb, cond-true, cond-false, cond_both}
use Rattle.dai.specs.Values.{value}
use Rattle.harq.specs.declared.configs.Config.{Config}
use Rattle.harq.specs.declared.sps.SpsEntry.{SpsEntry}
use Rattle.harq.specs.Words.{onward}
use Rattle.harq.specs.Configs.{span, config_within, bits_per_place}
use Rattle.harq.specs.SpsLists.{entry_fits, unfit_from}
use Rattle.harq.specs.Placing.{places, slot_count}
use Rattle.harq.specs.Losses as losses
use Rattle.harq.specs.Losses.{numbers}
use Rattle.harq.specs.Agreement as counting
use Rattle.harq.specs.Agreement.{slots_of}
use Rattle.harq.proofs.Agreement.{counts_agree}
use Rattle.ue.specs.declared.arrivals.Arrival.{Arrival}
use Rattle.ue.specs.declared.arrivals.SpsOutcome.{SpsOutcome}
use Rattle.ue.specs.declared.declines.Decline.{Decline}
use Rattle.ue.specs.Batches.{counter, counted, counters, end_value, slots_in}
use Rattle.ue.specs.Checks.{first_refused, slots_or, arrivals_judged, fit_or, sps_judged, length_of, size_judged, judged}
use Rattle.ue.specs.Reports.{places_of}
use Rattle.gnb.specs.Opening.{opened_by, fresh_batch}
use Rattle.gnb.specs.Sending.{Assignment, Sent}
use Rattle.gnb.proofs.Accepted.{passes}
use Rattle.gnb.proofs.Sent.{sent_stands}
use Rattle.agreement.specs.Exchanges.{Exchange, sps_list, all_sent, count_sent, fate, last_occasion_used, all_arrived, batch_left, table_left}
use Rattle.agreement.specs.Losses.{Lost, RunsShort, NothingSent, LastArrived, TotalInLastUsed}
use Rattle.agreement.specs.Agreement.{Premises}
use Rattle.agreement.proofs.Sides.{flags, slots_made, UeSide}
use Rattle.agreement.proofs.Sendings.{number_of, row_at, till, Sends, sends, last_used_sent}
use Rattle.agreement.proofs.Arriving.{in_order_those, Good, Ascends, counted_is, none_refused, here, arrival, arrivals_are, numbers_are, ascends, good}
use Rattle.agreement.proofs.Ends.{Got, got, upto, counters_are, slots_are, counts_to, ends_only, ends_enough}

-- a check that must hold, and does
fits_on : {X : Type 0} (b : Bool) (x : X) (o : Option X) → cond b o (Some x) ≡ None → (b ≡ true) × (o ≡ None)
fits_on true x o e = (refl, e)
fits_on false x o e = let z : ◌≡◌ {A = ℕ} 0 1 = cc in absurd (omega arith)

-- an SPS list that the gNB accepted is accepted by the UE, with outcomes 0 or 1
sps_fits : (g : Config) (sps : List SpsOutcome) (i : ℕ) (previous : Option SpsEntry) → list_all (λ (s : SpsOutcome). leb s.outcome 1) sps ≡ true →
    unfit_from (λ e. e) (λ _. true) g i previous (map (λ (s : SpsOutcome). s.entry) sps) ≡ None →
    unfit_from (λ (s : SpsOutcome). s.entry) (λ (s : SpsOutcome). leb s.outcome 1) g i previous sps ≡ None
sps_fits g [] i previous sound e = refl
sps_fits g (s ∷ sps) i previous sound e =
    let fits = entry_fits g i previous s.entry in
    let p = fits_on (fits && true) i _ e in
    let q = and_parts _ _ sound in
    cond-true _ _ (Some i) (and_from fits _ (and_parts fits true p.0).0 q.0) ∙ sps_fits g sps (i + 1) (Some s.entry) q.1 p.1

-- what is not there
none_there : {X : Type 0} (o : Option X) → is_some o ≡ false → o ≡ None
none_there None e = refl
none_there (Some x) e = let z : ◌≡◌ {A = ℕ} 0 1 = cc in absurd (omega arith)

-- the counter has values
span_some : (g : Config) → 0 < span g
span_some g = cond_both (eqb g.width 1) 2 4 (λ s. 0 < s) (λ _. omega arith) (λ _. omega arith)

-- a report that passes every check
judged_ok : (g : Config) (arrivals : List Arrival) (sps : List SpsOutcome) (lent room : ℕ) → config_within g ≡ true → first_refused g [] arrivals ≡ None →
    sps_judged g sps ≡ Ok tt → length_of g (slots_in g arrivals) (length sps) ≤ 1706 → slots_in g arrivals ≤ lent → length_of g (slots_in g arrivals) (length sps) ≤ room →
    judged g arrivals sps lent room ≡ Ok (slots_in g arrivals)
judged_ok g arrivals sps lent room config none fits short lends holds =
    let n = slots_in g arrivals in
    let sized : size_judged g n (length sps) lent room ≡ Ok tt =
    cond-false _ _ _ (le-ltb 1706 (length_of g n (length sps)) short) ∙ cond-false _ _ _ (le-ltb lent n lends) ∙ cond-false _ _ _ (le-ltb room (length_of g n (length sps)) holds) in
    ap (λ (r : Result (Unit {0}) Decline). onward r (λ _. onward (arrivals_judged g arrivals) (λ slots.
    onward (sps_judged g sps) (λ _. onward (size_judged g slots (length sps) lent room) (λ _. Ok slots))))) (cond-true (config_within g) _ _ config)
    ∙ ap (λ (r : Result ℕ Decline). onward r (λ slots.
    onward (sps_judged g sps) (λ _. onward (size_judged g slots (length sps) lent room) (λ _. Ok slots)))) (ap (slots_or n) none)
    ∙ ap (λ (r : Result (Unit {0}) Decline). onward r (λ _. onward (size_judged g n (length sps) lent room) (λ _. Ok n))) fits
    ∙ ap (λ (r : Result (Unit {0}) Decline). onward r (λ _. Ok n)) sized

-- no assignment
abbrev nothing : Assignment
nothing = record { number = 0; cell = 0; occasion = 0; format = 0; blocks = 0; field = 0 }

module _ (x : Exchange) (p : Premises x) where
  -- what was sent, with which configuration
  abbrev g : Config
  g = x.config

  abbrev xs : List Assignment
  xs = all_sent x

  s : Sends x.config (all_sent x)
  s = sends x

  -- those that arrived
  abbrev came : List Assignment
  came = filter (here x.fates) xs

  -- what is known of each
  all_got : AllByRecursion (Got g x.fates xs nothing s) came
  all_got = got g x.fates xs nothing s

  -- each passes the checks by itself
  good_came : AllByRecursion (Good g (till xs)) (map (arrival x.fates) came)
  good_came =
      All-map (Good g (till xs)) (arrival x.fates) came
      (All-weaker (Got g x.fates xs nothing s) (λ a. Good g (till xs) (arrival x.fates a))
      (λ a k. good x.fates g (till xs) a k.0.sendable k.0.reads (λ i lt.
      p.outcomes a.number i ((k.0.first, k.0.last), k.1) (subst (λ (b : Assignment). i < b.blocks) (sym k.0.at) lt))) came all_got)

  good_all : AllByRecursion (Good g (till xs)) (all_arrived x)
  good_all = subst (AllByRecursion (Good g (till xs))) (sym (arrivals_are x.fates xs)) good_came

  -- so each counts
  whole : counted g (all_arrived x) ≡ all_arrived x
  whole = counted_is g (till xs) (all_arrived x) good_all

  -- and none is refused
  none : first_refused g [] (all_arrived x) ≡ None
  none =
      none_refused g (till xs) (all_arrived x) [] tt good_all
      (subst (Ascends None) (sym (arrivals_are x.fates xs)) (ascends x.fates g None came (in_order_those g (here x.fates) None None xs (λ m c k. k) s.order)))

  -- the counters and the slot count are those of the numbers that arrived
  counted_came : counted g (all_arrived x) ≡ map (arrival x.fates) came
  counted_came = whole ∙ arrivals_are x.fates xs

  numbers_came : numbers 0 (flags x) ≡ map number_of came
  numbers_came = numbers_are x.fates 0 0 xs s.row

  counters_came : counters g (all_arrived x) ≡ counting.counters (span g) (flags x)
  counters_came =
      ap (map (counter g)) counted_came ∙ counters_are g x.fates xs nothing s came all_got ∙ ap (map (value (span g))) (sym numbers_came)

  -- the number that the end value stands for
  abbrev last_number : ℕ
  last_number = upto g x.fates xs nothing s came

  slots_came : slots_made x ≡ slots_of (span g) (flags x) last_number
  slots_came =
      ap (λ (l : List Arrival). slot_count (span g) (map (counter g) l) (end_value g l)) counted_came
      ∙ slots_are g x.fates xs nothing s came all_got good_came
      ∙ ap (λ (l : List ℕ). slot_count (span g) (map (value (span g)) l) (value (span g) last_number)) (sym numbers_came)

  -- a flag for each assignment sent
  many : length (flags x) ≡ count_sent x
  many = length-map xs (here x.fates)

  -- the counting theorem at what was sent
  agrees : counting.Agreement (span g) (flags x) last_number
  agrees = counts_agree (span g) (span_some g) (flags x) last_number (counts_to g x.fates xs nothing s)

  -- never more slots than assignments
  within : slots_made x ≤ count_sent x
  within = omega (arith, slots_came, many, agrees.within)

  -- losses by the flags
  flag_at : (k : ℕ) → 0 < k → k ≤ count_sent x → get_or (flags x) (k - 1) true ≡ (fate x k).arrived
  flag_at k pos le =
      let number : (get_or xs (k - 1) nothing).number ≡ k = row_at 0 0 xs s.row (k - 1) nothing (omega arith) ∙ omega arith in
      get_or-map (here x.fates) xs (k - 1) nothing true (omega arith) ∙ ap (λ n. (fate x n).arrived) number

  lost_flag : (k : ℕ) → Lost x k → losses.Lost (flags x) k
  lost_flag k h = flag_at k h.0.0 h.0.1 ∙ h.1

  flag_lost : (k : ℕ) → 0 < k → losses.Lost (flags x) k → Lost x k
  flag_lost k pos h =
      ⊎_elim (λ past. absurd (true≢false (sym (get_or_past (flags x) (k - 1) true (omega (arith, many))) ∙ h)))
      (λ le. ((pos, le), sym (flag_at k pos le) ∙ h)) (cases_lt (count_sent x) k)

  -- the run condition by the flags
  short_to : RunsShort x → losses.RunsShort (span g) (flags x)
  short_to short start long run = short start long (λ k above le. flag_lost k (omega arith) (run k above le))

  short_from : losses.RunsShort (span g) (flags x) → RunsShort x
  short_from short start long run = short start long (λ k above le. lost_flag k (run k above le))

  -- as many slots as assignments only where the cards agree, and there
  only_by : (length (flags x) ≡ 0) ⊎ (losses.RunsShort (span g) (flags x) × (last_number ≡ length (flags x))) → (0 < count_sent x) ⊎ (count_sent x ≤ 0) →
      NothingSent x ⊎ (RunsShort x × (LastArrived x ⊎ TotalInLastUsed x))
  only_by (inl z) some = inl (sym many ∙ z)
  only_by (inr r) (inl some) =
      inr (short_from r.0, ends_only g x.fates xs nothing s (last_occasion_used x) (last_used_sent x) came all_got some (r.1 ∙ many))
  only_by (inr r) (inr few) = inl (omega arith)

  only : slots_made x ≡ count_sent x → NothingSent x ⊎ (RunsShort x × (LastArrived x ⊎ TotalInLastUsed x))
  only q = only_by (agrees.agrees.0 (sym slots_came ∙ q ∙ sym many)) (cases_lt 0 (count_sent x))

  enough : NothingSent x ⊎ (RunsShort x × (LastArrived x ⊎ TotalInLastUsed x)) → slots_made x ≡ count_sent x
  enough (inl z) = slots_came ∙ agrees.agrees.1 (inl (many ∙ z)) ∙ many
  enough (inr r) =
      let end = ends_enough g x.fates xs nothing s (last_occasion_used x) (last_used_sent x) came refl r.1 in
      slots_came ∙ agrees.agrees.1 (inr (short_to r.0, end ∙ sym many)) ∙ many

  -- then each arrival is placed by its own number
  exact : slots_made x ≡ count_sent x → places_of g (all_arrived x) ≡ map (λ k. k - 1) (numbers 0 (flags x))
  exact q = ap (places (span g) 0 0) counters_came ∙ agrees.exact (sym slots_came ∙ q ∙ sym many)

  -- a report for all that was sent is short
  short : bits_per_place g * count_sent x + length x.sps ≤ 1088
  short =
      let b = batch_left x in
      let sent : Sent g (sps_list x) x.table x.calls b (table_left x) =
      sent_stands g (sps_list x) (length x.marks) (fresh_batch g (sps_list x)) x.table x.calls (ap (λ o. opened_by o g (sps_list x)) p.opened) in
      let bits : bits_per_place b.config * b.numbered ≡ bits_per_place g * count_sent x = ap₂ ◌*◌ (ap bits_per_place sent.config) sent.many in
      omega (arith, bits, sent.short, sent.listed, length-map x.sps (λ (s : SpsOutcome). s.entry))

  -- and so is that of the slots, which never are more
  fewer : length_of g (slots_made x) (length x.sps) ≤ bits_per_place g * count_sent x + length x.sps
  fewer = let le : bits_per_place g ≤ bits_per_place g = omega arith in omega (arith, mul-le-mul le within)

  -- the report is not declined
  made : judged g (all_arrived x) x.sps (length x.slots) x.room ≡ Ok (slots_made x)
  made =
      let config = passes _ _ _ p.opened in
      let listed = none_there _ (passes _ _ _ config.1).0 in
      judged_ok g (all_arrived x) x.sps (length x.slots) x.room (not-false _ config.0) none
      (ap fit_or (sps_fits g x.sps 0 None p.sps_outcomes listed)) (omega (arith, fewer, short)) (omega (arith, within, p.slots)) (omega (arith, fewer, p.room))

  pub ue_side : UeSide x
  ue_side = record { made = made; whole = whole; within = within; lengths = (only, enough); exact = exact }
