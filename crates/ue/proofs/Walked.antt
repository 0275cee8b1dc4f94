-- The walk over the arrivals judges them as the checks say. Assumes nothing.
use Rattle.std.specs.Option.{option_or}
use Rattle.std.proofs.Common.{◌≡◌, ℕ, suc, ◌+◌, ◌<◌, ◌≤◌, Bool, true, false, cond, not, ◌&&◌, eqb, List, [], ◌∷◌, ◌++◌, map, length, is_some, Some, None, Ok, Err, fold, Option, Result, unwrap_or, sym, refl, ap, ◌∙◌, subst, ⊎_elim, append-nil, arith}
use Rattle.std.specs.List.{AllByRecursion, filter}
use Rattle.std.proofs.ByRecursion.{All-push, All-weaker}
use Rattle.std.proofs.lemmas.List.{append_assoc, length_push, map_push, length-map}
use Rattle.std.proofs.lemmas.List.Sums.{fold_push, length-filter, count_by-le-length}
use Rattle.std.proofs.lemmas.List.Elements.{filter-append}
use Rattle.std.proofs.lemmas.Bool.{true≢false, cases_eq, eq-eqb, ne_eqb, cond-true, cond-false}
use Rattle.std.proofs.lemmas.Bool.Decides.{nat_tests}
use Rattle.harq.specs.declared.configs.Config.{Config}
use Rattle.harq.specs.declared.placing.Placer.{Placer}
use Rattle.harq.specs.declared.refusals.Refusal.{Refusal}
use Rattle.harq.specs.declared.refusals.Refusal.TheVariants as why
use Rattle.harq.specs.Words.{last_or, onward}
use Rattle.harq.specs.Configs.{span, in_range}
use Rattle.harq.specs.Placing.{count_after, slot_count}
use Rattle.harq.specs.Placers.{fresh, advanced, slots_at}
use Rattle.harq.proofs.Rows.{last_or_push}
use Rattle.harq.proofs.Placers.{slots_at_along, previous_along}
use Rattle.ue.specs.declared.arrivals.Arrival.{Arrival}
use Rattle.ue.specs.declared.declines.Decline.{Decline}
use Rattle.ue.specs.declared.walks.Known.{Known}
use Rattle.ue.specs.declared.walks.Walk.{Walk}
use Rattle.ue.specs.Batches.{dai_of, counter_read, total_read, counter, total, counting, brought, counted, counters, total_at, end_value, slots_in}
use Rattle.ue.specs.Checks.{last_of, rises_above, differ, total_differs, arrival_refused, first_refused, slots_or}
use Rattle.ue.specs.Walks.{start, above, known_total, joined, passed, tallied, totalled, step_read, step, blamed, walk_from, slots_after}

pub those_few : {X : Type 0} (test : X → Bool) (xs : List X) → length (filter test xs) ≤ length xs
those_few test xs = omega (arith, length-filter test xs, count_by-le-length test xs)

pub last_of_push : (xs : List Arrival) (a : Arrival) → last_of (xs ++ a ∷ []) ≡ Some a
last_of_push [] a = refl
last_of_push (x ∷ xs) a = ap Some (last_or_push x xs a)

-- the pair of an arrival
abbrev pub pair : Option Arrival → Option (ℕ × ℕ)
pair None = None
pair (Some a) = Some (a.occasion, a.cell)

pair_above : (o : Option Arrival) (a : Arrival) → above (pair o) a ≡ rises_above o a
pair_above None a = refl
pair_above (Some p) a = refl

or_none : {X : Type 0} (o : Option X) → option_or o None ≡ o
or_none None = refl
or_none (Some x) = refl

or_assoc : {X : Type 0} (a b c : Option X) → option_or (option_or a b) c ≡ option_or a (option_or b c)
or_assoc None b c = refl
or_assoc (Some x) b c = refl

module _ (g : Config) where
  -- the total of an occasion with one arrival more
  total_at_push : (m : ℕ) (xs : List Arrival) (a : Arrival) → total_at g m (xs ++ a ∷ []) ≡ option_or (total_at g m xs) (cond (eqb a.occasion m) (total g a) None)
  total_at_push m [] a = or_none _
  total_at_push m (x ∷ xs) a = ap (option_or (cond (eqb x.occasion m) (total g x) None)) (total_at_push m xs a) ∙ sym (or_assoc (cond (eqb x.occasion m) (total g x) None) (total_at g m xs) (cond (eqb a.occasion m) (total g a) None))

  -- an occasion above all others has no total yet
  total_at_none : (m k : ℕ) (xs : List Arrival) → k < m → AllByRecursion (λ b. b.occasion ≤ k) xs → total_at g m xs ≡ None
  total_at_none m k [] lt h = refl
  total_at_none m k (x ∷ xs) lt h =
      let ne : eqb x.occasion m ≡ false = ne_eqb _ _ (λ e. let l : x.occasion ≤ k = h.0 in omega arith) in
      ap (λ b. option_or (cond b (total g x) None) (total_at g m xs)) ne ∙ total_at_none m k xs lt h.1

  -- what is known behind counted arrivals
  abbrev end_of : List Arrival → Option Known
  end_of [] = None
  end_of (a ∷ rest) = Some (record { occasion = (last_or a rest).occasion; total = total_at g (last_or a rest).occasion (a ∷ rest) })

  end_of_is : (xs : List Arrival) (a : Arrival) (ys : List Arrival) → ys ≡ xs ++ a ∷ [] →
      end_of ys ≡ Some (record { occasion = a.occasion; total = total_at g a.occasion ys })
  end_of_is [] a [] e = let z : ◌≡◌ {A = ℕ} 0 1 = ap length e in absurd (omega arith)
  end_of_is (x ∷ xs) a [] e = let z : ◌≡◌ {A = ℕ} 0 (suc (length (xs ++ a ∷ []))) = ap length e in absurd (omega arith)
  end_of_is [] a (y ∷ ys) e =
      let l : last_or y ys ≡ a = ap (last_or y) e in
      ap (λ (b : Arrival). Some (record { occasion = b.occasion; total = total_at g b.occasion (y ∷ ys) })) l
  end_of_is (x ∷ xs) a (y ∷ ys) e =
      let l : last_or y ys ≡ a = ap (last_or y) e ∙ last_or_push x xs a in
      ap (λ (b : Arrival). Some (record { occasion = b.occasion; total = total_at g b.occasion (y ∷ ys) })) l

  end_of_push : (xs : List Arrival) (a : Arrival) →
      end_of (xs ++ a ∷ []) ≡ Some (record { occasion = a.occasion; total = option_or (total_at g a.occasion xs) (total g a) })
  end_of_push xs a =
      let here : total_at g a.occasion (xs ++ a ∷ []) ≡ option_or (total_at g a.occasion xs) (total g a) =
      total_at_push a.occasion xs a ∙ ap (option_or (total_at g a.occasion xs)) (cond-true (eqb a.occasion a.occasion) _ _ (eq-eqb _ _ refl))
      in
      end_of_is xs a (xs ++ a ∷ []) refl ∙ ap (λ (t : Option ℕ). Some (record { occasion = a.occasion; total = t })) here

  -- the last occasion that counted
  abbrev upto : Option Known → ℕ
  upto None = 0
  upto (Some k) = k.occasion

  abbrev last_occasion : Option (ℕ × ℕ) → ℕ
  last_occasion None = 0
  last_occasion (Some p) = p.0

  -- what is known of the next occasion is its total
  known_is : (xs : List Arrival) (m : ℕ) → AllByRecursion (λ b. b.occasion ≤ upto (end_of xs)) xs → upto (end_of xs) ≤ m →
      known_total (end_of xs) m ≡ total_at g m xs
  known_is [] m h le = refl
  known_is (x ∷ xs) m h le =
      let k : ℕ = (last_or x xs).occasion in
      ⊎_elim
      (λ (e : k ≡ m). cond-true (eqb k m) _ _ (eq-eqb k m e) ∙ ap (λ (n : ℕ). total_at g n (x ∷ xs)) e)
      (λ (ne : k ≡ m → ⊥). cond-false (eqb k m) _ _ (ne_eqb k m ne) ∙ sym (total_at_none m k (x ∷ xs) (omega arith) h))
      (cases_eq k m)

-- the walk s has come through the arrivals before
pub record Walked (g : Config) (earlier : List Arrival) (s : Walk) : Type 0 where
  pub last_is : s.last ≡ pair (last_of earlier)
  pub known : s.known ≡ end_of g (counted g earlier)
  pub sorted : AllByRecursion (λ b. b.occasion ≤ upto g s.known) (counted g earlier)
  pub behind : upto g s.known ≤ last_occasion g s.last
  pub placer_is : s.placer ≡ fold advanced (fresh (span g)) (counters g earlier)

pub walked_none : (g : Config) → Walked g [] (start g)
walked_none g = record { last_is = refl; known = refl; sorted = tt; behind = omega arith; placer_is = refl }

-- an arrival that is above the last one is in no earlier occasion
not_earlier : (o : Option (ℕ × ℕ)) (a : Arrival) (g : Config) → above o a ≡ true → last_occasion g o ≤ a.occasion
not_earlier None a g e = omega arith
not_earlier (Some p) a g e = grind (arith, nat_tests)

module _ (g : Config) (earlier : List Arrival) (s : Walk) (w : Walked g earlier s) (a : Arrival) (up : above s.last a ≡ true) where
  last_now : Some (a.occasion, a.cell) ≡ pair (last_of (earlier ++ a ∷ []))
  last_now = ap pair (sym (last_of_push earlier a))

  within : upto g s.known ≤ a.occasion
  within = omega (arith, w.behind, not_earlier s.last a g up)

  -- the total that is known of the arrival's occasion
  known_here : known_total s.known a.occasion ≡ total_at g a.occasion (counted g earlier)
  known_here =
      let sorted = subst (λ (k : Option Known). AllByRecursion (λ b. b.occasion ≤ upto g k) (counted g earlier)) w.known w.sorted in
      let low = subst (λ (k : Option Known). upto g k ≤ a.occasion) w.known within in
      ap (λ (k : Option Known). known_total k a.occasion) w.known ∙ known_is g (counted g earlier) a.occasion sorted low

  -- it does not count
  walked_passed : counting g a ≡ false → Walked g (earlier ++ a ∷ []) (passed s a)
  walked_passed e =
      let same : counted g earlier ≡ counted g (earlier ++ a ∷ []) = sym (filter-append (counting g) earlier (a ∷ []) ∙ ap (λ b. counted g earlier ++ cond b (a ∷ []) []) e ∙ append-nil _) in
      record {
        last_is = last_now;
        known = w.known ∙ ap (end_of g) same;
        sorted = subst (λ (xs : List Arrival). AllByRecursion (λ b. b.occasion ≤ upto g s.known) xs) same w.sorted;
        behind = within;
        placer_is = w.placer_is ∙ ap (λ (xs : List Arrival). fold advanced (fresh (span g)) (map (counter g) xs)) same;
      }

  -- it counts
  walked_tallied : counting g a ≡ true → (v : ℕ) (t : Option ℕ) → v ≡ counter g a → t ≡ option_or (total_at g a.occasion (counted g earlier)) (total g a) →
      Walked g (earlier ++ a ∷ []) (tallied s a v t)
  walked_tallied e v t is total_is =
      let xs : List Arrival = counted g earlier in
      let more : counted g (earlier ++ a ∷ []) ≡ xs ++ a ∷ [] = filter-append (counting g) earlier (a ∷ []) ∙ ap (λ b. xs ++ cond b (a ∷ []) []) e in
      let here : AllByRecursion (λ b. b.occasion ≤ a.occasion) (xs ++ a ∷ []) =
      All-push (λ b. b.occasion ≤ a.occasion) xs a (All-weaker (λ b. b.occasion ≤ upto g s.known) (λ b. b.occasion ≤ a.occasion) (λ b h. omega (arith, within)) xs w.sorted) (omega arith)
      in
      record {
        last_is = last_now;
        known = ap (λ (u : Option ℕ). Some (record { occasion = a.occasion; total = u })) total_is ∙ sym (end_of_push g xs a) ∙ ap (end_of g) (sym more);
        sorted = subst (λ (ys : List Arrival). AllByRecursion (λ b. b.occasion ≤ a.occasion) ys) (sym more) here;
        behind = omega arith;
        placer_is =
            ap (λ (p : Placer). advanced p v) w.placer_is ∙ ap (advanced (fold advanced (fresh (span g)) (counters g earlier))) is
            ∙ sym (fold_push advanced (fresh (span g)) (map (counter g) xs) (counter g a))
            ∙ ap (fold advanced (fresh (span g))) (sym (map_push (counter g) xs a) ∙ ap (map (counter g)) (sym more));
      }

-- a refusal and an answer that fit each other
abbrev Fits : (g : Config) → List Arrival → Option Refusal → Result Walk Refusal → Type 0
Fits g earlier None (Ok t) = Walked g earlier t
Fits g earlier None (Err e) = ⊥
Fits g earlier (Some e) (Ok t) = ⊥
Fits g earlier (Some e) (Err f) = f ≡ e

module _ (g : Config) (earlier : List Arrival) where
  -- one check, in both
  fits_check : (b c : Bool) (e : Refusal) (o : Option Refusal) (r : Result Walk Refusal) → c ≡ b → (c ≡ true → Fits g earlier o r) →
      Fits g earlier (cond (not b) (Some e) o) (cond c r (Err e))
  fits_check true true e o r same h = h refl
  fits_check false false e o r same h = refl
  fits_check true false e o r same h = let z : ◌≡◌ {A = Bool} true false = sym same in absurd (true≢false z)
  fits_check false true e o r same h = absurd (true≢false same)

  -- the totals of one occasion
  fits_totals : (s : Walk) (a : Arrival) (v : ℕ) (T U : Option ℕ) → ((t : Option ℕ) → t ≡ option_or T U → Walked g earlier (tallied s a v t)) →
      Fits g earlier (cond (differ T U) (Some why.Totals) None) (totalled s a v (joined T U))
  fits_totals s a v None U h = h U refl
  fits_totals s a v (Some u) None h = h (Some u) refl
  fits_totals s a v (Some u) (Some t) h =
      elim (eqb u t) as (λ b. Fits g earlier (cond (not b) (Some why.Totals) None) (totalled s a v (cond b (Some (Some u)) None)))
      [ true ↦ h (Some u) refl | false ↦ refl ]

-- the step refuses exactly what the checks refuse
module _ (g : Config) (earlier : List Arrival) (s : Walk) (w : Walked g earlier s) (a : Arrival) where
  module _ (up : above s.last a ≡ true) (r : ℕ × Option ℕ) (is : dai_of g a ≡ Some r) where
    counter_is : r.0 ≡ counter g a
    counter_is = sym (ap counter_read is)

    total_is : r.1 ≡ total g a
    total_is = sym (ap total_read is)

    go_counted : (b : Bool) → counting g a ≡ b →
        Fits g (earlier ++ a ∷ []) (cond (b && differ (total_at g a.occasion (counted g earlier)) (total g a)) (Some why.Totals) None)
        (cond b (totalled s a r.0 (joined (known_total s.known a.occasion) r.1)) (Ok (passed s a)))
    go_counted false e = walked_passed g earlier s w a up e
    go_counted true e =
        let T : Option ℕ = total_at g a.occasion (counted g earlier) in
        let U : Option ℕ = total g a in
        let h = fits_totals g (earlier ++ a ∷ []) s a r.0 T U (λ t f. walked_tallied g earlier s w a up e r.0 t counter_is f) in
        let k : joined (known_total s.known a.occasion) r.1 ≡ joined T U = ap (λ (x : Option ℕ). joined x r.1) (known_here g earlier s w a up) ∙ ap (joined T) total_is in
        subst (λ (x : Option (Option ℕ)). Fits g (earlier ++ a ∷ []) (cond (differ T U) (Some why.Totals) None) (totalled s a r.0 x)) (sym k) h

  go_read : above s.last a ≡ true → (d : Option (ℕ × Option ℕ)) → dai_of g a ≡ d →
      Fits g (earlier ++ a ∷ [])
      (cond (not (is_some d)) (Some why.Field) (cond (not (brought g a)) (Some why.Blocks) (cond (total_differs g earlier a) (Some why.Totals) None)))
      (step_read g s a d)
  go_read up None e = refl
  go_read up (Some r) e = fits_check g (earlier ++ a ∷ []) (brought g a) (brought g a) why.Blocks _ _ refl (λ _. go_counted up r e (counting g a) refl)

  pub step_fits : Fits g (earlier ++ a ∷ []) (arrival_refused g earlier a) (step g s a)
  step_fits =
      let same : above s.last a ≡ rises_above (last_of earlier) a = ap (λ (o : Option (ℕ × ℕ)). above o a) w.last_is ∙ pair_above (last_of earlier) a in
      fits_check g (earlier ++ a ∷ []) (in_range g a.cell a.occasion) (in_range g a.cell a.occasion) why.Range _ _ refl (λ _.
      fits_check g (earlier ++ a ∷ []) (rises_above (last_of earlier) a) (above s.last a) why.Order _ _ same (λ up.
      go_read up (dai_of g a) refl))

-- how a walk ends
abbrev pub Ends : (g : Config) → List Arrival → Option (ℕ × Refusal) → Result Walk Decline → Type 0
Ends g all None (Ok t) = Walked g all t
Ends g all None (Err d) = ⊥
Ends g all (Some p) (Ok t) = ⊥
Ends g all (Some p) (Err d) = (n : ℕ) → Err d ≡ slots_or n (Some p)

module _ (g : Config) where
  -- one arrival, and then what is left
  go_step : (rest earlier : List Arrival) (a : Arrival) →
      ((t : Walk) → Walked g (earlier ++ a ∷ []) t → Ends g ((earlier ++ a ∷ []) ++ rest) (first_refused g (earlier ++ a ∷ []) rest) (walk_from g t (length (earlier ++ a ∷ [])) rest)) →
      (o : Option Refusal) (r : Result Walk Refusal) → Fits g (earlier ++ a ∷ []) o r →
      Ends g (earlier ++ (a ∷ rest))
      (elim o [ Some e ↦ Some (length earlier, e) | None ↦ first_refused g (earlier ++ (a ∷ [])) rest ])
      (onward (blamed (length earlier) r) (λ t. walk_from g t (length earlier + 1) rest))
  go_step rest earlier a ih None (Ok t) w =
      let P : List Arrival → ℕ → Type 0 = λ all n. Ends g all (first_refused g (earlier ++ a ∷ []) rest) (walk_from g t n rest) in
      subst (λ (n : ℕ). P (earlier ++ (a ∷ rest)) n) (length_push earlier a)
      (subst (λ (all : List Arrival). P all (length (earlier ++ a ∷ []))) (append_assoc earlier (a ∷ []) rest) (ih t w))
  go_step rest earlier a ih None (Err e) w = absurd w
  go_step rest earlier a ih (Some e) (Ok t) w = absurd w
  go_step rest earlier a ih (Some e) (Err f) w = λ n. ap (λ (x : Refusal). blamed {X = ℕ} (length earlier) (Err x)) w

  pub walk_ends : (rest earlier : List Arrival) (s : Walk) → Walked g earlier s →
      Ends g (earlier ++ rest) (first_refused g earlier rest) (walk_from g s (length earlier) rest)
  walk_ends [] earlier s w = subst (λ (xs : List Arrival). Walked g xs s) (sym (append-nil earlier)) w
  walk_ends (a ∷ rest) earlier s w = go_step rest earlier a (walk_ends rest (earlier ++ a ∷ [])) (arrival_refused g earlier a) (step g s a) (step_fits g earlier s w a)

last_map : (g : Config) (x : Arrival) (xs : List Arrival) → last_or (counter g x) (map (counter g) xs) ≡ counter g (last_or x xs)
last_map g x [] = refl
last_map g x (y ∷ xs) = last_map g y xs

-- the slot count behind the last arrival
slots_known : (g : Config) (xs : List Arrival) (s : Walk) → s.known ≡ end_of g xs → s.placer ≡ fold advanced (fresh (span g)) (map (counter g) xs) →
    length xs ≤ 512 → slots_after s ≡ slot_count (span g) (map (counter g) xs) (end_value g xs)
slots_known g [] s known placer few = ap (λ (k : Option Known). slots_after (record { last = s.last; known = k; placer = s.placer })) known
slots_known g (x ∷ xs) s known placer few =
    let vs : List ℕ = map (counter g) (x ∷ xs) in
    let m : ℕ = (last_or x xs).occasion in
    let P : Placer = fold advanced (fresh (span g)) vs in
    let along : (e : ℕ) → slots_at P e ≡ count_after (span g) 0 0 vs e = λ e. slots_at_along vs (fresh (span g)) e (let l = length-map (x ∷ xs) (counter g) in omega arith) in
    let previous : P.previous ≡ counter g (last_or x xs) = previous_along (counter g x) (map (counter g) xs) (fresh (span g)) ∙ last_map g x xs in
    let go : (t : Option ℕ) → elim t [ None ↦ slots_at P P.previous | Some e ↦ slots_at P e ] ≡ count_after (span g) 0 0 vs (unwrap_or t (counter g (last_or x xs))) =
    λ t. elim t as (λ (u : Option ℕ). elim u [ None ↦ slots_at P P.previous | Some e ↦ slots_at P e ] ≡ count_after (span g) 0 0 vs (unwrap_or u (counter g (last_or x xs))))
    [ None ↦ ap (slots_at P) previous ∙ along (counter g (last_or x xs)) | Some e ↦ along e ]
    in
    ap (λ (k : Option Known). slots_after (record { last = s.last; known = k; placer = s.placer })) known
    ∙ ap (λ (p : Placer). slots_after (record { last = s.last; known = end_of g (x ∷ xs); placer = p })) placer
    ∙ go (total_at g m (x ∷ xs))

pub walked_slots : (g : Config) (all : List Arrival) (s : Walk) → Walked g all s → length all ≤ 512 → slots_after s ≡ slots_in g all
walked_slots g all s w few = slots_known g (counted g all) s w.known w.placer_is (omega (arith, those_few (counting g) all))

-- the walk, and the slot count behind it, are what the checks say
pub judged_by : (g : Config) (all : List Arrival) (o : Option (ℕ × Refusal)) (r : Result Walk Decline) → Ends g all o r →
    (o ≡ None → length all ≤ 512) → onward r (λ t. Ok (slots_after t)) ≡ slots_or (slots_in g all) o
judged_by g all None (Ok t) w few = ap Ok (walked_slots g all t w (few refl))
judged_by g all None (Err d) w few = absurd w
judged_by g all (Some p) (Ok t) w few = absurd w
judged_by g all (Some p) (Err d) w few = w (slots_in g all)
