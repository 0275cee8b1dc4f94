-- What the slots hold. Assumes nothing.
use Rattle.std.proofs.Common.{◌≡◌, ℕ, ◌+◌, ◌<◌, ◌≤◌, Bool, true, false, cond, eqb, ◌≢◌, List, [], ◌∷◌, ◌++◌, map, length, get_or, drop, set, replicate, Some, None, Option, unwrap_or, sym, refl, ap, ◌∙◌, subst, arith}
use Rattle.std.proofs.lemmas.List.{length-set, length-append, length-replicate, length-drop, get_or-set_same, get_or-set_other, get_or_append_left, get_or-append-add, get_or-drop, get_or-replicate}
use Rattle.std.proofs.lemmas.Bool.{eqb-true, eqb-false, ne_eqb, cond-false}
use Rattle.std.specs.List.{range_with_len}
use Rattle.std.specs.Option.{option_or}
use Rattle.harq.specs.Placing.{standing_at, written_at}
use Rattle.harq.specs.PlacingLaws.{Rising, Below, SlotsHold}
use Rattle.harq.proofs.Rows.{below_le, made_by_place}

module _ {E : Type 0} where
  pub length_written_at : (qs : List ℕ) (xs slots : List E) → length (written_at qs xs slots) ≡ length slots
  length_written_at [] xs slots = refl
  length_written_at (q ∷ qs) [] slots = refl
  length_written_at (q ∷ qs) (x ∷ xs) slots = length_written_at qs xs (set slots q x) ∙ length-set slots q x

  -- nothing stands below the lowest place, or past the highest
  pub standing_below : (p low : ℕ) (qs : List ℕ) (xs : List E) → Rising low qs → p < low → standing_at p qs xs ≡ None
  standing_below p low [] xs r lt = refl
  standing_below p low (q ∷ qs) [] r lt = refl
  standing_below p low (q ∷ qs) (x ∷ xs) r lt =
      cond-false (eqb q p) (Some x) (standing_at p qs xs) (ne_eqb q p (λ e. omega arith)) ∙ standing_below p (q + 1) qs xs r.1 (omega arith)

  pub standing_past : (p n : ℕ) (qs : List ℕ) (xs : List E) → Below n qs → n ≤ p → standing_at p qs xs ≡ None
  standing_past p n [] xs b ge = refl
  standing_past p n (q ∷ qs) [] b ge = refl
  standing_past p n (q ∷ qs) (x ∷ xs) b ge =
      cond-false (eqb q p) (Some x) (standing_at p qs xs) (ne_eqb q p (λ e. omega arith)) ∙ standing_past p n qs xs b.1 ge

  -- one more entry at the end
  pub written_at_push : (qs : List ℕ) (xs slots : List E) (q : ℕ) (x : E) → length xs ≡ length qs →
      written_at (qs ++ q ∷ []) (xs ++ x ∷ []) slots ≡ set (written_at qs xs slots) q x
  written_at_push [] [] slots q x same = refl
  written_at_push [] (y ∷ xs) slots q x same = absurd (omega arith)
  written_at_push (o ∷ qs) [] slots q x same = absurd (omega arith)
  written_at_push (o ∷ qs) (y ∷ xs) slots q x same = written_at_push qs xs (set slots o y) q x (omega arith)

  pub standing_at_push : (p : ℕ) (qs : List ℕ) (xs : List E) (q : ℕ) (x : E) → length xs ≡ length qs →
      standing_at p (qs ++ q ∷ []) (xs ++ x ∷ []) ≡ option_or (standing_at p qs xs) (cond (eqb q p) (Some x) None)
  standing_at_push p [] [] q x same = refl
  standing_at_push p [] (y ∷ xs) q x same = absurd (omega arith)
  standing_at_push p (o ∷ qs) [] q x same = absurd (omega arith)
  standing_at_push p (o ∷ qs) (y ∷ xs) q x same =
      elim (eqb o p) as (λ b. cond b (Some y) (standing_at p (qs ++ q ∷ []) (xs ++ x ∷ [])) ≡ option_or (cond b (Some y) (standing_at p qs xs)) (cond (eqb q p) (Some x) None)) [
        | true ↦ refl
        | false ↦ standing_at_push p qs xs q x (omega arith)
      ]

  -- a slot holds the entry whose place it is, and any other keeps its content
  hold_one : (q : ℕ) (qs : List ℕ) (x : E) (xs slots : List E) (p : ℕ) (d : E) → Rising (q + 1) qs → q < length slots → (b : Bool) → eqb q p ≡ b →
      unwrap_or (standing_at p qs xs) (get_or (set slots q x) p d) ≡ unwrap_or (cond b (Some x) (standing_at p qs xs)) (get_or slots p d)
  hold_one q qs x xs slots p d r lt true e =
      let same : q ≡ p = eqb-true q p e in
      let none = standing_below p (q + 1) qs xs r (omega arith) in
      let put : get_or (set slots q x) p d ≡ x = rw same (get_or-set_same slots p x d (omega arith)) in
      rw none put
  hold_one q qs x xs slots p d r lt false e =
      let other : p ≢ q = λ same. eqb-false q p e (sym same) in
      ap (unwrap_or (standing_at p qs xs)) (get_or-set_other slots q p x d other)

  pub hold_from : (low : ℕ) (qs : List ℕ) (xs slots : List E) → Rising low qs → Below (length slots) qs → length xs ≡ length qs → (p : ℕ) (d : E) →
      get_or (written_at qs xs slots) p d ≡ unwrap_or (standing_at p qs xs) (get_or slots p d)
  hold_from low [] xs slots r b same p d = refl
  hold_from low (q ∷ qs) [] slots r b same p d = absurd (omega arith)
  hold_from low (q ∷ qs) (x ∷ xs) slots r b same p d =
      hold_from (q + 1) qs xs (set slots q x) r.1 (subst (λ n. Below n qs) (sym (length-set slots q x)) b.1) (omega arith) p d
      ∙ hold_one q qs x xs slots p d r.1 b.0 (eqb q p) refl

  -- places below n: the slots below n are made by what stands there, and the others kept
  module _ (qs : List ℕ) (xs : List E) (n : ℕ) (r : Rising 0 qs) (b : Below n qs) (same : length xs ≡ length qs) where
    written_by : (slots rest : List E) (f : ℕ → E) (d : E) → length slots ≡ n + length rest →
        ((k : ℕ) → k < n → unwrap_or (standing_at k qs xs) (get_or slots k d) ≡ f k) → ((k : ℕ) → get_or slots (n + k) d ≡ get_or rest k d) →
        written_at qs xs slots ≡ map f (range_with_len 0 n) ++ rest
    written_by slots rest f d all front back =
        let hold : (p : ℕ) → get_or (written_at qs xs slots) p d ≡ unwrap_or (standing_at p qs xs) (get_or slots p d) =
        λ p. hold_from 0 qs xs slots r (below_le n (length slots) qs (omega arith) b) same p d in
        made_by_place f n (written_at qs xs slots) rest d (length_written_at qs xs slots ∙ all) (λ k h. hold k ∙ front k h)
        (λ k. hold (n + k) ∙ ap (λ (o : Option E). unwrap_or o (get_or slots (n + k) d)) (standing_past (n + k) n qs xs b (omega arith)) ∙ back k)

  -- d is any entry
  pub written_slots : (qs : List ℕ) (xs slots : List E) (n : ℕ) (d : E) → Rising 0 qs → Below n qs → length xs ≡ length qs → n ≤ length slots →
      written_at qs xs slots ≡ map (λ p. unwrap_or (standing_at p qs xs) (get_or slots p d)) (range_with_len 0 n) ++ drop n slots
  written_slots qs xs slots n d r b same room =
      written_by qs xs n r b same slots (drop n slots) (λ p. unwrap_or (standing_at p qs xs) (get_or slots p d)) d
      (omega (arith, length-drop n slots)) (λ k h. refl) (λ k. sym (get_or-drop n slots k d))

  -- over slots of which the first n hold v
  pub written_over : (qs : List ℕ) (xs rest : List E) (n : ℕ) (v : E) → Rising 0 qs → Below n qs → length xs ≡ length qs →
      written_at qs xs (replicate n v ++ rest) ≡ map (λ p. unwrap_or (standing_at p qs xs) v) (range_with_len 0 n) ++ rest
  written_over qs xs rest n v r b same =
      let many = length-replicate n v in
      written_by qs xs n r b same (replicate n v ++ rest) rest (λ p. unwrap_or (standing_at p qs xs) v) v
      (omega (arith, length-append (replicate n v) rest))
      (λ k h. ap (unwrap_or (standing_at k qs xs)) (get_or_append_left (replicate n v) rest v k (omega arith) ∙ get_or-replicate n k v v h))
      (λ k. rw many at (get_or-append-add (replicate n v) rest k v))

  pub written_filled : (qs : List ℕ) (xs slots : List E) (n : ℕ) (v : E) → Rising 0 qs → Below n qs → length xs ≡ length qs → n ≤ length slots →
      written_at qs xs (replicate n v ++ drop n slots) ≡ map (λ p. unwrap_or (standing_at p qs xs) v) (range_with_len 0 n) ++ drop n slots
  written_filled qs xs slots n v r b same room = written_over qs xs (drop n slots) n v r b same

pub slots_hold : (E : Type 0) → SlotsHold E
slots_hold E = hold_from 0
