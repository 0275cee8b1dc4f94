-- The records of a trace so far. Assumes nothing.
use Rattle.std.proofs.Common.{◌≡◌, ℕ, suc, ◌+◌, ◌-◌, ◌<◌, ◌≤◌, List, [], ◌∷◌, ◌++◌, map, length, Some, None, Ok, Err, Option, Result, sym, refl, ap, ◌∙◌, subst, append_assoc, append-nil, arith}
use Rattle.std.proofs.lemmas.List.{map_push}
use Rattle.trace.specs.declared.faults.Fault.{Fault}
use Rattle.trace.specs.Faults.{after}
use Rattle.trace.specs.Records.{Entry, record_at}
use Rattle.trace.specs.Files.{length_checked, and_then, entries_from, entries}

-- records that were read, and then those that are left
abbrev pub joined : List Entry → Result (List Entry) Fault → Result (List Entry) Fault
joined acc r = after r (λ es. Ok (acc ++ es))

regroup : (acc : List Entry) (e : Entry) (r : Result (List Entry) Fault) → joined acc (after r (λ es. Ok (e ∷ es))) ≡ joined (acc ++ e ∷ []) r
regroup acc e (Ok es) = ap Ok (sym (append_assoc acc (e ∷ []) es))
regroup acc e (Err f) = refl

-- the next record of those that are left, k of n turns gone
pub entries_step : (bs : List ℕ) (acc : List Entry) (at n k : ℕ) (r : Result (Option (Entry × ℕ)) Fault) → k < n → r ≡ record_at bs at → joined acc (entries_from (n - k) bs at) ≡ joined acc (after r (and_then (entries_from (n - (k + 1)) bs)))
entries_step bs acc at n k r h e =
    let s : n - k ≡ suc (n - (k + 1)) = omega arith in
    ap (λ m. joined acc (entries_from m bs at)) s ∙ ap (λ q. joined acc (after q (and_then (entries_from (n - (k + 1)) bs)))) (sym e)

-- acc are the first k records of bs, and the next stands at `at`
pub record Sofar (bs : List ℕ) (acc : List Entry) (k at : ℕ) : Type 0 where
  pub few : k ≤ at
  pub within : at ≤ length bs
  pub rest : entries_from (suc (length bs)) bs 0 ≡ joined acc (entries_from (suc (length bs) - k) bs at)

joined_none : (r : Result (List Entry) Fault) → r ≡ joined [] r
joined_none (Ok es) = refl
joined_none (Err f) = refl

pub sofar_none : (bs : List ℕ) (acc : List Entry) (k : ℕ) → acc ≡ [] → k ≡ 0 → Sofar bs acc k 0
sofar_none bs acc k e z = let same : suc (length bs) ≡ suc (length bs) - k = omega arith in record {
  few = omega arith;
  within = omega arith;
  rest = joined_none (entries_from (suc (length bs)) bs 0) ∙ ap (λ n. joined [] (entries_from n bs 0)) same ∙ ap (λ l. joined l (entries_from (suc (length bs) - k) bs 0)) (sym e);
}

module _ (bs : List ℕ) (acc : List Entry) (k at : ℕ) (s : Sofar bs acc k at) where
  pub sofar_step : (r : Result (Option (Entry × ℕ)) Fault) → r ≡ record_at bs at → entries_from (suc (length bs)) bs 0 ≡ joined acc (after r (and_then (entries_from (suc (length bs) - (k + 1)) bs)))
  sofar_step r e = s.rest ∙ entries_step bs acc at (suc (length bs)) k r (omega (arith, s.few, s.within)) e

  pub sofar_more : (e : Entry) (next : ℕ) → Ok (Some (e, next)) ≡ record_at bs at → at < next → next ≤ length bs → Sofar bs (acc ++ e ∷ []) (k + 1) next
  sofar_more e next is less within = record {
    few = omega (arith, s.few);
    within = within;
    rest = sofar_step (Ok (Some (e, next))) is ∙ regroup acc e (entries_from (suc (length bs) - (k + 1)) bs next);
  }

  module _ (short : Ok tt ≡ length_checked bs) where
    entries_is : entries bs ≡ entries_from (suc (length bs)) bs 0
    entries_is = ap (λ r. after r (λ _. entries_from (suc (length bs)) bs 0)) (sym short)

    pub sofar_all : Ok None ≡ record_at bs at → entries bs ≡ Ok acc
    sofar_all e = entries_is ∙ sofar_step (Ok None) e ∙ ap Ok (append-nil acc)

    pub sofar_fault : (f : Fault) → Err f ≡ record_at bs at → entries bs ≡ Err f
    sofar_fault f e = entries_is ∙ sofar_step (Err f) e

-- the same with the records as the program holds them
pub sofar_push : {X : Type 0} (f : X → Entry) (bs : List ℕ) (xs ys : List X) (k l at : ℕ) (x : X) (next : ℕ) → Sofar bs (map f xs) k at → ys ≡ xs ++ x ∷ [] → l ≡ k + 1 → Ok (Some (f x, next)) ≡ record_at bs at → at < next → next ≤ length bs → Sofar bs (map f ys) l next
sofar_push f bs xs ys k l at x next s e m is less within =
    subst (λ n. Sofar bs (map f ys) n next) (sym m) (subst (λ zs. Sofar bs zs (k + 1) next) (sym (ap (map f) e ∙ map_push f xs x)) (sofar_more bs (map f xs) k at s (f x) next is less within))
