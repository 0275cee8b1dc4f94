-- What arrives, entry by entry. Assumes nothing.
use Rattle.std.proofs.Common.{◌≡◌, ℕ, suc, ◌≤◌, Bool, true, false, cond, List, [], ◌∷◌, map, length, Some, None, Option, refl, arith}
use Rattle.std.specs.List.{filter_map}
use Rattle.ue.specs.declared.arrivals.Arrival.{Arrival}
use Rattle.gnb.specs.declared.grants.GrantEntry.{GrantEntry}
use Rattle.gnb.specs.Sending.{assignment_in}
use Rattle.agreement.specs.declared.fates.Fate.{Fate}
use Rattle.agreement.specs.Fates.{fate_of, arrival_of, arrivals_of}

module _ (fates : List Fate) where
  abbrev pub arrival_in : GrantEntry → Option Arrival
  arrival_in e = cond (fate_of fates e.number).arrived (Some (arrival_of (assignment_in e) (fate_of fates e.number))) None

  put_before : (b : Bool) (e : GrantEntry) (es : List GrantEntry) (x : Arrival) (xs : List Arrival) → arrival_in e ≡ cond b (Some x) None →
      filter_map arrival_in es ≡ xs → filter_map arrival_in (e ∷ es) ≡ cond b (x ∷ xs) xs
  put_before true e es x xs is rest = rw (is, rest) refl
  put_before false e es x xs is rest = rw (is, rest) refl

  pub arrivals_in : (es : List GrantEntry) → filter_map arrival_in es ≡ arrivals_of fates (map assignment_in es)
  arrivals_in [] = refl
  arrivals_in (e ∷ es) = put_before (fate_of fates e.number).arrived e es (arrival_of (assignment_in e) (fate_of fates e.number)) _ refl (arrivals_in es)

  few_before : (b : Bool) (x : Arrival) (xs : List Arrival) (n : ℕ) → length xs ≤ n → length (cond b (x ∷ xs) xs) ≤ suc n
  few_before true x xs n few = omega (arith, few)
  few_before false x xs n few = omega (arith, few)

  pub few_arrive : (es : List GrantEntry) → length (arrivals_of fates (map assignment_in es)) ≤ length es
  few_arrive [] = omega arith
  few_arrive (e ∷ es) =
      few_before (fate_of fates e.number).arrived (arrival_of (assignment_in e) (fate_of fates e.number)) (arrivals_of fates (map assignment_in es)) (length es) (few_arrive es)
