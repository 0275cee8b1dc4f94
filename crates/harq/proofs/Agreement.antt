-- The agreement of the counts and of the places. Assumes nothing.
use Rattle.std.proofs.Common.{◌≡◌, ℕ, ◌+◌, ◌-◌, ◌<◌, ◌≤◌, Bool, true, false, ◌⊎◌, List, [], ◌∷◌, map, length, refl, inl, inr, arith}
use Rattle.std.proofs.lemmas.Bool.{cases_lt}
use Rattle.dai.specs.Values.{value}
use Rattle.harq.specs.Words.{last_or}
use Rattle.harq.specs.Placing.{places, count_after, slot_count}
use Rattle.harq.specs.Losses.{numbers, last_arrived, RunsShort}
use Rattle.harq.specs.Agreement.{counters, CountsTo, slots_of, CountsAgree}
use Rattle.harq.proofs.Turns.{turn_of, stands}
use Rattle.harq.proofs.Runs.{runs_short_longest}
use Rattle.harq.proofs.Arrivals.{at_first, low_after, places_kept, count_le, count_exact, count_kept}

pub last_ge : (bs : List Bool) (k n : ℕ) → k ≤ n → k ≤ last_or k (numbers n bs)
last_ge [] k n h = omega arith
last_ge (true ∷ bs) k n h = omega (arith, last_ge bs (n + 1) (n + 1) (omega arith))
last_ge (false ∷ bs) k n h = last_ge bs k (n + 1) (omega arith)

-- nothing arrived: no slot
no_slots : (span e : ℕ) (bs : List Bool) (n : ℕ) → last_or 0 (numbers n bs) ≤ 0 → slot_count span (map (value span) (numbers n bs)) e ≡ 0
no_slots span e [] n none = refl
no_slots span e (true ∷ bs) n none = absurd (omega (arith, last_ge bs (n + 1) (n + 1) (omega arith)))
no_slots span e (false ∷ bs) n none = no_slots span e bs (n + 1) none

-- something arrived: the slot count is that behind its counters
some_slots : (span e : ℕ) (ns : List ℕ) → 0 < last_or 0 ns → slot_count span (map (value span) ns) e ≡ count_after span 0 0 (map (value span) ns) e
some_slots span e [] pos = absurd (omega arith)
some_slots span e (n ∷ ns) pos = refl

-- nothing sent: nothing placed
places_none : (span : ℕ) (arrived : List Bool) → length arrived ≡ 0 → places span 0 0 (counters span arrived) ≡ map (λ k. k - 1) (numbers 0 arrived)
places_none span [] e = refl
places_none span (b ∷ bs) e = absurd (omega arith)

-- under the run condition each arrival is placed by its own number
pub own_places : (span : ℕ) → 0 < span → (arrived : List Bool) → RunsShort span arrived → places span 0 0 (counters span arrived) ≡ map (λ k. k - 1) (numbers 0 arrived)
own_places span hs arrived short =
    places_kept span hs arrived 0 0 0 0 0 0 (at_first span) refl ((runs_short_longest span arrived).0 short)

module _ (span : ℕ) (hs : 0 < span) (arrived : List Bool) (upto : ℕ) (to : CountsTo arrived upto) where
  at_most_by : (0 < last_arrived arrived) ⊎ (last_arrived arrived ≤ 0) → slots_of span arrived upto ≤ upto
  at_most_by (inl pos) =
      let t = stands span upto hs (omega arith) in
      let le = count_le span hs upto (turn_of span upto) (value span upto) t arrived 0 0 0 0 0 0 (at_first span) pos to.from_last in
      omega (arith, some_slots span (value span upto) (numbers 0 arrived) pos)
  at_most_by (inr none) = omega (arith, no_slots span (value span upto) arrived 0 none)

  pub at_most : slots_of span arrived upto ≤ upto
  at_most = at_most_by (cases_lt 0 (last_arrived arrived))

  only_by : (0 < last_arrived arrived) ⊎ (last_arrived arrived ≤ 0) → slots_of span arrived upto ≡ length arrived →
      (length arrived ≡ 0) ⊎ (RunsShort span arrived × (upto ≡ length arrived))
  only_by (inl pos) q =
      let t = stands span upto hs (omega arith) in
      let r = count_exact span hs upto (turn_of span upto) (value span upto) t arrived 0 0 0 0 0 0 (length arrived) (at_first span) pos to.from_last to.sent (omega arith)
      (omega (arith, some_slots span (value span upto) (numbers 0 arrived) pos)) in
      inr ((runs_short_longest span arrived).1 r.1, r.2)
  only_by (inr none) q = inl (omega (arith, no_slots span (value span upto) arrived 0 none))

  only : slots_of span arrived upto ≡ length arrived → (length arrived ≡ 0) ⊎ (RunsShort span arrived × (upto ≡ length arrived))
  only = only_by (cases_lt 0 (last_arrived arrived))

  enough_by : (0 < last_arrived arrived) ⊎ (last_arrived arrived ≤ 0) → RunsShort span arrived → upto ≡ length arrived → slots_of span arrived upto ≡ length arrived
  enough_by (inl pos) short up =
      let t = stands span upto hs (omega arith) in
      let q = count_kept span hs upto (turn_of span upto) (value span upto) t arrived 0 0 0 0 0 0 (length arrived) (at_first span) pos to.from_last (omega arith) refl
      ((runs_short_longest span arrived).0 short) up in
      omega (arith, some_slots span (value span upto) (numbers 0 arrived) pos)
  enough_by (inr none) short up = omega (arith, no_slots span (value span upto) arrived 0 none, to.none (omega arith))

  enough : (length arrived ≡ 0) ⊎ (RunsShort span arrived × (upto ≡ length arrived)) → slots_of span arrived upto ≡ length arrived
  enough (inl e) = omega (arith, at_most, to.sent)
  enough (inr r) = enough_by (cases_lt 0 (last_arrived arrived)) r.0 r.1

  exact : (length arrived ≡ 0) ⊎ (RunsShort span arrived × (upto ≡ length arrived)) → places span 0 0 (counters span arrived) ≡ map (λ k. k - 1) (numbers 0 arrived)
  exact (inl e) = places_none span arrived e
  exact (inr r) = own_places span hs arrived r.0

pub counts_agree : CountsAgree
counts_agree span hs arrived upto to = record {
  within = omega (arith, at_most span hs arrived upto to, to.sent);
  low = low_after span hs arrived 0 0 0 0 0 0 (at_first span);
  agrees = (only span hs arrived upto to, enough span hs arrived upto to);
  exact = λ q. exact span hs arrived upto to (only span hs arrived upto to q);
  short = runs_short_longest span arrived;
}
