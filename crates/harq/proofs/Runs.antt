-- The run condition and the longest run. Assumes nothing.
use Rattle.std.proofs.Common.{◌≡◌, ℕ, zero, suc, ◌+◌, ◌-◌, ◌<◌, ◌≤◌, max, Bool, true, false, ◌⊎◌, ◌↔◌, List, [], ◌∷◌, get_or, refl, subst, inl, inr, arith}
use Rattle.std.proofs.lemmas.Bool.{cases_lt, true≢false}
use Rattle.harq.specs.Losses.{LostRun, RunsShort, longest_after, longest}

-- a run by the indices of the row: number i + 1 stands at index i
abbrev Gap : List Bool → ℕ → ℕ → Type 0
Gap bs start long = (i : ℕ) → start ≤ i → i < start + long → get_or bs i true ≡ false

gap_run : (bs : List Bool) (start long : ℕ) → Gap bs start long → LostRun bs start long
gap_run bs start long g k above upto = g (k - 1) (omega arith) (omega arith)

run_gap : (bs : List Bool) (start long : ℕ) → LostRun bs start long → Gap bs start long
run_gap bs start long r i ge lt = let e : i + 1 - 1 ≡ i = omega arith in rw e at (r (i + 1) (omega arith) (omega arith))

-- a gap in the tail is one in the row, one later; and back
later : (b : Bool) (bs : List Bool) (start long : ℕ) → Gap bs start long → Gap (b ∷ bs) (suc start) long
later b bs start long g zero ge lt = absurd (omega arith)
later b bs start long g (suc i) ge lt = g i (omega arith) (omega arith)

earlier : (b : Bool) (bs : List Bool) (start long : ℕ) → Gap (b ∷ bs) (suc start) long → Gap bs start long
earlier b bs start long g i ge lt = g (suc i) (omega arith) (omega arith)

-- one more loss in front of a gap at the front; and back
more : (bs : List Bool) (long : ℕ) → Gap bs 0 long → Gap (false ∷ bs) 0 (suc long)
more bs long g zero ge lt = refl
more bs long g (suc i) ge lt = g i (omega arith) (omega arith)

fewer : (b : Bool) (bs : List Bool) (long : ℕ) → Gap (b ∷ bs) 0 (suc long) → Gap bs 0 long
fewer b bs long g i ge lt = g (suc i) (omega arith) (omega arith)

empty_gap : (bs : List Bool) (start : ℕ) → Gap bs start 0
empty_gap bs start i ge lt = absurd (omega arith)

-- none past the end
none_past : (start long : ℕ) → Gap [] start long → long ≡ 0
none_past start zero g = refl
none_past start (suc long) g = absurd (true≢false (g start (omega arith) (omega arith)))

lost_le : (lost : ℕ) (bs : List Bool) → lost ≤ longest_after lost bs
lost_le lost [] = omega arith
lost_le lost (true ∷ bs) = omega arith
lost_le lost (false ∷ bs) = omega (arith, lost_le (lost + 1) bs)

-- a gap at the front, with the losses before it, is no longer than the longest
front_le : (lost : ℕ) (bs : List Bool) (long : ℕ) → Gap bs 0 long → lost + long ≤ longest_after lost bs
front_le lost [] long g = omega (arith, none_past 0 long g)
front_le lost (true ∷ bs) zero g = omega arith
front_le lost (true ∷ bs) (suc long) g = absurd (true≢false (g zero (omega arith) (omega arith)))
front_le lost (false ∷ bs) zero g = omega (arith, lost_le (lost + 1) bs)
front_le lost (false ∷ bs) (suc long) g = omega (arith, front_le (lost + 1) bs long (fewer false bs long g))

-- nor is any other
any_le : (lost : ℕ) (bs : List Bool) (start long : ℕ) → Gap bs start long → long ≤ longest_after lost bs
any_le lost [] start long g = omega (arith, none_past start long g)
any_le lost (true ∷ bs) zero long g = omega (arith, front_le lost (true ∷ bs) long g)
any_le lost (true ∷ bs) (suc start) long g = omega (arith, any_le 0 bs start long (earlier true bs start long g))
any_le lost (false ∷ bs) zero long g = omega (arith, front_le lost (false ∷ bs) long g)
any_le lost (false ∷ bs) (suc start) long g = any_le (lost + 1) bs start long (earlier false bs start long g)

-- a gap as long as the longest: at the front, with the losses before it, or further on
LongestGap : ℕ → List Bool → Type 0
LongestGap lost bs = ((long : ℕ) × Gap bs 0 long × (longest_after lost bs ≡ lost + long)) ⊎ ((start : ℕ) × Gap bs start (longest_after lost bs))

anywhere : (bs : List Bool) → LongestGap 0 bs → (start : ℕ) × Gap bs start (longest bs)
unfolding LongestGap
anywhere bs (inl t) = (0, let e : t.0 ≡ longest bs = omega arith in subst (Gap bs 0) e t.1)
anywhere bs (inr t) = t

front_more : (lost : ℕ) (bs : List Bool) → LongestGap (lost + 1) bs → LongestGap lost (false ∷ bs)
unfolding LongestGap
front_more lost bs (inl t) = inl (suc t.0, more bs t.0 t.1, omega arith)
front_more lost bs (inr t) = inr (suc t.0, later false bs t.0 _ t.1)

met : (lost : ℕ) (bs : List Bool) → (start : ℕ) × Gap bs start (longest bs) → LongestGap lost (true ∷ bs)
unfolding LongestGap
met lost bs t =
    elim (cases_lt lost (longest bs)) [
      | inl lt ↦
          let e : longest bs ≡ max lost (longest bs) = omega arith in
          inr (suc t.0, subst (Gap (true ∷ bs) (suc t.0)) e (later true bs t.0 (longest bs) t.1))
      | inr ge ↦ inl (0, empty_gap (true ∷ bs) 0, omega arith)
    ]

longest_gap : (lost : ℕ) (bs : List Bool) → LongestGap lost bs
unfolding LongestGap
longest_gap lost [] = inl (0, empty_gap [] 0, omega arith)
longest_gap lost (true ∷ bs) = met lost bs (anywhere bs (longest_gap 0 bs))
longest_gap lost (false ∷ bs) = front_more lost bs (longest_gap (lost + 1) bs)

-- some run is as long as the longest, and none is longer
pub longest_run : (arrived : List Bool) → (start : ℕ) × LostRun arrived start (longest arrived)
longest_run arrived = let t = anywhere arrived (longest_gap 0 arrived) in (t.0, gap_run arrived t.0 (longest arrived) t.1)

pub run_le : (arrived : List Bool) (start long : ℕ) → LostRun arrived start long → long ≤ longest arrived
run_le arrived start long r = any_le 0 arrived start long (run_gap arrived start long r)

-- the run condition holds exactly when the longest run is shorter than the span
pub runs_short_longest : (span : ℕ) (arrived : List Bool) → RunsShort span arrived ↔ (longest arrived < span)
runs_short_longest span arrived = (
  λ short. let t = longest_run arrived in short t.0 (longest arrived) t.1,
  λ lt start long r. omega (arith, run_le arrived start long r),
)
