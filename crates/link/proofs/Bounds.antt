-- How much a report is. Assumes nothing.
use Rattle.std.proofs.Common.{◌≡◌, ℕ, ◌*◌, ◌≤◌, List, length, IfOk, Ok, Err, Result, refl, arith}
use Rattle.harq.specs.declared.configs.Config.{Config}
use Rattle.harq.specs.declared.refusals.Refusal.{Refusal}
use Rattle.harq.specs.Words.{onward}
use Rattle.ue.specs.declared.arrivals.Arrival.{Arrival}
use Rattle.ue.specs.declared.arrivals.SpsOutcome.{SpsOutcome}
use Rattle.ue.specs.declared.declines.Decline.{Decline}
use Rattle.ue.specs.Checks.{judged, length_of}
use Rattle.ue.specs.Reports.{report_answer, refusal_in, gained_by}
use Rattle.ue.proofs.Accepted.{accepted, length_report}

module _ (g : Config) (arrivals : List Arrival) (sps : List SpsOutcome) (lent room : ℕ) where
  answered_by_few : (r : Result ℕ Decline) → judged g arrivals sps lent room ≡ r → IfOk (refusal_in (onward r (λ slots. Ok (length_of g slots (length sps))))) (λ n. n ≤ 1706)
  answered_by_few (Ok n) e = (accepted g arrivals sps lent room n e).short
  answered_by_few (Err d) e = tt

  -- a report has at most 1,706 bits, by its length
  pub answered_few : IfOk (refusal_in (report_answer g arrivals sps lent room)) (λ n. n ≤ 1706)
  answered_few = answered_by_few (judged g arrivals sps lent room) refl

  gained_by_few : (r : Result ℕ Decline) → judged g arrivals sps lent room ≡ r →
      length (gained_by g arrivals sps (refusal_in (onward r (λ slots. Ok (length_of g slots (length sps)))))) ≤ 1706
  gained_by_few (Ok n) e = omega (arith, length_report g arrivals sps lent room n e, (accepted g arrivals sps lent room n e).short)
  gained_by_few (Err d) e = omega arith

  -- and by its bits
  pub gained_few : length (gained_by g arrivals sps (refusal_in (report_answer g arrivals sps lent room))) ≤ 1706
  gained_few = gained_by_few (judged g arrivals sps lent room) refl

-- it is held by 214 bytes
pub held_by : (r : Result ℕ Refusal) (bytes : ℕ) → bytes ≡ 214 → IfOk r (λ n. n ≤ 1706) → IfOk r (λ n. n ≤ 8 * bytes)
held_by (Ok n) bytes is few = omega arith
held_by (Err e) bytes is few = tt
