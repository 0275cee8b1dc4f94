-- A report that is not declined is written whole. Assumes nothing.
use Rattle.std.specs.Prelude.{flat_map}
use Rattle.std.proofs.Common.{replicate, ◌≡◌, ℕ, ◌+◌, ◌*◌, ◌≤◌, List, length, Ok, Err, Result, sym, refl, ap, ◌∙◌, arith}
use Rattle.harq.specs.declared.configs.Config.{Config}
use Rattle.harq.specs.Words.{onward}
use Rattle.harq.specs.Configs.{span, bits_per_place}
use Rattle.harq.specs.Placers.{fresh}
use Rattle.ue.specs.declared.arrivals.Arrival.{Arrival}
use Rattle.ue.specs.declared.arrivals.SpsOutcome.{SpsOutcome}
use Rattle.ue.specs.declared.declines.Decline.{Decline}
use Rattle.ue.specs.Slots.{nack, place_bits}
use Rattle.ue.specs.Checks.{judged, length_of}
use Rattle.ue.specs.Fillings.{placed_by}
use Rattle.ue.specs.Reports.{held, report_bits, report_answer}
use Rattle.ue.proofs.Accepted.{Accepted, accepted, rising, below_slots, length_slot_bits, length_report}
use Rattle.ue.proofs.Few.{few_accepted}
use Rattle.ue.proofs.Placings.{placed_held}

module _ (g : Config) (arrivals : List Arrival) (sps : List SpsOutcome) (lent room n : ℕ) (e : judged g arrivals sps lent room ≡ Ok n) where
  a : Accepted g arrivals sps lent room n
  a = accepted g arrivals sps lent room n e

  pub slots_written : placed_by g (fresh (span g)) arrivals (replicate n nack) ≡ held g arrivals
  slots_written = placed_held g arrivals n (few_accepted g a.config arrivals n a.passes) a.slots (rising g arrivals n a.passes) (below_slots g arrivals n a.passes)

  -- the bits of the slots, and one for each SPS reception, have room
  pub room_enough : length (flat_map (place_bits g.mode) (held g arrivals)) + length sps ≤ room
  room_enough = omega (arith, length_slot_bits g arrivals, ap (λ k. bits_per_place g * k) a.slots, a.holds)

-- what an answer says of the report
pub record Answered (g : Config) (arrivals : List Arrival) (sps : List SpsOutcome) (room n : ℕ) : Type 0 where
  pub long : n ≡ length (report_bits g arrivals sps)
  pub fits : n ≤ room
  pub short : n ≤ 1706

module _ (g : Config) (arrivals : List Arrival) (sps : List SpsOutcome) (lent room n : ℕ) where
  answered_by : (r : Result ℕ Decline) → judged g arrivals sps lent room ≡ r → Ok n ≡ onward r (λ slots. Ok (length_of g slots (length sps))) → Answered g arrivals sps room n
  answered_by (Ok m) e is =
      let same : n ≡ length_of g m (length sps) = cc in
      let b = accepted g arrivals sps lent room m e in
      record { long = same ∙ sym (length_report g arrivals sps lent room m e); fits = omega (arith, b.holds); short = omega (arith, b.short) }
  answered_by (Err d) e is = let z : ◌≡◌ {A = ℕ} 0 1 = cc in absurd (omega arith)

  pub answered : Ok n ≡ report_answer g arrivals sps lent room → Answered g arrivals sps room n
  answered is = answered_by (judged g arrivals sps lent room) refl is
