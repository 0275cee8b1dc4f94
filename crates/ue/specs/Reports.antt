-- The UE's HARQ-ACK report for what arrived. Assumes nothing.
use Rattle.std.specs.List.{range_with_len}
use Rattle.std.specs.Prelude.{ℕ, Bool, List, [], ◌++◌, map, length, drop, Ok, Err, Result, ◌==◌, flat_map}
use Rattle.std.specs.Option.{unwrap_or}
use Rattle.harq.specs.declared.configs.Config.{Config}
use Rattle.harq.specs.declared.refusals.Refusal.{Refusal}
use Rattle.harq.specs.Words.{onward}
use Rattle.harq.specs.Configs.{span}
use Rattle.harq.specs.Placing.{places, standing_at}
use Rattle.ue.specs.declared.arrivals.Arrival.{Arrival}
use Rattle.ue.specs.declared.arrivals.SpsOutcome.{SpsOutcome}
use Rattle.ue.specs.declared.declines.Decline.{Decline}
use Rattle.ue.specs.declared.slots.Slot.{Slot}
use Rattle.ue.specs.Slots.{slot_of, nack, place_bits}
use Rattle.ue.specs.Batches.{counted, counters, slots_in}
use Rattle.ue.specs.Checks.{length_of, judged}

-- the places of the counted arrivals
abbrev pub places_of : Config → List Arrival → List ℕ
places_of g arrivals = places (span g) 0 0 (counters g arrivals)

-- what a place holds: the outcomes of the arrival that has it, else a NACK
abbrev pub held_at : Config → List Arrival → ℕ → Slot
held_at g arrivals p = unwrap_or (standing_at p (places_of g arrivals) (map slot_of (counted g arrivals))) nack

-- what the places hold, from the first to the last
abbrev pub held : Config → List Arrival → List Slot
held g arrivals = map (held_at g arrivals) (range_with_len 0 (slots_in g arrivals))

-- the bit of an SPS reception
abbrev pub sps_bit : SpsOutcome → Bool
sps_bit s = s.outcome == 1

-- the report: the bits of each place, then a bit for each SPS reception
abbrev pub report_bits : Config → List Arrival → List SpsOutcome → List Bool
report_bits g arrivals sps = flat_map (place_bits g.mode) (held g arrivals) ++ map sps_bit sps

-- the answer: the length of the report, or why it is declined, with that many slots lent and that room
abbrev pub report_answer : Config → List Arrival → List SpsOutcome → ℕ → ℕ → Result ℕ Decline
report_answer g arrivals sps lent room = onward (judged g arrivals sps lent room) (λ slots. Ok (length_of g slots (length sps)))

-- the bits that the sink gains: none where the report is declined
abbrev pub gained_by : {E : Type 0} → Config → List Arrival → List SpsOutcome → Result ℕ E → List Bool
gained_by g arrivals sps (Ok n) = report_bits g arrivals sps
gained_by g arrivals sps (Err e) = []

-- the slots afterwards: what the places hold, and later slots as they were; all as they were where the report is declined
abbrev pub slots_by : {E : Type 0} → Config → List Arrival → List Slot → Result ℕ E → List Slot
slots_by g arrivals slots (Ok n) = held g arrivals ++ drop (slots_in g arrivals) slots
slots_by g arrivals slots (Err e) = slots

-- the refusal alone
abbrev pub refusal_in : Result ℕ Decline → Result ℕ Refusal
refusal_in (Ok n) = Ok n
refusal_in (Err d) = Err d.refusal
