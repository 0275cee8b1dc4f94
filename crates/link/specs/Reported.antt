-- A report that went into a sink. Assumes nothing.
use Rattle.std.specs.Prelude.{◌≡◌, ℕ, Bool, false, List, length, is_ok, Result}
use Rattle.harq.specs.declared.configs.Config.{Config}
use Rattle.harq.specs.declared.refusals.Refusal.{Refusal}
use Rattle.sink.specs.Gains.{Gains}
use Rattle.ue.specs.declared.arrivals.Arrival.{Arrival}
use Rattle.ue.specs.declared.arrivals.SpsOutcome.{SpsOutcome}
use Rattle.ue.specs.declared.slots.Slot.{Slot}
use Rattle.ue.specs.Reports.{report_answer, refusal_in, gained_by, slots_by}

-- The report for these arrivals: what it answers, and what it leaves in the lent slots and in the sink, which takes its bits as `aired` says.
pub record IsReported {S : Type 0} (taken : S → List Bool) (room : S → ℕ) (takes : S → List Bool → S → Type 0) (aired : List Bool → List Bool)
    (g : Config) (arrivals : List Arrival) (sps : List SpsOutcome) (lent : List Slot) (before : S) (r : Result ℕ Refusal) (left : List Slot) (after : S) : Type 0 where
  pub answer : r ≡ refusal_in (report_answer g arrivals sps (length lent) (room before))
  pub slots : left ≡ slots_by g arrivals lent r
  pub gains : Gains taken room takes before (aired (gained_by g arrivals sps r)) after
  pub took : takes before (aired (gained_by g arrivals sps r)) after
  -- a declined report leaves the sink as it was
  pub kept : is_ok r ≡ false → after ≡ before
