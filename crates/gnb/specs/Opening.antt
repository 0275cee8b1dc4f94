-- Opening a batch. Assumes nothing.
use Rattle.std.specs.Prelude.{ℕ, true, not, List, [], ◌∷◌, ◌++◌, length, drop, replicate, is_some, Some, None, Ok, Err, Option, Result, nat_lt}
use Rattle.harq.specs.declared.configs.Config.{Config}
use Rattle.harq.specs.declared.refusals.Refusal.{Refusal}
use Rattle.harq.specs.declared.refusals.Refusal.TheVariants as why
use Rattle.harq.specs.declared.sps.SpsEntry.{SpsEntry}
use Rattle.harq.specs.Words.{first_refusing}
use Rattle.harq.specs.Configs.{config_within}
use Rattle.harq.specs.SpsLists.{unfit_from}
use Rattle.gnb.specs.declared.batches.BatchState.{BatchState}
use Rattle.gnb.specs.declared.marks.Mark.{Mark}
use Rattle.gnb.specs.declared.marks.Mark.TheVariants.{Unanswered}
use Rattle.gnb.specs.declared.states.Open.{Open}
use Rattle.gnb.specs.declared.states.State.{State}

-- why opening is declined: the configuration, the SPS list, then too few marks
abbrev pub opening_refused : Config → List SpsEntry → ℕ → Option Refusal
opening_refused g sps marks =
    first_refusing (
    (not (config_within g), why.Configuration)
    ∷ (is_some (unfit_from (λ e. e) (λ _. true) g 0 None sps), why.Sps)
    ∷ (nat_lt marks (length sps), why.Table)
    ∷ [])

-- a batch with nothing numbered
abbrev pub fresh_batch : Config → List SpsEntry → BatchState
fresh_batch g sps = record { config = g; sps = length sps; last = None; numbered = 0; granted = length sps }

-- what opening answers
abbrev pub opened_by : Option Refusal → Config → List SpsEntry → Result BatchState Refusal
opened_by None g sps = Ok (fresh_batch g sps)
opened_by (Some e) g sps = Err e

abbrev pub opened : Config → List SpsEntry → ℕ → Result BatchState Refusal
opened g sps marks = opened_by (opening_refused g sps marks) g sps

-- the first marks are unanswered, later ones as they were; all as they were where opening is declined
abbrev pub marks_by : Option Refusal → ℕ → List Mark → List Mark
marks_by None count marks = replicate count Unanswered ++ drop count marks
marks_by (Some e) count marks = marks

abbrev pub marks_opened : Config → List SpsEntry → List Mark → List Mark
marks_opened g sps marks = marks_by (opening_refused g sps (length marks)) (length sps) marks

-- a state by its numbers
abbrev pub batch_of : Result (State Open) Refusal → Result BatchState Refusal
batch_of (Ok n) = Ok n.batch
batch_of (Err e) = Err e
