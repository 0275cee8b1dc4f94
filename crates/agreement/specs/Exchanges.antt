-- One exchange between gNB and UE, from opening to the counts. Assumes nothing.
use Rattle.std.specs.List.{filter}
use Rattle.std.specs.Prelude.{ℕ, ◌-◌, Bool, List, map, length, Some, None, Option, Result, slice_index_or}
use Rattle.harq.specs.declared.configs.Config.{Config}
use Rattle.harq.specs.declared.refusals.Refusal.{Refusal}
use Rattle.harq.specs.declared.sps.SpsEntry.{SpsEntry}
use Rattle.harq.specs.Words.{last_or}
use Rattle.sink.specs.Bits.{bits_of}
use Rattle.ue.specs.declared.arrivals.Arrival.{Arrival}
use Rattle.ue.specs.declared.arrivals.SpsOutcome.{SpsOutcome}
use Rattle.ue.specs.declared.slots.Slot.{Slot}
use Rattle.ue.specs.Batches.{slots_in}
use Rattle.ue.specs.Checks.{length_of}
use Rattle.ue.specs.Reports.{report_bits, report_answer, refusal_in}
use Rattle.gnb.specs.declared.batches.BatchState.{BatchState}
use Rattle.gnb.specs.declared.counts.Counts.{Counts}
use Rattle.gnb.specs.declared.grants.GrantEntry.{GrantEntry}
use Rattle.gnb.specs.declared.marks.Mark.{Mark}
use Rattle.gnb.specs.Opening.{fresh_batch, marks_opened}
use Rattle.gnb.specs.Calls.{expected}
use Rattle.gnb.specs.Sending.{Call, batch_run, table_run}
use Rattle.gnb.specs.Sending.{Assignment, accepted_calls, sent, with_grant}
use Rattle.gnb.specs.Readings.{answering, reading_refused, settled, table_settled, marks_settled}
use Rattle.agreement.specs.declared.fates.Fate.{Fate}
use Rattle.agreement.specs.Fates.{fate_of, arrivals_of}

-- All that goes in: the configuration and the SPS list of both cards (the gNB has it without the outcomes); at the gNB the numbering calls, the
-- grant table and the SPS marks that are lent; on the air the fates of number 1, 2, ..; at the UE the slots that are lent and the sink's room.
pub record Exchange : Type 0 where
  pub config : Config
  pub sps : List SpsOutcome
  pub calls : List Call
  pub fates : List Fate
  pub table : List GrantEntry
  pub marks : List Mark
  pub slots : List Slot
  pub room : ℕ

-- the SPS list without the outcomes
abbrev pub sps_list : Exchange → List SpsEntry
sps_list x = map (λ (s : SpsOutcome). s.entry) x.sps

-- the accepted ones of the numbering calls
abbrev pub calls_accepted : Exchange → List Call
calls_accepted x = accepted_calls (fresh_batch x.config (sps_list x)) (length x.table) x.calls

-- the assignments sent: the accepted calls' grants in order, numbered from 1
abbrev pub all_sent : Exchange → List Assignment
all_sent x = sent x.config (sps_list x) (length x.table) x.calls

-- N, how many were sent
abbrev pub count_sent : Exchange → ℕ
count_sent x = length (all_sent x)

-- the assignment of number k
abbrev pub assignment : Exchange → ℕ → Assignment
assignment x k = slice_index_or (all_sent x) (k - 1) (record { number = 0; cell = 0; occasion = 0; format = 0; blocks = 0; field = 0 })

-- its fate
abbrev pub fate : Exchange → ℕ → Fate
fate x k = fate_of x.fates k

-- the last occasion used: that of the last accepted call with a grant
abbrev pub last_occasion_used : Exchange → Option ℕ
last_occasion_used x = last_or None (map (λ (c : Call). Some c.occasion) (filter with_grant (calls_accepted x)))

-- what the UE has of them
abbrev pub all_arrived : Exchange → List Arrival
all_arrived x = arrivals_of x.fates (all_sent x)

-- the bits of the UE's report, and how many they are
abbrev pub reported : Exchange → List Bool
reported x = report_bits x.config (all_arrived x) x.sps

abbrev pub report_length : Exchange → ℕ
report_length x = length_of x.config (slots_in x.config (all_arrived x)) (length x.sps)

-- what the report answers: its length, or why it is declined
abbrev pub report_answered : Exchange → Result ℕ Refusal
report_answered x = refusal_in (report_answer x.config (all_arrived x) x.sps (length x.slots) x.room)

-- the gNB's state and grant table once numbering is closed
abbrev pub batch_left : Exchange → BatchState
batch_left x = batch_run (fresh_batch x.config (sps_list x)) x.table x.calls

abbrev pub table_left : Exchange → List GrantEntry
table_left x = table_run (fresh_batch x.config (sps_list x)) x.table x.calls

-- the SPS marks that opening left
abbrev pub marks_left : Exchange → List Mark
marks_left x = marks_opened x.config (sps_list x) x.marks

-- All that comes out: the length that the gNB expects, what the report and the reading answer, and what reading leaves in the table and the marks.
pub record Outcome : Type 0 where
  pub expected : ℕ
  pub report : Result ℕ Refusal
  pub reading : Result Counts (Refusal × BatchState)
  pub table : List GrantEntry
  pub marks : List Mark

-- why reading is declined, where the gNB reads so many bytes with the length of the report
abbrev pub reading_why : Exchange → ℕ → Option Refusal
reading_why x bytes = reading_refused (batch_left x) (table_left x) (length x.marks) bytes (report_length x)

-- what comes out by the rules of the cards, where the gNB reads these bytes with the length of the report
abbrev pub outcome_by : Exchange → List ℕ → Outcome
outcome_by x bytes = record {
  expected = expected (batch_left x);
  report = report_answered x;
  reading = settled (reading_why x (length bytes)) (batch_left x) (answering (batch_left x) (length bytes) (report_length x)) (bits_of bytes) (table_left x) (marks_left x);
  table = table_settled (reading_why x (length bytes)) (batch_left x) (answering (batch_left x) (length bytes) (report_length x)) (bits_of bytes) (table_left x);
  marks = marks_settled (reading_why x (length bytes)) (batch_left x) (answering (batch_left x) (length bytes) (report_length x)) (bits_of bytes) (marks_left x);
}
