-- A batch planned by a list of calls. Assumes nothing.
use Rattle.std.specs.Prelude.{ℕ, List, Ok, Err, Result}
use Rattle.harq.specs.declared.configs.Config.{Config}
use Rattle.harq.specs.declared.refusals.Refusal.{Refusal}
use Rattle.harq.specs.declared.sps.SpsEntry.{SpsEntry}
use Rattle.gnb.specs.declared.batches.BatchState.{BatchState}
use Rattle.gnb.specs.declared.grants.Call as code
use Rattle.gnb.specs.declared.grants.GrantEntry.{GrantEntry}
use Rattle.gnb.specs.Calls.{expected}
use Rattle.gnb.specs.Opening.{opened}
use Rattle.gnb.specs.Sending.{Call, batch_run, table_run}

-- a call of the program, by its values
abbrev pub call_of : code.Call → Call
call_of c = record { occasion = c.occasion; grants = c.grants.now }

-- the length to expect behind the calls, or why opening is declined
abbrev pub planned_by : Result BatchState Refusal → List Call → List GrantEntry → Result ℕ Refusal
planned_by (Ok b) calls table = Ok (expected (batch_run b table calls))
planned_by (Err e) calls table = Err e

abbrev pub planned : Config → List SpsEntry → List Call → List GrantEntry → ℕ → Result ℕ Refusal
planned g sps calls table marks = planned_by (opened g sps marks) calls table

-- the table behind the calls; as it was where opening is declined
abbrev pub table_by_plan : Result BatchState Refusal → List Call → List GrantEntry → List GrantEntry
table_by_plan (Ok b) calls table = table_run b table calls
table_by_plan (Err e) calls table = table

abbrev pub table_planned : Config → List SpsEntry → List Call → List GrantEntry → ℕ → List GrantEntry
table_planned g sps calls table marks = table_by_plan (opened g sps marks) calls table
