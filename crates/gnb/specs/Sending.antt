-- The assignments that a list of numbering calls sends. Assumes nothing.
use Rattle.std.specs.Prelude.{◌≡◌, ℕ, ◌+◌, ◌*◌, ◌≤◌, Bool, true, cond, not, List, [], ◌∷◌, ◌++◌, map, length, take, drop, Some, None, Ok, ◌==◌}
use Rattle.std.specs.List.{AllByRecursion}
use Rattle.dai.specs.Values.{value}
use Rattle.harq.specs.declared.configs.Config.{Config}
use Rattle.harq.specs.declared.sps.SpsEntry.{SpsEntry}
use Rattle.harq.specs.Words.{every, those, counting_from}
use Rattle.harq.specs.Configs.{span, layout_of, read_dai, carries_total}
use Rattle.gnb.specs.declared.batches.BatchState.{BatchState}
use Rattle.gnb.specs.declared.grants.Grant.{Grant}
use Rattle.gnb.specs.declared.grants.GrantEntry.{GrantEntry}
use Rattle.gnb.specs.Marks.{answered_blocks, unanswered}
use Rattle.gnb.specs.Calls.{call_refused, field_by, batch_by, batch_after, table_after, expected}
use Rattle.gnb.specs.Opening.{opened, fresh_batch}
use Rattle.gnb.specs.Readings.{has_place}

-- a numbering call: an occasion and its grants
pub record Call : Type 0 where
  pub occasion : ℕ
  pub grants : List Grant

-- The accepted ones of a list of calls, from a state on, with a grant table of that length. A call is accepted exactly when no check
-- refuses it, and a refused one leaves all as it was.
abbrev pub accepted_calls : BatchState → ℕ → List Call → List Call
accepted_calls b table [] = []
accepted_calls b table (c ∷ cs) = elim (call_refused b table c.occasion c.grants) [
  | None ↦ c ∷ accepted_calls (batch_by None b c.occasion c.grants) table cs
  | Some e ↦ accepted_calls b table cs
]

-- a DCI assignment as sent
pub record Assignment : Type 0 where
  pub number : ℕ
  pub cell : ℕ
  pub occasion : ℕ
  pub format : ℕ
  pub blocks : ℕ
  pub field : ℕ

-- the assignments of one call, numbered on behind n; `total` are numbered with this call
abbrev pub assignments : Config → ℕ → ℕ → ℕ → List Grant → List Assignment
assignments g occasion total n [] = []
assignments g occasion total n (a ∷ rest) =
    record {
      number = n + 1;
      cell = a.cell;
      occasion = occasion;
      format = a.format;
      blocks = a.blocks;
      field = field_by (layout_of g a.format) (n + 1) total;
    }
    ∷ assignments g occasion total (n + 1) rest

-- the assignments of accepted calls, numbered on behind n
abbrev pub numbered_from : Config → ℕ → List Call → List Assignment
numbered_from g n [] = []
numbered_from g n (c ∷ cs) =
    assignments g c.occasion (n + length c.grants) n c.grants ++ numbered_from g (n + length c.grants) cs

-- the assignments sent by a list of calls at a freshly opened gNB with a grant table of that length, numbered from 1
abbrev pub sent : Config → List SpsEntry → ℕ → List Call → List Assignment
sent g sps table calls = numbered_from g 0 (accepted_calls (fresh_batch g sps) table calls)

-- a call with a grant
abbrev pub with_grant : Call → Bool
with_grant c = not (length c.grants == 0)

-- how many occasions were used: accepted calls with a grant
abbrev pub occasions_used : Config → List SpsEntry → ℕ → List Call → ℕ
occasions_used g sps table calls = length (those with_grant (accepted_calls (fresh_batch g sps) table calls))

-- the blocks that assignments ask an answer for
abbrev pub blocks_sent : List Assignment → ℕ
blocks_sent [] = 0
blocks_sent (a ∷ rest) = answered_blocks a.blocks + blocks_sent rest

-- the state and the table after a list of calls, each getting what the one before it left
abbrev pub batch_run : BatchState → List GrantEntry → List Call → BatchState
batch_run b table [] = b
batch_run b table (c ∷ cs) =
    batch_run (batch_after b (length table) c.occasion c.grants) (table_after b c.occasion c.grants table) cs

abbrev pub table_run : BatchState → List GrantEntry → List Call → List GrantEntry
table_run b table [] = table
table_run b table (c ∷ cs) =
    table_run (batch_after b (length table) c.occasion c.grants) (table_after b c.occasion c.grants table) cs

-- the assignment that an entry of the grant table holds
abbrev pub assignment_in : GrantEntry → Assignment
assignment_in e = record { number = e.number; cell = e.cell; occasion = e.occasion; format = e.format; blocks = e.blocks; field = e.field }

-- What a list of calls leaves at a freshly opened gNB.
pub record Sent (g : Config) (sps : List SpsEntry) (table : List GrantEntry) (calls : List Call) (b : BatchState) (after : List GrantEntry) : Type 0 where
  -- as many are numbered as were sent, from 1 on
  pub many : b.numbered ≡ length (sent g sps (length table) calls)
  pub numbers : map (λ (a : Assignment). a.number) (sent g sps (length table) calls) ≡ counting_from 1 b.numbered
  -- the table's first entries hold exactly these, number k at place k - 1, none of them answered
  pub holds : map assignment_in (take b.numbered after) ≡ sent g sps (length table) calls
  pub open_marks : map (λ (e : GrantEntry). e.marks) (take b.numbered after) ≡ map (λ (a : Assignment). unanswered a.blocks) (sent g sps (length table) calls)
  -- every other entry is as it was, and the table is as long
  pub others : drop b.numbered after ≡ drop b.numbered table
  pub long : length after ≡ length table
  -- the blocks granted: those of the assignments, and one for each SPS entry
  pub blocks : b.granted ≡ blocks_sent (sent g sps (length table) calls) + length sps
  -- at most one for each cell and occasion used, so that the report never passes 1,088 bits
  pub few : b.numbered ≤ g.cells * occasions_used g sps (length table) calls
  pub short : expected b ≤ 1088
  -- configuration and SPS entries stay
  pub config : b.config ≡ g
  pub listed : b.sps ≡ length sps

abbrev pub SentStands : Type 0
SentStands =
    (g : Config) (sps : List SpsEntry) (marks : ℕ) (b : BatchState) (table : List GrantEntry) (calls : List Call) →
    opened g sps marks ≡ Ok b → Sent g sps table calls (batch_run b table calls) (table_run b table calls)

-- an assignment of a call that numbers up to `total` is read back: the value of its number, and of the total where its format carries one
abbrev pub ReadsBack : Config → ℕ → Assignment → Type 0
ReadsBack g total a =
    read_dai g a.format a.field
    ≡ Some (value (span g) a.number, cond (carries_total g a.format) (Some (value (span g) total)) None)

-- and so is every assignment of accepted calls
abbrev pub AllReadBack : Config → ℕ → List Call → Type 0
AllReadBack g n [] = Unit {0}
AllReadBack g n (c ∷ cs) =
    AllByRecursion (ReadsBack g (n + length c.grants)) (assignments g c.occasion (n + length c.grants) n c.grants)
    × AllReadBack g (n + length c.grants) cs

abbrev pub FieldsReadBack : Type 0
FieldsReadBack =
    (g : Config) (sps : List SpsEntry) (table : ℕ) (calls : List Call) →
    AllReadBack g 0 (accepted_calls (fresh_batch g sps) table calls)

-- each grant of the card's own table has a place in the report that answers all of them
abbrev pub OwnPlaces : Type 0
OwnPlaces =
    (g : Config) (sps : List SpsEntry) (marks : ℕ) (b : BatchState) (table : List GrantEntry) (calls : List Call) → opened g sps marks ≡ Ok b →
    every (has_place (batch_run b table calls).numbered) (take (batch_run b table calls).numbered (table_run b table calls)) ≡ true
