-- Numbering calls: which are accepted, and what they leave. Assumes nothing.
use Rattle.std.specs.Prelude.{ℕ, ◌+◌, ◌*◌, not, List, [], ◌∷◌, ◌++◌, length, take, drop, is_some, Some, None, Ok, Err, Option, Result, nat_le, nat_lt}
use Rattle.dai.specs.declared.Layout.{Layout}
use Rattle.dai.specs.Fields.{coded}
use Rattle.harq.specs.declared.configs.Config.{Config}
use Rattle.harq.specs.declared.refusals.Refusal.{Refusal}
use Rattle.harq.specs.declared.refusals.Refusal.TheVariants as why
use Rattle.harq.specs.Words.{or_else, first_refusing}
use Rattle.harq.specs.Configs.{bits_per_place, counts, layout_of, blocks_within}
use Rattle.gnb.specs.declared.batches.BatchState.{BatchState}
use Rattle.gnb.specs.declared.grants.Grant.{Grant}
use Rattle.gnb.specs.declared.grants.GrantEntry.{GrantEntry}
use Rattle.gnb.specs.Limits.{next_occasion}
use Rattle.gnb.specs.Marks.{answered_blocks, unanswered}

-- nothing refuses, or the refusal
abbrev pub allowed : Option Refusal → Result (Unit {0}) Refusal
allowed None = Ok tt
allowed (Some e) = Err e

-- why a grant is refused, where `lowest` is the lowest cell that may come
abbrev pub grant_refused : Config → ℕ → ℕ → Grant → Option Refusal
grant_refused g occasion lowest a =
    first_refusing (
    (nat_le g.cells a.cell, why.Range)
    ∷ (nat_lt a.cell lowest, why.Order)
    ∷ (not (counts g a.cell occasion), why.Early)
    ∷ (not (is_some (layout_of g a.format)), why.Field)
    ∷ (not (blocks_within g a.blocks), why.Blocks)
    ∷ [])

-- the grants of a call in turn, cells rising
abbrev pub grants_refused : Config → ℕ → ℕ → List Grant → Option Refusal
grants_refused g occasion lowest [] = None
grants_refused g occasion lowest (a ∷ rest) = or_else (grant_refused g occasion lowest a) (grants_refused g occasion (a.cell + 1) rest)

-- why the occasion of a call is refused
abbrev pub occasion_refused : BatchState → ℕ → Option Refusal
occasion_refused b occasion =
    first_refusing ((nat_le b.config.occasions occasion, why.Range) ∷ (nat_lt occasion (next_occasion b.last), why.Order) ∷ [])

-- why a call is refused, with a grant table of that length: the occasion, each grant, then a table that lacks space
abbrev pub call_refused : BatchState → ℕ → ℕ → List Grant → Option Refusal
call_refused b table occasion grants =
    or_else (occasion_refused b occasion)
    (or_else (grants_refused b.config occasion 0 grants)
    (first_refusing ((nat_lt table (b.numbered + length grants), why.Table) ∷ [])))

-- the DAI field of number k, where `total` are numbered with its call
abbrev pub field_by : Option Layout → ℕ → ℕ → ℕ
field_by None k total = 0
field_by (Some l) k total = coded l k total

-- the entry of number k
abbrev pub entry_of : Config → ℕ → ℕ → ℕ → Grant → GrantEntry
entry_of g occasion total k a = record {
  cell = a.cell;
  occasion = occasion;
  format = a.format;
  blocks = a.blocks;
  number = k;
  field = field_by (layout_of g a.format) k total;
  marks = unanswered a.blocks;
}

-- the entries of a call's grants, numbered on behind n
abbrev pub entries_of : Config → ℕ → ℕ → ℕ → List Grant → List GrantEntry
entries_of g occasion total n [] = []
entries_of g occasion total n (a ∷ rest) = entry_of g occasion total (n + 1) a ∷ entries_of g occasion total (n + 1) rest

-- the blocks that grants ask an answer for
abbrev pub blocks_in : List Grant → ℕ
blocks_in [] = 0
blocks_in (a ∷ rest) = answered_blocks a.blocks + blocks_in rest

-- what a call answers: how many are numbered now
abbrev pub answer_by : Option Refusal → ℕ → Result ℕ Refusal
answer_by None n = Ok n
answer_by (Some e) n = Err e

abbrev pub call_answer : BatchState → ℕ → ℕ → List Grant → Result ℕ Refusal
call_answer b table occasion grants = answer_by (call_refused b table occasion grants) (b.numbered + length grants)

-- what a call leaves of the state; a declined one changes nothing
abbrev pub batch_by : Option Refusal → BatchState → ℕ → List Grant → BatchState
batch_by None b occasion grants = record {
  config = b.config;
  sps = b.sps;
  last = Some occasion;
  numbered = b.numbered + length grants;
  granted = b.granted + blocks_in grants;
}
batch_by (Some e) b occasion grants = b

abbrev pub batch_after : BatchState → ℕ → ℕ → List Grant → BatchState
batch_after b table occasion grants = batch_by (call_refused b table occasion grants) b occasion grants

-- what a call leaves in the table: number k at place k - 1, every other entry as it was
abbrev pub table_by : Option Refusal → BatchState → ℕ → List Grant → List GrantEntry → List GrantEntry
table_by None b occasion grants table =
    take b.numbered table ++ (entries_of b.config occasion (b.numbered + length grants) b.numbered grants ++ drop (b.numbered + length grants) table)
table_by (Some e) b occasion grants table = table

abbrev pub table_after : BatchState → ℕ → List Grant → List GrantEntry → List GrantEntry
table_after b occasion grants table = table_by (call_refused b (length table) occasion grants) b occasion grants table

-- the length of the report that answers all
abbrev pub expected : BatchState → ℕ
expected b = bits_per_place b.config * b.numbered + b.sps
