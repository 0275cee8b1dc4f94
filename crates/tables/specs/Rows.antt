-- Rows of tables, and what is told of a batch. Assumes nothing.
use Rattle.std.specs.Prelude.{◌≡◌, ℕ, Bool, cond, List, [], ◌∷◌, Ok, Err, Result}
use Prim.Native.String.{String, ◌++◌, count}
use Rattle.harq.specs.Refusals.{number_of}
use Rattle.ue.specs.declared.declines.Decline.{Decline}
use Rattle.ue.specs.declared.declines.Part.{Part}
use Rattle.ue.specs.Reports.{report_answer, gained_by}
use Rattle.tables.specs.Setups.{Batch}

-- A row: what it shows, what came, what was due.
pub record Row (X : Type 0) : Type 0 where
  pub shows : String
  pub came : X
  pub due : X

abbrev pub line : {X : Type 0} → String → X → X → Row X
line shows came due = record { shows = shows; came = came; due = due }

-- in every row what came was due
abbrev pub Holds : {X : Type 0} → List (Row X) → Type 0
Holds [] = Unit {0}
Holds (r ∷ rows) = (r.came ≡ r.due) × Holds rows

-- What is told of a batch: the answer with the bits that the sink gains, or the number of the refusal with the part that is blamed.
pub data Told : Type 0 where
  Reported : ℕ → String → Told
  Declined : ℕ → Part → Told

-- bits as text
abbrev pub text : List Bool → String
text [] = ""
text (b ∷ bits) = cond b "1" "0" ++ text bits

-- the answer to a batch
abbrev pub answer : Batch → Result ℕ Decline
answer b = report_answer b.config b.arrivals b.receptions b.lent b.room

-- the bits that the sink gains
abbrev pub gained : Batch → String
gained b = text (gained_by b.config b.arrivals b.receptions (answer b))

-- what is told, by the bits and the answer
abbrev pub told_by : String → Result ℕ Decline → Told
told_by bits (Ok n) = Reported n bits
told_by bits (Err d) = Declined (number_of d.refusal) d.part

-- the row of a batch, with what is to be told of it
abbrev pub row : String → Batch → Told → Row Told
row shows b due = line shows (told_by (gained b) (answer b)) due

-- the row of a long batch: the answer alone, the bits left out
abbrev pub long_row : String → Batch → Told → Row Told
long_row shows b due = line shows (told_by "" (answer b)) due

-- that report, and its length
abbrev pub reports : String → Told
reports bits = Reported (count bits) bits

-- a report of that length, the bits left out
abbrev pub answers : ℕ → Told
answers n = Reported n ""
