-- Reading a report, and declaring it absent. Assumes nothing.
use Rattle.std.specs.Prelude.{ℕ, zero, suc, ◌+◌, ◌-◌, ◌*◌, Bool, false, cond, not, ◌&&◌, ◌||◌, List, [], ◌∷◌, ◌++◌, length, take, Some, None, Ok, Err, Option, Result, ◌==◌, nat_le, nat_lt, slice_index_or}
use Rattle.harq.specs.declared.configs.Config.{Config}
use Rattle.harq.specs.declared.refusals.Refusal.{Refusal}
use Rattle.harq.specs.declared.refusals.Refusal.TheVariants as why
use Rattle.harq.specs.Words.{every, all_of, first_refusing}
use Rattle.harq.specs.Configs.{bits_per_place}
use Rattle.gnb.specs.declared.batches.BatchState.{BatchState}
use Rattle.gnb.specs.declared.counts.Counts.{Counts}
use Rattle.gnb.specs.declared.grants.GrantEntry.{GrantEntry}
use Rattle.gnb.specs.declared.marks.Mark.{Mark}
use Rattle.gnb.specs.declared.marks.Mark.TheVariants.{Negative, Delivered, Unanswered}
use Rattle.gnb.specs.declared.marks.Marks.{Marks}
use Rattle.gnb.specs.declared.marks.Marks.TheVariants.{One, Two}
use Rattle.gnb.specs.declared.states.Closed.{Closed}
use Rattle.gnb.specs.declared.states.State.{State}
use denote.Ref.{Bor}
use Rattle.sink.specs.Bits.{bits_of}
use Rattle.gnb.specs.Marks.{mark_number}
use Rattle.gnb.specs.Calls.{expected}

-- the report answers: it has the expected length, and the bytes hold it
abbrev pub answering : BatchState → ℕ → ℕ → Bool
answering b bytes long = long == expected b && nat_le long (8 * bytes)

-- the bits of a report that answers; none where there is none
abbrev pub bits_heard : Option (Bor (List ℕ)) → List Bool
bits_heard None = []
bits_heard (Some bytes) = bits_of bytes.now

-- the mark by bit p of a report; unanswered where the report does not answer
abbrev pub mark_by : Bool → List Bool → ℕ → Mark
mark_by answers bits p = cond answers (cond (slice_index_or bits p false) Delivered Negative) Unanswered

-- the bit of block d (0 or 1) of number k; in mode 1 each block has its own, else both have one
abbrev pub block_bit : Config → ℕ → ℕ → ℕ
block_bit g k d = bits_per_place g * (k - 1) + cond (g.mode == 1) d 0

-- the marks of number k: each block's by its own bit
abbrev pub marks_by : Config → Bool → List Bool → ℕ → Marks → Marks
marks_by g answers bits k (One m) = One (mark_by answers bits (block_bit g k 0))
marks_by g answers bits k (Two m n) = Two (mark_by answers bits (block_bit g k 0)) (mark_by answers bits (block_bit g k 1))

-- an entry with its marks
abbrev pub entry_read : Config → Bool → List Bool → GrantEntry → GrantEntry
entry_read g answers bits e = record {
  cell = e.cell;
  occasion = e.occasion;
  format = e.format;
  blocks = e.blocks;
  number = e.number;
  field = e.field;
  marks = marks_by g answers bits e.number e.marks;
}

-- the first n elements, each made anew by its place, which is counted from k, and the others as they were
abbrev pub firsts : {X : Type 0} → (ℕ → X → X) → ℕ → ℕ → List X → List X
firsts f k zero xs = xs
firsts f k (suc n) [] = []
firsts f k (suc n) (x ∷ xs) = f k x ∷ firsts f (k + 1) n xs

-- the table with its grants marked
abbrev pub table_read : BatchState → Bool → List Bool → List GrantEntry → List GrantEntry
table_read b answers bits table = firsts (λ _ e. entry_read b.config answers bits e) 0 b.numbered table

-- the marks of the SPS entries, whose bits stand behind those of the grants
abbrev pub sps_read : BatchState → Bool → List Bool → List Mark → List Mark
sps_read b answers bits marks = firsts (λ i _. mark_by answers bits (bits_per_place b.config * b.numbered + i)) 0 b.sps marks

-- the marks of an entry, block by block
abbrev pub marks_in : Marks → List Mark
marks_in (One m) = m ∷ []
marks_in (Two m n) = m ∷ n ∷ []

-- the marks of entries
abbrev pub entry_marks : List GrantEntry → List Mark
entry_marks entries = all_of (λ (e : GrantEntry). marks_in e.marks) entries

-- the same mark
abbrev pub same_mark : Mark → Mark → Bool
same_mark m n = mark_number m == mark_number n

-- how often a mark stands in a list
abbrev pub how_often : Mark → List Mark → ℕ
how_often m [] = 0
how_often m (n ∷ rest) = cond (same_mark m n) 1 0 + how_often m rest

-- the counts with more marks
abbrev pub with_marks : Counts → List Mark → Counts
with_marks c marks = record {
  granted = c.granted;
  delivered = c.delivered + how_often Delivered marks;
  negative = c.negative + how_often Negative marks;
  unanswered = c.unanswered + how_often Unanswered marks;
}

-- how many marks have been counted
abbrev pub marked : Counts → ℕ
marked c = c.delivered + c.negative + c.unanswered

-- before the first mark
abbrev pub none_counted : ℕ → Counts
none_counted granted = record { granted = granted; delivered = 0; negative = 0; unanswered = 0 }

-- what is counted: the marks of the grants' entries and of the SPS entries
abbrev pub counted : BatchState → List GrantEntry → List Mark → Counts
counted b table marks = with_marks (none_counted b.granted) (entry_marks (take b.numbered table) ++ take b.sps marks)

-- the table or the marks that are lent are too short
abbrev pub too_short : BatchState → ℕ → ℕ → Bool
too_short b table marks = nat_lt table b.numbered || nat_lt marks b.sps

-- an entry has a place in a report for n grants: its own number is one of theirs
abbrev pub has_place : ℕ → GrantEntry → Bool
has_place n e = nat_le 1 e.number && nat_le e.number n

-- why reading is declined: lent memory that is too short; then, where the report answers, a grant whose place is past it
abbrev pub reading_refused : BatchState → List GrantEntry → ℕ → ℕ → ℕ → Option Refusal
reading_refused b table marks bytes long =
    first_refusing (
    (too_short b (length table) marks, why.Table)
    ∷ (answering b bytes long && not (every (has_place b.numbered) (take b.numbered table)), why.Place)
    ∷ [])

-- why declaring absence is declined
abbrev pub absence_refused : BatchState → List GrantEntry → ℕ → Option Refusal
absence_refused b table marks = first_refusing ((too_short b (length table) marks, why.Table) ∷ [])

-- The answer: the counts of the marks as they are now, or why it is declined, with the state as it was.
abbrev pub settled : Option Refusal → BatchState → Bool → List Bool → List GrantEntry → List Mark → Result Counts (Refusal × BatchState)
settled None b answers bits table marks = Ok (counted b (table_read b answers bits table) (sps_read b answers bits marks))
settled (Some e) b answers bits table marks = Err (e, b)

-- the table afterwards; as it was where it is declined
abbrev pub table_settled : Option Refusal → BatchState → Bool → List Bool → List GrantEntry → List GrantEntry
table_settled None b answers bits table = table_read b answers bits table
table_settled (Some e) b answers bits table = table

-- the SPS marks afterwards; as they were where it is declined
abbrev pub marks_settled : Option Refusal → BatchState → Bool → List Bool → List Mark → List Mark
marks_settled None b answers bits marks = sps_read b answers bits marks
marks_settled (Some e) b answers bits marks = marks

-- the answer, with a state that is handed back by its numbers
abbrev pub state_of : Refusal × State Closed → Refusal × BatchState
state_of e = (e.0, e.1.batch)

abbrev pub settled_of : Result Counts (Refusal × State Closed) → Result Counts (Refusal × BatchState)
settled_of (Ok c) = Ok c
settled_of (Err e) = Err (state_of e)
