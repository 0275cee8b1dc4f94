-- Reports read at the gNB, whoever made them: marks by bits, counts, refusals, limits from both sides. Assumes nothing.
use Rattle.std.specs.Prelude.{ℕ, Bool, true, false, cond, List, [], ◌∷◌, ◌++◌, map, take, Some, None, Option}
use Rattle.harq.specs.declared.refusals.Refusal.{Refusal}
use Rattle.harq.specs.Refusals.{number_of}
use Rattle.sink.specs.Bits.{byte_bits}
use Rattle.gnb.specs.declared.batches.BatchState.{BatchState}
use Rattle.gnb.specs.declared.counts.Counts.{Counts}
use Rattle.gnb.specs.declared.grants.GrantEntry.{GrantEntry}
use Rattle.gnb.specs.declared.marks.Mark.{Mark}
use Rattle.gnb.specs.declared.marks.Mark.TheVariants.{Negative, Delivered}
use Rattle.gnb.specs.declared.marks.Marks.{Marks}
use Rattle.gnb.specs.declared.marks.Marks.TheVariants.{One, Two}
use Rattle.gnb.specs.Marks.{mark_number}
use Rattle.gnb.specs.Readings.{answering, table_read, sps_read, counted, entry_marks, reading_refused, absence_refused}
use Rattle.tables.specs.Setups.{one_cell, in_mode}
use Rattle.tables.specs.Rows.{Row, line, Holds}

-- a state with two grants, of two blocks and of one, and an SPS entry
abbrev two_granted : ℕ → BatchState
two_granted mode = record { config = in_mode mode one_cell; sps = 1; last = Some 1; numbered = 2; granted = 4 }

-- an entry by its number and its marks
abbrev entry : ℕ → Marks → GrantEntry
entry k marks = record { cell = 0; occasion = 0; format = 0; blocks = 0; number = k; field = 0; marks = marks }

-- the table: both grants, and an entry behind them that is not the batch's
abbrev table : List GrantEntry
table = entry 1 (Two Negative Delivered) ∷ entry 2 (One Delivered) ∷ entry 9 (One Delivered) ∷ []

-- the two grants in the other order of their places
abbrev swapped : List GrantEntry
swapped = entry 2 (One Delivered) ∷ entry 1 (Two Negative Delivered) ∷ []

-- marks by their numbers, and counts
abbrev numbers : List Mark → List ℕ
numbers marks = map mark_number marks

abbrev count_row : Counts → List ℕ
count_row c = c.granted ∷ c.delivered ∷ c.negative ∷ c.unanswered ∷ []

-- what is marked in a table and three SPS marks by a byte's bits, and then the counts
abbrev read : ℕ → List GrantEntry → Bool → ℕ → List ℕ
read mode t answers byte =
    numbers (entry_marks (table_read (two_granted mode) answers (byte_bits byte) t))
    ++ numbers (sps_read (two_granted mode) answers (byte_bits byte) (Delivered ∷ Delivered ∷ Negative ∷ []))
    ++ count_row (counted (two_granted mode) (table_read (two_granted mode) answers (byte_bits byte) t) (sps_read (two_granted mode) answers (byte_bits byte) (Delivered ∷ [])))

abbrev pub marked : List (Row (List ℕ))
marked =
    line "01001: each block by its own bit, the SPS entry behind, what is not the batch's kept" (read 1 table true 72) (0 ∷ 1 ∷ 0 ∷ 1 ∷ 1 ∷ 1 ∷ 0 ∷ 4 ∷ 2 ∷ 2 ∷ 0 ∷ [])
    ∷ line "10110: the other way" (read 1 table true 176) (1 ∷ 0 ∷ 1 ∷ 1 ∷ 0 ∷ 1 ∷ 0 ∷ 4 ∷ 2 ∷ 2 ∷ 0 ∷ [])
    ∷ line "100 bundled: one bit marks both blocks" (read 2 table true 128) (1 ∷ 1 ∷ 0 ∷ 1 ∷ 0 ∷ 1 ∷ 0 ∷ 4 ∷ 2 ∷ 2 ∷ 0 ∷ [])
    ∷ line "011 bundled" (read 2 table true 96) (0 ∷ 0 ∷ 1 ∷ 1 ∷ 1 ∷ 1 ∷ 0 ∷ 4 ∷ 2 ∷ 2 ∷ 0 ∷ [])
    ∷ line "a foreign entry with two blocks in mode 0 has both marks from its one bit" (read 0 table true 128) (1 ∷ 1 ∷ 0 ∷ 1 ∷ 0 ∷ 1 ∷ 0 ∷ 4 ∷ 2 ∷ 2 ∷ 0 ∷ [])
    ∷ line "an entry's bit is that of its own number" (read 1 swapped true 72) (0 ∷ 0 ∷ 1 ∷ 1 ∷ 1 ∷ 0 ∷ 4 ∷ 2 ∷ 2 ∷ 0 ∷ [])
    ∷ line "a report that does not answer, or none" (read 1 table false 72) (2 ∷ 2 ∷ 2 ∷ 1 ∷ 2 ∷ 1 ∷ 0 ∷ 4 ∷ 0 ∷ 0 ∷ 4 ∷ [])
    ∷ []

-- whether a report of so many bits in so many bytes answers five that are expected
abbrev answered : ℕ → ℕ → List ℕ
answered bytes bits = cond (answering (two_granted 1) bytes bits) 1 0 ∷ []

-- a state that expects so many bits
abbrev expecting : ℕ → BatchState
expecting n = record { config = one_cell; sps = 0; last = None; numbered = n; granted = n }

abbrev pub answers : List (Row (List ℕ))
answers =
    line "five bits in a byte" (answered 1 5) (1 ∷ [])
    ∷ line "more bytes do no harm" (answered 9 5) (1 ∷ [])
    ∷ line "a bit too few" (answered 1 4) (0 ∷ [])
    ∷ line "a bit too many" (answered 1 6) (0 ∷ [])
    ∷ line "no byte" (answered 0 5) (0 ∷ [])
    ∷ line "eight bits in a byte" (cond (answering (expecting 8) 1 8) 1 0 ∷ []) (1 ∷ [])
    ∷ line "nine bits in a byte" (cond (answering (expecting 9) 1 9) 1 0 ∷ []) (0 ∷ [])
    ∷ line "no bit in no byte" (cond (answering (expecting 0) 0 0) 1 0 ∷ []) (1 ∷ [])
    ∷ []

-- the number of a refusal, 0 for none
abbrev told_by : Option Refusal → List ℕ
told_by None = 0 ∷ []
told_by (Some e) = number_of e ∷ []

-- why reading five bits in a byte is declined, and why absence is
abbrev declined : List GrantEntry → ℕ → List ℕ
declined t marks = told_by (reading_refused (two_granted 1) t marks 1 5)

abbrev pub refusals : List (Row (List ℕ))
refusals =
    line "two entries and one mark" (declined (take 2 table) 1) (0 ∷ [])
    ∷ line "an entry too few" (declined (take 1 table) 1) (12 ∷ [])
    ∷ line "a mark too few" (declined (take 2 table) 0) (12 ∷ [])
    ∷ line "number 0" (declined (entry 0 (One Negative) ∷ entry 2 (One Negative) ∷ []) 1) (13 ∷ [])
    ∷ line "the last number" (declined (entry 1 (One Negative) ∷ entry 2 (One Negative) ∷ []) 1) (0 ∷ [])
    ∷ line "a number past the last" (declined (entry 1 (One Negative) ∷ entry 3 (One Negative) ∷ []) 1) (13 ∷ [])
    ∷ line "such a number behind the grants is not looked at" (declined table 1) (0 ∷ [])
    ∷ line "a table too short before a number without a place" (declined (entry 0 (One Negative) ∷ []) 1) (12 ∷ [])
    ∷ line "a report that does not answer looks at no place" (told_by (reading_refused (two_granted 1) (entry 0 (One Negative) ∷ entry 3 (One Negative) ∷ []) 1 1 4)) (0 ∷ [])
    ∷ line "absent: two entries and one mark" (told_by (absence_refused (two_granted 1) (take 2 table) 1)) (0 ∷ [])
    ∷ line "absent: an entry too few" (told_by (absence_refused (two_granted 1) (take 1 table) 1)) (12 ∷ [])
    ∷ line "absent: a mark too few" (told_by (absence_refused (two_granted 1) (take 2 table) 0)) (12 ∷ [])
    ∷ line "absent: no place is looked at" (told_by (absence_refused (two_granted 1) (entry 0 (One Negative) ∷ entry 3 (One Negative) ∷ []) 1)) (0 ∷ [])
    ∷ []

abbrev pub MarkedTold : Type 0
MarkedTold = Holds marked

abbrev pub AnswersTold : Type 0
AnswersTold = Holds answers

abbrev pub RefusalsTold : Type 0
RefusalsTold = Holds refusals
