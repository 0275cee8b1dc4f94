-- Opening and numbering at the gNB: refusals, limits from both sides, which reason is told first, fields and lengths. Assumes nothing.
use Rattle.std.specs.List.{range_with_len}
use Rattle.std.specs.Prelude.{ℕ, ◌+◌, List, [], ◌∷◌, ◌++◌, map, Some, None, Ok, Err, Option, Result}
use Rattle.harq.specs.declared.configs.Config.{Config}
use Rattle.harq.specs.declared.refusals.Refusal.{Refusal}
use Rattle.harq.specs.declared.sps.SpsEntry.{SpsEntry}
use Rattle.harq.specs.Refusals.{number_of}
use Rattle.gnb.specs.declared.batches.BatchState.{BatchState}
use Rattle.gnb.specs.declared.grants.Grant.{Grant}
use Rattle.gnb.specs.Calls.{call_answer, batch_after, expected}
use Rattle.gnb.specs.Opening.{opening_refused, fresh_batch}
use Rattle.gnb.specs.Sending.{Call, Assignment, sent}
use Rattle.tables.specs.Setups.{cells, one_cell, two_cells, with_width, in_mode, counted_from, largest, by_1_0, by_1_1, by_1_2}
use Rattle.tables.specs.Rows.{Row, line, Holds}

-- an SPS entry, and a row of them
abbrev listed : ℕ → ℕ → ℕ → SpsEntry
listed cell configuration slot = record { cell = cell; configuration = configuration; slot = slot }

abbrev listed_row : ℕ → List SpsEntry
listed_row n = map (λ slot. listed 0 0 slot) (range_with_len 0 n)

-- what opening tells, with that many marks: 0 where it opens, else the number of the refusal
abbrev told_by : Option Refusal → ℕ
told_by None = 0
told_by (Some e) = number_of e

abbrev opens : Config → List SpsEntry → ℕ → List ℕ
opens g sps marks = told_by (opening_refused g sps marks) ∷ []

-- a grant, and a call
abbrev pub grant : ℕ → ℕ → ℕ → Grant
grant cell format b = record { cell = cell; format = format; blocks = b }

abbrev pub call : ℕ → List Grant → Call
call occasion grants = record { occasion = occasion; grants = grants }

-- one block by format 1_1
abbrev pub on : ℕ → Grant
on cell = grant cell by_1_1 1

-- a declined call tells 100 and the number of the refusal, an accepted one how many are numbered
abbrev answer_told : Result ℕ Refusal → ℕ
answer_told (Ok n) = n
answer_told (Err e) = 100 + number_of e

abbrev answers_from : BatchState → ℕ → List Call → List ℕ
answers_from b table [] = []
answers_from b table (c ∷ cs) =
    answer_told (call_answer b table c.occasion c.grants)
    ∷ answers_from (batch_after b table c.occasion c.grants) table cs

-- the answers of calls behind a fresh opening, with a table of that length
abbrev answers : Config → ℕ → List Call → List ℕ
answers g table calls = answers_from (fresh_batch g []) table calls

-- the fields of the assignments that they send
abbrev fields : Config → List Call → List ℕ
fields g calls = map (λ (a : Assignment). a.field) (sent g [] 512 calls)

-- numbers and occasions of the assignments that they send
abbrev numbers : Config → ℕ → List Call → List ℕ
numbers g table calls = map (λ (a : Assignment). a.number) (sent g [] table calls) ++ map (λ (a : Assignment). a.occasion) (sent g [] table calls)

-- the state behind calls
abbrev behind : BatchState → ℕ → List Call → BatchState
behind b table [] = b
behind b table (c ∷ cs) = behind (batch_after b table c.occasion c.grants) table cs

abbrev length_behind : Config → List SpsEntry → List Call → List ℕ
length_behind g sps calls = expected (behind (fresh_batch g sps) 512 calls) ∷ (behind (fresh_batch g sps) 512 calls).granted ∷ []

-- the worked batch: two cells, three occasions, five assignments
abbrev pub five : List Call
five = call 0 (on 0 ∷ on 1 ∷ []) ∷ call 1 (on 1 ∷ []) ∷ call 2 (on 0 ∷ on 1 ∷ []) ∷ []

-- a grant on each cell in each occasion
abbrev every_cell : ℕ → ℕ → List Call
every_cell occasions n = map (λ m. call m (map (λ c. grant c by_1_1 2) (range_with_len 0 n))) (range_with_len 0 occasions)

abbrev pub openings : List (Row (List ℕ))
openings =
    line "a batch with two SPS entries and two marks" (opens two_cells (listed 0 0 0 ∷ listed 0 0 1 ∷ []) 2) (0 ∷ [])
    ∷ line "one mark too few" (opens two_cells (listed 0 0 0 ∷ listed 0 0 1 ∷ []) 1) (12 ∷ [])
    ∷ line "no cell" (opens (cells 0) [] 0) (1 ∷ [])
    ∷ line "sixteen cells" (opens (cells 16) [] 0) (0 ∷ [])
    ∷ line "seventeen cells" (opens (cells 17) [] 0) (1 ∷ [])
    ∷ line "SPS entries out of order" (opens two_cells (listed 0 1 0 ∷ listed 0 0 0 ∷ []) 64) (7 ∷ [])
    ∷ line "an SPS entry twice" (opens two_cells (listed 0 0 0 ∷ listed 0 0 0 ∷ []) 64) (7 ∷ [])
    ∷ line "an SPS entry of a cell past the last" (opens two_cells (listed 2 0 0 ∷ []) 64) (7 ∷ [])
    ∷ line "configuration 7 and slot 255" (opens two_cells (listed 1 7 255 ∷ []) 64) (0 ∷ [])
    ∷ line "configuration 8" (opens two_cells (listed 1 8 0 ∷ []) 64) (7 ∷ [])
    ∷ line "slot 256" (opens two_cells (listed 1 0 256 ∷ []) 64) (7 ∷ [])
    ∷ line "64 SPS entries" (opens two_cells (listed_row 64) 64) (0 ∷ [])
    ∷ line "65 SPS entries" (opens two_cells (listed_row 65) 65) (7 ∷ [])
    ∷ line "the configuration before SPS" (opens (cells 0) (listed 9 9 9 ∷ []) 0) (1 ∷ [])
    ∷ line "SPS before the marks" (opens two_cells (listed 9 9 9 ∷ []) 0) (7 ∷ [])
    ∷ []

abbrev pub calls_answered : List (Row (List ℕ))
calls_answered =
    line "the worked batch" (answers two_cells 5 five) (2 ∷ 3 ∷ 5 ∷ [])
    ∷ line "a table one too short in the middle of the calls" (answers two_cells 2 five) (2 ∷ 112 ∷ 112 ∷ [])
    ∷ line "a shorter call fits where a longer did not" (answers two_cells 3 (call 0 (on 0 ∷ on 1 ∷ []) ∷ call 1 (on 0 ∷ on 1 ∷ []) ∷ call 1 (on 1 ∷ []) ∷ [])) (2 ∷ 112 ∷ 3 ∷ [])
    ∷ line "the last occasion, and the one past it" (answers two_cells 9 (call 2 (on 0 ∷ []) ∷ call 3 (on 0 ∷ []) ∷ [])) (1 ∷ 102 ∷ [])
    ∷ line "an occasion again" (answers two_cells 9 (call 1 (on 0 ∷ []) ∷ call 1 (on 1 ∷ []) ∷ call 0 (on 1 ∷ []) ∷ call 2 (on 1 ∷ []) ∷ [])) (1 ∷ 103 ∷ 103 ∷ 2 ∷ [])
    ∷ line "an empty call takes its occasion" (answers two_cells 9 (call 1 [] ∷ call 1 (on 0 ∷ []) ∷ call 2 (on 0 ∷ []) ∷ [])) (0 ∷ 103 ∷ 1 ∷ [])
    ∷ line "an empty call with no table" (answers two_cells 0 (call 0 [] ∷ call 1 (on 0 ∷ []) ∷ call 2 [] ∷ [])) (0 ∷ 112 ∷ 0 ∷ [])
    ∷ line "a cell past the last" (answers two_cells 9 (call 0 (on 1 ∷ on 2 ∷ []) ∷ call 0 (on 1 ∷ []) ∷ [])) (102 ∷ 1 ∷ [])
    ∷ line "a cell twice, and cells falling" (answers two_cells 9 (call 0 (on 0 ∷ on 0 ∷ []) ∷ call 0 (on 1 ∷ on 0 ∷ []) ∷ [])) (103 ∷ 103 ∷ [])
    ∷ line "before and at the first counted occasion" (answers (counted_from (2 ∷ 0 ∷ []) two_cells) 9 (call 1 (on 0 ∷ []) ∷ call 1 (on 1 ∷ []) ∷ call 2 (on 0 ∷ []) ∷ [])) (110 ∷ 1 ∷ 2 ∷ [])
    ∷ line "format 1_2 is barred by width 0, an unknown format too" (answers two_cells 9 (call 0 (grant 0 by_1_2 1 ∷ []) ∷ call 0 (grant 0 3 1 ∷ []) ∷ [])) (104 ∷ 104 ∷ [])
    ∷ line "width 1 bars formats 1_0 and 1_1" (answers (with_width 1 two_cells) 9 (call 0 (grant 0 by_1_0 1 ∷ []) ∷ call 0 (grant 0 by_1_1 1 ∷ []) ∷ call 0 (grant 0 by_1_2 1 ∷ []) ∷ [])) (104 ∷ 104 ∷ 1 ∷ [])
    ∷ line "two blocks in modes 0 and 1" (answers two_cells 9 (call 0 (grant 0 by_1_1 2 ∷ []) ∷ []) ++ answers (in_mode 1 two_cells) 9 (call 0 (grant 0 by_1_1 2 ∷ []) ∷ call 1 (grant 0 by_1_1 3 ∷ []) ∷ [])) (105 ∷ 1 ∷ 105 ∷ [])
    ∷ line "no block" (answers two_cells 9 (call 0 (grant 0 by_1_0 0 ∷ []) ∷ [])) (1 ∷ [])
    ∷ line "sixteen grants in the last of 32 occasions" (answers (in_mode 1 largest) 511 (call 31 (map (λ c. on c) (range_with_len 0 16)) ∷ [])) (16 ∷ [])
    ∷ []

abbrev pub reasons : List (Row (List ℕ))
reasons =
    line "the occasion's range before the grants" (answers two_cells 0 (call 3 (grant 9 9 9 ∷ []) ∷ [])) (102 ∷ [])
    ∷ line "the occasion's order before the grants" (answers two_cells 9 (call 1 [] ∷ call 1 (grant 9 9 9 ∷ []) ∷ [])) (0 ∷ 103 ∷ [])
    ∷ line "the cell before its order" (answers (counted_from (9 ∷ 0 ∷ 3 ∷ []) two_cells) 0 (call 0 (on 1 ∷ grant 2 9 9 ∷ []) ∷ [])) (102 ∷ [])
    ∷ line "the order before the first counted occasion" (answers (counted_from (2 ∷ 0 ∷ []) two_cells) 0 (call 0 (on 1 ∷ grant 0 9 9 ∷ []) ∷ [])) (103 ∷ [])
    ∷ line "the first counted occasion before the format" (answers (counted_from (2 ∷ 0 ∷ []) two_cells) 0 (call 0 (grant 0 9 9 ∷ []) ∷ [])) (110 ∷ [])
    ∷ line "the format before the blocks" (answers two_cells 0 (call 0 (grant 0 9 9 ∷ []) ∷ [])) (104 ∷ [])
    ∷ line "the blocks before the table" (answers two_cells 0 (call 0 (grant 0 by_1_1 9 ∷ []) ∷ [])) (105 ∷ [])
    ∷ line "an earlier grant's blocks before a later one's cell" (answers two_cells 0 (call 0 (grant 0 by_1_1 9 ∷ grant 9 9 9 ∷ []) ∷ [])) (105 ∷ [])
    ∷ []

abbrev pub sending : List (Row (List ℕ))
sending =
    line "fields of the worked batch" (fields two_cells five) (1 ∷ 5 ∷ 10 ∷ 12 ∷ 0 ∷ [])
    ∷ line "one cell has no totals" (fields one_cell (call 0 (on 0 ∷ []) ∷ call 1 (on 0 ∷ []) ∷ call 2 (grant 0 by_1_0 1 ∷ []) ∷ [])) (0 ∷ 1 ∷ 2 ∷ [])
    ∷ line "width 1: a span of two" (fields (with_width 1 one_cell) (call 0 (grant 0 by_1_2 1 ∷ []) ∷ call 1 (grant 0 by_1_2 1 ∷ []) ∷ call 2 (grant 0 by_1_2 1 ∷ []) ∷ [])) (0 ∷ 1 ∷ 0 ∷ [])
    ∷ line "widths 2 and 4 of format 1_2" (fields (with_width 2 two_cells) (call 0 (grant 0 by_1_2 1 ∷ grant 1 by_1_2 1 ∷ []) ∷ []) ++ fields (with_width 4 two_cells) (call 0 (grant 0 by_1_2 1 ∷ grant 1 by_1_2 1 ∷ []) ∷ [])) (0 ∷ 1 ∷ 1 ∷ 5 ∷ [])
    ∷ line "formats mixed in one occasion" (fields (cells 3) (call 0 (on 0 ∷ grant 1 by_1_0 1 ∷ on 2 ∷ []) ∷ [])) (2 ∷ 1 ∷ 10 ∷ [])
    ∷ line "a declined call sends nothing, and the next goes on" (numbers two_cells 9 (call 0 (on 0 ∷ []) ∷ call 0 (on 1 ∷ []) ∷ call 1 [] ∷ call 2 (on 1 ∷ []) ∷ [])) (1 ∷ 2 ∷ 0 ∷ 2 ∷ [])
    ∷ line "length and blocks of the worked batch with two SPS entries" (length_behind two_cells (listed_row 2) five) (7 ∷ 7 ∷ [])
    ∷ line "two bits for each place in mode 1, one where bundled" (length_behind (in_mode 1 two_cells) [] (every_cell 3 2) ++ length_behind (in_mode 2 two_cells) [] (every_cell 3 2)) (12 ∷ 12 ∷ 6 ∷ 12 ∷ [])
    ∷ line "no block counts as one" (length_behind two_cells [] (call 0 (grant 0 by_1_1 0 ∷ on 1 ∷ []) ∷ [])) (2 ∷ 2 ∷ [])
    ∷ line "512 grants of two blocks and 64 SPS entries" (length_behind (in_mode 1 largest) (listed_row 64) (every_cell 32 16)) (1088 ∷ 1088 ∷ [])
    ∷ []

abbrev pub OpeningsTold : Type 0
OpeningsTold = Holds openings

abbrev pub CallsTold : Type 0
CallsTold = Holds calls_answered

abbrev pub ReasonsTold : Type 0
ReasonsTold = Holds reasons

abbrev pub SendingTold : Type 0
SendingTold = Holds sending
