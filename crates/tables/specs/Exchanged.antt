-- Both cards over the worked batch and some like it: the report, whether it is as long as expected, the marks, the counts. Assumes nothing.
use Rattle.std.specs.Prelude.{ℕ, ◌+◌, true, cond, List, [], ◌∷◌, length, take, replicate, Ok, Err, Result}
use Prim.Native.String.{String, ◌++◌}
use Rattle.harq.specs.declared.configs.Config.{Config}
use Rattle.harq.specs.declared.refusals.Refusal.{Refusal}
use Rattle.harq.specs.Refusals.{number_of}
use Rattle.ue.specs.declared.arrivals.SpsOutcome.{SpsOutcome}
use Rattle.ue.specs.declared.slots.Slot.TheVariants as slot
use Rattle.gnb.specs.declared.grants.GrantEntry.{GrantEntry}
use Rattle.gnb.specs.declared.marks.Mark.{Mark}
use Rattle.gnb.specs.declared.marks.Mark.TheVariants.{Negative, Delivered, Unanswered}
use Rattle.gnb.specs.declared.marks.Marks.{Marks}
use Rattle.gnb.specs.declared.marks.Marks.TheVariants.{One, Two}
use Rattle.gnb.specs.Sending.{Call}
use Rattle.agreement.specs.declared.fates.Fate.{Fate}
use Rattle.agreement.specs.Fates.{lost}
use Rattle.agreement.specs.Exchanges.{Exchange, count_sent}
use Rattle.link.specs.declared.exchanges.Exchanged.{Exchanged}
use Rattle.link.specs.Played.{exchanged, table_exchanged, marks_exchanged, bits_exchanged, answers}
use Rattle.tables.specs.Setups.{cells, one_cell, two_cells, with_width, in_mode, by_1_0, by_1_1, by_1_2, sps}
use Rattle.tables.specs.Numbered.{grant, call, on, five}
use Rattle.tables.specs.Rows.{Row, line, text, Holds}

-- an assignment that arrives, with the outcomes of its blocks
abbrev came : ℕ → ℕ → Fate
came first second = record { arrived = true; outcomes = first ∷ second ∷ [] }

abbrev good : Fate
good = came 1 1

abbrev bad : Fate
bad = came 0 0

-- lent memory, filled with what is not to be seen
abbrev blank : GrantEntry
blank = record { cell = 9; occasion = 9; format = 9; blocks = 9; number = 9; field = 9; marks = One Delivered }

-- an exchange with slots, table and room to spare
abbrev pub batch : Config → List Call → List Fate → Exchange
batch g calls fates = record {
  config = g;
  sps = [];
  calls = calls;
  fates = fates;
  table = replicate 8 blank;
  marks = replicate 3 Negative;
  slots = replicate 8 (slot.Two true true);
  room = 20;
}

-- with SPS receptions
abbrev and_sps : List SpsOutcome → Exchange → Exchange
and_sps list x = record {
  config = x.config;
  sps = list;
  calls = x.calls;
  fates = x.fates;
  table = x.table;
  marks = x.marks;
  slots = x.slots;
  room = x.room;
}

-- the last two assignments by format 1_0, which carries no total
abbrev plain_end : List Call
plain_end = call 0 (on 0 ∷ on 1 ∷ []) ∷ call 1 (on 1 ∷ []) ∷ call 2 (grant 0 by_1_0 1 ∷ grant 1 by_1_0 1 ∷ []) ∷ []

-- three formats in one occasion
abbrev mixed : List Call
mixed = call 0 (on 0 ∷ grant 1 by_1_0 1 ∷ on 2 ∷ []) ∷ []

-- the first three of the worked batch, the first with two blocks
abbrev three : List Call
three = call 0 (grant 0 by_1_1 2 ∷ grant 1 by_1_1 2 ∷ []) ∷ call 1 (on 1 ∷ []) ∷ []

-- three by format 1_2, one in each occasion
abbrev narrow : List Call
narrow = call 0 (grant 0 by_1_2 1 ∷ []) ∷ call 1 (grant 0 by_1_2 1 ∷ []) ∷ call 2 (grant 0 by_1_2 1 ∷ []) ∷ []

-- a mark as text, the marks of a grant, of all grants, of SPS entries
abbrev mark_text : Mark → String
mark_text Negative = "0"
mark_text Delivered = "1"
mark_text Unanswered = "2"

abbrev marks_text : Marks → String
marks_text (One m) = mark_text m
marks_text (Two m n) = mark_text m ++ mark_text n

abbrev grants_text : List GrantEntry → String
grants_text [] = ""
grants_text (e ∷ rest) = " " ++ marks_text e.marks ++ grants_text rest

abbrev row_text : List Mark → String
row_text [] = ""
row_text (m ∷ rest) = mark_text m ++ row_text rest

-- the bits that the sink gains, whether they are as many as expected, the marks of the grants and of the SPS entries
abbrev told : Exchange → String
told x =
    text (bits_exchanged x) ++ cond (answers x) " whole:" " short:" ++ grants_text (take (count_sent x) (table_exchanged x))
    ++ " /" ++ row_text (take (length x.sps) (marks_exchanged x))

abbrev pub exchanges : List (Row String)
exchanges =
    line "all arrive, the second is bad" (told (batch two_cells five (good ∷ bad ∷ good ∷ good ∷ good ∷ []))) "10111 whole: 1 0 1 1 1 /"
    ∷ line "a run of three lost" (told (batch two_cells five (good ∷ lost ∷ lost ∷ lost ∷ good ∷ []))) "10001 whole: 1 0 0 0 1 /"
    ∷ line "the last lost, its total heard" (told (batch two_cells five (good ∷ good ∷ good ∷ good ∷ lost ∷ []))) "11110 whole: 1 1 1 1 0 /"
    ∷ line "the last occasion lost" (told (batch two_cells five (good ∷ good ∷ good ∷ lost ∷ lost ∷ []))) "111 short: 2 2 2 2 2 /"
    ∷ line "a run of four lost" (told (batch two_cells five (lost ∷ lost ∷ lost ∷ lost ∷ good ∷ []))) "1 short: 2 2 2 2 2 /"
    ∷ line "the last lost, its occasion without totals" (told (batch two_cells plain_end (good ∷ good ∷ good ∷ good ∷ lost ∷ []))) "1111 short: 2 2 2 2 2 /"
    ∷ line "nothing arrives" (told (batch two_cells five [])) " short: 2 2 2 2 2 /"
    ∷ line "the total heard, though not with the last arrival" (told (batch (cells 3) mixed (good ∷ good ∷ lost ∷ []))) "110 whole: 1 1 0 /"
    ∷ line "two blocks, the second assignment lost" (told (batch (in_mode 1 two_cells) three (came 1 0 ∷ lost ∷ good ∷ []))) "100010 whole: 10 00 1 /"
    ∷ line "two blocks bundled, the second assignment lost" (told (batch (in_mode 2 two_cells) three (came 1 0 ∷ lost ∷ good ∷ []))) "001 whole: 00 00 1 /"
    ∷ line "a counter of one bit, the second assignment lost" (told (batch (with_width 1 one_cell) narrow (good ∷ lost ∷ good ∷ []))) "101 whole: 1 0 1 /"
    ∷ line "nothing sent, two SPS entries" (told (and_sps (sps 0 0 0 1 ∷ sps 0 0 1 0 ∷ []) (batch two_cells [] []))) "10 whole: /10"
    ∷ line "SPS bits behind the places" (told (and_sps (sps 1 0 0 0 ∷ sps 1 7 0 1 ∷ []) (batch two_cells five (good ∷ bad ∷ good ∷ good ∷ good ∷ [])))) "1011101 whole: 1 0 1 1 1 /01"
    ∷ line "SPS entries are unanswered too where the report is short" (told (and_sps (sps 1 0 0 1 ∷ []) (batch two_cells five (good ∷ good ∷ good ∷ lost ∷ lost ∷ [])))) "1111 short: 2 2 2 2 2 /2"
    ∷ line "an empty call behind the last grant is no occasion used" (told (batch (cells 3) (call 0 (on 0 ∷ on 1 ∷ []) ∷ call 1 [] ∷ []) (good ∷ lost ∷ []))) "10 whole: 1 0 /"
    ∷ line "an outcome that is neither 0 nor 1: the report is declined" (told (batch two_cells five (good ∷ came 2 0 ∷ []))) " short: 2 2 2 2 2 /"
    ∷ []

abbrev pub ExchangesWorked : Type 0
ExchangesWorked = Holds exchanges

-- both lengths (a declined report tells 100 and the number of the refusal), and the counts: granted, delivered, negative, unanswered
abbrev report_told : Result ℕ Refusal → ℕ
report_told (Ok n) = n
report_told (Err e) = 100 + number_of e

abbrev counts_by : Result Exchanged Refusal → List ℕ
counts_by (Ok e) = e.expected ∷ report_told e.report ∷ e.counts.granted ∷ e.counts.delivered ∷ e.counts.negative ∷ e.counts.unanswered ∷ []
counts_by (Err e) = (100 + number_of e) ∷ []

abbrev counts_of : Exchange → List ℕ
counts_of x = counts_by (exchanged x)

abbrev pub counts : List (Row (List ℕ))
counts =
    line "all arrive, the second is bad" (counts_of (batch two_cells five (good ∷ bad ∷ good ∷ good ∷ good ∷ []))) (5 ∷ 5 ∷ 5 ∷ 4 ∷ 1 ∷ 0 ∷ [])
    ∷ line "the last occasion lost" (counts_of (batch two_cells five (good ∷ good ∷ good ∷ lost ∷ lost ∷ []))) (5 ∷ 3 ∷ 5 ∷ 0 ∷ 0 ∷ 5 ∷ [])
    ∷ line "two blocks, the second assignment lost" (counts_of (batch (in_mode 1 two_cells) three (came 1 0 ∷ lost ∷ good ∷ []))) (6 ∷ 6 ∷ 5 ∷ 2 ∷ 3 ∷ 0 ∷ [])
    ∷ line "two blocks bundled, the second assignment lost" (counts_of (batch (in_mode 2 two_cells) three (came 1 0 ∷ lost ∷ good ∷ []))) (3 ∷ 3 ∷ 5 ∷ 1 ∷ 4 ∷ 0 ∷ [])
    ∷ line "SPS entries count as one block each" (counts_of (and_sps (sps 1 0 0 0 ∷ sps 1 7 0 1 ∷ []) (batch two_cells five (good ∷ bad ∷ good ∷ good ∷ good ∷ [])))) (7 ∷ 7 ∷ 7 ∷ 5 ∷ 2 ∷ 0 ∷ [])
    ∷ line "an outcome that is neither 0 nor 1" (counts_of (batch two_cells five (good ∷ came 2 0 ∷ []))) (5 ∷ 105 ∷ 5 ∷ 0 ∷ 0 ∷ 5 ∷ [])
    ∷ line "four SPS entries and three marks: opening is declined" (counts_of (and_sps (sps 0 0 0 1 ∷ sps 0 0 1 1 ∷ sps 0 0 2 1 ∷ sps 0 0 3 1 ∷ []) (batch two_cells five []))) (112 ∷ [])
    ∷ line "nothing sent" (counts_of (batch two_cells [] [])) (0 ∷ 0 ∷ 0 ∷ 0 ∷ 0 ∷ 0 ∷ [])
    ∷ []

abbrev pub CountsWorked : Type 0
CountsWorked = Holds counts
