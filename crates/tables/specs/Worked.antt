-- Batches worked through by hand. Assumes nothing.
use Rattle.std.specs.Prelude.{ℕ, true, cond, List, [], ◌∷◌, map, replicate}
use Prim.Native.String.{String, ◌++◌}
use Rattle.dai.specs.declared.Layout.TheVariants.{Four}
use Rattle.dai.specs.Fields.{coded}
use Rattle.ue.specs.declared.arrivals.Arrival.{Arrival}
use Rattle.ue.specs.declared.slots.Slot.{Slot}
use Rattle.ue.specs.declared.slots.Slot.TheVariants as slot
use Rattle.ue.specs.Reports.{slots_by}
use Rattle.tables.specs.Setups.{Blocks, Batch, cells, one_cell, two_cells, with_width, in_mode, by_1_0, by_1_1, by_1_2, ack, nack, pair, arrives, batch, lending}
use Rattle.tables.specs.Rows.{Row, Told, line, row, reports, answer, gained, Holds}

-- The worked batch: two cells, three occasions, five assignments by 1_1, two in occasion 0, one in occasion 1, two in occasion 2.
abbrev no_1 : Blocks → Arrival
no_1 = arrives 0 0 by_1_1 1

abbrev no_2 : Blocks → Arrival
no_2 = arrives 0 1 by_1_1 5

abbrev no_3 : Blocks → Arrival
no_3 = arrives 1 1 by_1_1 10

abbrev no_4 : Blocks → Arrival
no_4 = arrives 2 0 by_1_1 12

abbrev no_5 : Blocks → Arrival
no_5 = arrives 2 1 by_1_1 0

-- their fields: each number, with how many are numbered up to its occasion, and what stands in the arrivals
abbrev pub fields : List (Row (List ℕ))
fields =
    line "coded" (coded Four 1 2 ∷ coded Four 2 2 ∷ coded Four 3 3 ∷ coded Four 4 5 ∷ coded Four 5 5 ∷ []) (1 ∷ 5 ∷ 10 ∷ 12 ∷ 0 ∷ [])
    ∷ line "arrived" (map (λ (a : Blocks → Arrival). (a ack).field) (no_1 ∷ no_2 ∷ no_3 ∷ no_4 ∷ no_5 ∷ [])) (1 ∷ 5 ∷ 10 ∷ 12 ∷ 0 ∷ [])
    ∷ []

abbrev pub FieldsWorked : Type 0
FieldsWorked = Holds fields

-- a run of three lost
abbrev lost_run : Batch
lost_run = batch two_cells (no_1 ack ∷ no_5 ack ∷ [])

-- reports for the worked batch, and for some like it, with losses
abbrev pub batches : List (Row Told)
batches =
    row "all arrive, the second is bad" (batch two_cells (no_1 ack ∷ no_2 nack ∷ no_3 ack ∷ no_4 ack ∷ no_5 ack ∷ [])) (reports "10111")
    ∷ row "a run of three lost" lost_run (reports "10001")
    ∷ row "the last lost, its total heard" (batch two_cells (no_1 ack ∷ no_2 ack ∷ no_3 ack ∷ no_4 ack ∷ [])) (reports "11110")
    ∷ row "the last occasion lost" (batch two_cells (no_1 ack ∷ no_2 ack ∷ no_3 ack ∷ [])) (reports "111")
    ∷ row "a run of four lost" (batch two_cells (no_5 ack ∷ [])) (reports "1")
    ∷ row "the last lost, its occasion without totals" (batch two_cells (no_1 ack ∷ no_2 ack ∷ no_3 ack ∷ arrives 2 0 by_1_0 3 ack ∷ [])) (reports "1111")
    ∷ row "nothing arrives" (batch two_cells []) (reports "")
    ∷ row "the total heard, though not with the last arrival" (batch (cells 3) (arrives 0 0 by_1_1 2 ack ∷ arrives 0 1 by_1_0 1 ack ∷ [])) (reports "110")
    ∷ row "two blocks, the second assignment lost" (batch (in_mode 1 two_cells) (no_1 (pair 1 0) ∷ no_3 ack ∷ [])) (reports "100010")
    ∷ row "two blocks bundled, the second assignment lost" (batch (in_mode 2 two_cells) (no_1 (pair 1 0) ∷ no_3 ack ∷ [])) (reports "001")
    ∷ row "a counter of one bit, the second assignment lost" (batch (with_width 1 one_cell) (arrives 0 0 by_1_2 0 ack ∷ arrives 2 0 by_1_2 0 ack ∷ [])) (reports "101")
    ∷ []

abbrev pub BatchesWorked : Type 0
BatchesWorked = Holds batches

-- a slot as text: one outcome or two
abbrev slot_text : Slot → String
slot_text (slot.One x) = cond x "1 " "0 "
slot_text (slot.Two x y) = cond x "1" "0" ++ cond y "1 " "0 "

abbrev slots_text : List Slot → String
slots_text [] = ""
slots_text (s ∷ rest) = slot_text s ++ slots_text rest

-- the slots behind the report, where so many were lent, each of which held two ACKs
abbrev slots_behind : ℕ → Batch → String
slots_behind n b = slots_text (slots_by b.config b.arrivals (replicate n (slot.Two true true)) (answer (lending n 2000 b)))

abbrev pub slots : List (Row String)
slots =
    line "places without an arrival are one NACK, later slots are kept" (slots_behind 7 lost_run) "1 0 0 0 1 11 11 "
    ∷ line "as many slots as places" (slots_behind 5 lost_run) "1 0 0 0 1 "
    ∷ line "a slot too few: declined, all are kept" (slots_behind 4 lost_run) "11 11 11 11 "
    ∷ line "a slot holds both outcomes, in every mode" (slots_behind 4 (batch (in_mode 2 two_cells) (no_1 (pair 1 0) ∷ no_3 nack ∷ []))) "10 0 0 11 "
    ∷ line "nothing arrives, all are kept" (slots_behind 2 (batch two_cells [])) "11 11 "
    ∷ line "declined for want of room: the sink gains nothing" (gained (lending 5 4 lost_run)) ""
    ∷ line "accepted: the sink gains the report" (gained (lending 5 5 lost_run)) "10001"
    ∷ []

abbrev pub SlotsWorked : Type 0
SlotsWorked = Holds slots
