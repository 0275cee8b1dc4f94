-- Which slots a report has: counters, totals, and the first occasion that counts. Assumes nothing.
use Rattle.std.specs.Prelude.{List, [], ◌∷◌}
use Rattle.tables.specs.Setups.{one_cell, two_cells, with_occasions, with_width, counted_from, by_1_0, by_1_1, by_1_2, ack, arrives, sps, batch, alone, and_sps}
use Rattle.tables.specs.Rows.{Row, Told, row, reports, Holds}

-- the places by the counters
abbrev pub counters : List (Row Told)
counters =
    row "the first counter is 4" (alone two_cells (arrives 0 0 by_1_0 3 ack)) (reports "0001")
    ∷ row "a counter above the one before" (batch two_cells (arrives 0 0 by_1_0 0 ack ∷ arrives 1 0 by_1_0 3 ack ∷ [])) (reports "1001")
    ∷ row "a counter equal to the one before: a turn" (batch two_cells (arrives 0 0 by_1_0 0 ack ∷ arrives 1 0 by_1_0 0 ack ∷ [])) (reports "10001")
    ∷ row "a counter below the one before: a turn" (batch two_cells (arrives 0 0 by_1_0 3 ack ∷ arrives 1 0 by_1_0 0 ack ∷ [])) (reports "00011")
    ∷ row "two turns" (batch two_cells (arrives 0 0 by_1_0 1 ack ∷ arrives 1 0 by_1_0 1 ack ∷ arrives 2 0 by_1_0 0 ack ∷ [])) (reports "010001001")
    ∷ row "span 2, none lost" (batch (with_width 1 one_cell) (arrives 0 0 by_1_2 0 ack ∷ arrives 1 0 by_1_2 1 ack ∷ arrives 2 0 by_1_2 0 ack ∷ [])) (reports "111")
    ∷ row "span 2, a run of two lost" (batch (with_occasions 4 (with_width 1 one_cell)) (arrives 0 0 by_1_2 0 ack ∷ arrives 3 0 by_1_2 1 ack ∷ [])) (reports "11")
    ∷ row "span 2 with two cells too" (batch (with_width 1 two_cells) (arrives 0 0 by_1_2 0 ack ∷ arrives 0 1 by_1_2 0 ack ∷ [])) (reports "101")
    ∷ row "span 4 at width 0" (batch one_cell (arrives 0 0 by_1_1 0 ack ∷ arrives 1 0 by_1_0 0 ack ∷ [])) (reports "10001")
    ∷ row "span 4 at width 2" (batch (with_width 2 one_cell) (arrives 0 0 by_1_2 0 ack ∷ arrives 1 0 by_1_2 0 ack ∷ [])) (reports "10001")
    ∷ row "span 4 at width 4" (batch (with_width 4 two_cells) (arrives 0 0 by_1_2 0 ack ∷ arrives 1 0 by_1_2 0 ack ∷ [])) (reports "10001")
    ∷ []

abbrev pub CountersTold : Type 0
CountersTold = Holds counters

-- the end by the totals
abbrev pub totals : List (Row Told)
totals =
    row "a total equal to the last counter" (alone two_cells (arrives 0 0 by_1_1 5 ack)) (reports "01")
    ∷ row "a total above the last counter" (alone two_cells (arrives 0 0 by_1_1 7 ack)) (reports "0100")
    ∷ row "a total below the last counter: one turn more" (alone two_cells (arrives 0 0 by_1_1 12 ack)) (reports "00010")
    ∷ row "the total of an earlier occasion is not taken" (batch two_cells (arrives 0 0 by_1_1 3 ack ∷ arrives 1 0 by_1_0 1 ack ∷ [])) (reports "11")
    ∷ row "each occasion has its own total" (batch two_cells (arrives 0 0 by_1_1 1 ack ∷ arrives 1 1 by_1_1 6 ack ∷ [])) (reports "110")
    ∷ row "the total comes with the last arrival alone" (batch two_cells (arrives 2 0 by_1_0 0 ack ∷ arrives 2 1 by_1_1 6 ack ∷ [])) (reports "110")
    ∷ row "the total comes with the first arrival alone" (batch two_cells (arrives 2 0 by_1_1 2 ack ∷ arrives 2 1 by_1_0 1 ack ∷ [])) (reports "110")
    ∷ row "1_1 has no total with one cell" (alone one_cell (arrives 0 0 by_1_1 1 ack)) (reports "01")
    ∷ row "1_1 has a total with two cells" (alone two_cells (arrives 0 0 by_1_1 1 ack)) (reports "10")
    ∷ row "1_2 has no total at width 2" (alone (with_width 2 two_cells) (arrives 0 0 by_1_2 1 ack)) (reports "01")
    ∷ row "1_2 has a total at width 4" (alone (with_width 4 two_cells) (arrives 0 0 by_1_2 1 ack)) (reports "10")
    ∷ row "1_0 has no total" (alone (with_width 4 two_cells) (arrives 0 0 by_1_0 1 ack)) (reports "01")
    ∷ []

abbrev pub TotalsTold : Type 0
TotalsTold = Holds totals

-- arrivals before their cell's first occasion that counts
abbrev pub uncounted : List (Row Told)
uncounted =
    row "before its cell's first occasion: no slot" (batch (counted_from (2 ∷ 0 ∷ []) two_cells) (arrives 1 0 by_1_1 15 ack ∷ arrives 1 1 by_1_1 0 ack ∷ [])) (reports "1")
    ∷ row "in its cell's first occasion: it counts" (alone (counted_from (1 ∷ 0 ∷ []) two_cells) (arrives 1 0 by_1_1 1 ack)) (reports "10")
    ∷ row "every cell has its own first occasion" (batch (counted_from (0 ∷ 2 ∷ []) two_cells) (arrives 1 0 by_1_0 0 ack ∷ arrives 1 1 by_1_0 3 ack ∷ arrives 2 1 by_1_0 1 ack ∷ [])) (reports "11")
    ∷ row "nothing counts" (batch (counted_from (3 ∷ 3 ∷ []) two_cells) (arrives 0 0 by_1_1 5 ack ∷ arrives 2 1 by_1_1 10 ack ∷ [])) (reports "")
    ∷ row "nothing counts, SPS stay" (and_sps (sps 0 0 0 1 ∷ []) (alone (counted_from (3 ∷ 3 ∷ []) two_cells) (arrives 0 0 by_1_1 5 ack))) (reports "1")
    ∷ row "its total is not taken" (batch (counted_from (3 ∷ 0 ∷ []) two_cells) (arrives 1 0 by_1_1 3 ack ∷ arrives 1 1 by_1_0 1 ack ∷ [])) (reports "01")
    ∷ row "its occasion is not the last" (batch (counted_from (3 ∷ 0 ∷ []) two_cells) (arrives 1 1 by_1_1 2 ack ∷ arrives 2 0 by_1_1 15 ack ∷ [])) (reports "100")
    ∷ []

abbrev pub UncountedTold : Type 0
UncountedTold = Holds uncounted
