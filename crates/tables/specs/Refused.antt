-- Each refusal of a report, each limit from both sides. Assumes nothing.
use Rattle.std.specs.List.{range_with_len}
use Rattle.std.specs.Prelude.{◌≡◌, ℕ, List, [], ◌∷◌, map}
use Rattle.harq.specs.declared.configs.Config.{Config}
use Rattle.harq.specs.declared.refusals.Refusal.TheVariants as why
use Rattle.harq.specs.Refusals.{number_of}
use Rattle.ue.specs.declared.arrivals.SpsOutcome.{SpsOutcome}
use Rattle.ue.specs.declared.declines.Part.TheVariants.{Configuration, Arrival, Sps, Whole}
use Rattle.tables.specs.Setups.{Batch, cells, one_cell, two_cells, with_occasions, with_width, in_mode, counted_from, largest, by_1_0, by_1_1, by_1_2, blocks, ack, pair, arrives, sps, sps_row, batch, alone, and_sps, lending}
use Rattle.tables.specs.Rows.{Row, Told, Declined, row, long_row, reports, answers, Holds}

-- the numbers of the refusals
abbrev pub RefusalsNumbered : Type 0
RefusalsNumbered =
    map number_of (why.Configuration ∷ why.Range ∷ why.Order ∷ why.Field ∷ why.Blocks ∷ why.Totals ∷ why.Sps ∷ why.Length ∷ why.Room ∷ why.Early ∷ why.Trace ∷ why.Table ∷ why.Place ∷ [])
    ≡ range_with_len 1 13

-- nothing arrives
abbrev empty : Config → Batch
empty g = batch g []

-- refusal 1: the configuration
abbrev pub configurations : List (Row Told)
configurations =
    row "no cell" (empty (cells 0)) (Declined 1 Configuration)
    ∷ row "one cell" (empty (cells 1)) (reports "")
    ∷ row "16 cells" (empty (cells 16)) (reports "")
    ∷ row "17 cells" (empty (cells 17)) (Declined 1 Configuration)
    ∷ row "no occasion" (empty (with_occasions 0 two_cells)) (Declined 1 Configuration)
    ∷ row "one occasion" (empty (with_occasions 1 two_cells)) (reports "")
    ∷ row "32 occasions" (empty (with_occasions 32 two_cells)) (reports "")
    ∷ row "33 occasions" (empty (with_occasions 33 two_cells)) (Declined 1 Configuration)
    ∷ row "width 1, one cell" (empty (with_width 1 one_cell)) (reports "")
    ∷ row "width 2, one cell" (empty (with_width 2 one_cell)) (reports "")
    ∷ row "width 3, one cell" (empty (with_width 3 one_cell)) (Declined 1 Configuration)
    ∷ row "width 4, one cell" (empty (with_width 4 one_cell)) (Declined 1 Configuration)
    ∷ row "width 2, two cells" (empty (with_width 2 two_cells)) (reports "")
    ∷ row "width 3, two cells" (empty (with_width 3 two_cells)) (Declined 1 Configuration)
    ∷ row "width 4, two cells" (empty (with_width 4 two_cells)) (reports "")
    ∷ row "width 5, two cells" (empty (with_width 5 two_cells)) (Declined 1 Configuration)
    ∷ row "mode 2" (empty (in_mode 2 two_cells)) (reports "")
    ∷ row "mode 3" (empty (in_mode 3 two_cells)) (Declined 1 Configuration)
    ∷ row "first occasions 3 of 3: none counts" (empty (counted_from (3 ∷ 3 ∷ []) two_cells)) (reports "")
    ∷ row "first occasion 4 of 3 on cell 0" (empty (counted_from (4 ∷ 0 ∷ []) two_cells)) (Declined 1 Configuration)
    ∷ row "first occasion 4 of 3 on the last cell" (empty (counted_from (0 ∷ 4 ∷ []) two_cells)) (Declined 1 Configuration)
    ∷ row "first occasion 4 of 3 past the last cell" (empty (counted_from (0 ∷ 4 ∷ []) one_cell)) (reports "")
    ∷ []

abbrev pub ConfigurationsJudged : Type 0
ConfigurationsJudged = Holds configurations

-- refusals 2 and 3: cell and occasion, and their order
abbrev pub arrivals : List (Row Told)
arrivals =
    row "the last cell" (alone two_cells (arrives 0 1 by_1_0 0 ack)) (reports "1")
    ∷ row "a cell past the last" (alone two_cells (arrives 0 2 by_1_0 0 ack)) (Declined 2 (Arrival 0))
    ∷ row "the last occasion" (alone two_cells (arrives 2 0 by_1_0 0 ack)) (reports "1")
    ∷ row "an occasion past the last" (alone two_cells (arrives 3 0 by_1_0 0 ack)) (Declined 2 (Arrival 0))
    ∷ row "cell 15 in occasion 31 of the largest configuration" (alone largest (arrives 31 15 by_1_0 0 ack)) (reports "1")
    ∷ row "the cell rises in one occasion" (batch two_cells (arrives 1 0 by_1_0 0 ack ∷ arrives 1 1 by_1_0 1 ack ∷ [])) (reports "11")
    ∷ row "the same cell and occasion twice" (batch two_cells (arrives 1 0 by_1_0 0 ack ∷ arrives 1 0 by_1_0 1 ack ∷ [])) (Declined 3 (Arrival 1))
    ∷ row "the cell falls in one occasion" (batch two_cells (arrives 1 1 by_1_0 0 ack ∷ arrives 1 0 by_1_0 1 ack ∷ [])) (Declined 3 (Arrival 1))
    ∷ row "the cell falls while the occasion rises" (batch two_cells (arrives 0 1 by_1_0 0 ack ∷ arrives 1 0 by_1_0 1 ack ∷ [])) (reports "11")
    ∷ row "the occasion falls while the cell rises" (batch two_cells (arrives 1 0 by_1_0 0 ack ∷ arrives 0 1 by_1_0 1 ack ∷ [])) (Declined 3 (Arrival 1))
    ∷ []

abbrev pub ArrivalsJudged : Type 0
ArrivalsJudged = Holds arrivals

-- refusal 4: format and DAI field
abbrev pub fields : List (Row Told)
fields =
    row "format 2" (alone (with_width 2 two_cells) (arrives 0 0 2 0 ack)) (reports "1")
    ∷ row "format 3" (alone (with_width 2 two_cells) (arrives 0 0 3 0 ack)) (Declined 4 (Arrival 0))
    ∷ row "width 0 bars 1_2" (alone two_cells (arrives 0 0 by_1_2 0 ack)) (Declined 4 (Arrival 0))
    ∷ row "width 0 does not bar 1_0 and 1_1" (batch two_cells (arrives 0 0 by_1_0 0 ack ∷ arrives 0 1 by_1_1 5 ack ∷ [])) (reports "11")
    ∷ row "width 1 bars 1_0" (alone (with_width 1 two_cells) (arrives 0 0 by_1_0 0 ack)) (Declined 4 (Arrival 0))
    ∷ row "width 1 bars 1_1" (alone (with_width 1 two_cells) (arrives 0 0 by_1_1 0 ack)) (Declined 4 (Arrival 0))
    ∷ row "width 2 bars none" (batch (with_width 2 (cells 3)) (arrives 0 0 by_1_0 0 ack ∷ arrives 0 1 by_1_1 6 ack ∷ arrives 0 2 by_1_2 2 ack ∷ [])) (reports "111")
    ∷ row "width 4 bars none" (batch (with_width 4 (cells 3)) (arrives 0 0 by_1_0 0 ack ∷ arrives 0 1 by_1_1 6 ack ∷ arrives 0 2 by_1_2 10 ack ∷ [])) (reports "111")
    ∷ row "1_0, field 3" (alone two_cells (arrives 0 0 by_1_0 3 ack)) (reports "0001")
    ∷ row "1_0, field 4" (alone two_cells (arrives 0 0 by_1_0 4 ack)) (Declined 4 (Arrival 0))
    ∷ row "1_1 with one cell, field 3" (alone one_cell (arrives 0 0 by_1_1 3 ack)) (reports "0001")
    ∷ row "1_1 with one cell, field 4" (alone one_cell (arrives 0 0 by_1_1 4 ack)) (Declined 4 (Arrival 0))
    ∷ row "1_1 with two cells, field 15" (alone two_cells (arrives 0 0 by_1_1 15 ack)) (reports "0001")
    ∷ row "1_1 with two cells, field 16" (alone two_cells (arrives 0 0 by_1_1 16 ack)) (Declined 4 (Arrival 0))
    ∷ row "1_2 of one bit, field 1" (alone (with_width 1 one_cell) (arrives 0 0 by_1_2 1 ack)) (reports "01")
    ∷ row "1_2 of one bit, field 2" (alone (with_width 1 one_cell) (arrives 0 0 by_1_2 2 ack)) (Declined 4 (Arrival 0))
    ∷ row "1_2 of two bits, field 3" (alone (with_width 2 two_cells) (arrives 0 0 by_1_2 3 ack)) (reports "0001")
    ∷ row "1_2 of two bits, field 4" (alone (with_width 2 two_cells) (arrives 0 0 by_1_2 4 ack)) (Declined 4 (Arrival 0))
    ∷ row "1_2 of four bits, field 15" (alone (with_width 4 two_cells) (arrives 0 0 by_1_2 15 ack)) (reports "0001")
    ∷ row "1_2 of four bits, field 16" (alone (with_width 4 two_cells) (arrives 0 0 by_1_2 16 ack)) (Declined 4 (Arrival 0))
    ∷ []

abbrev pub FieldsJudged : Type 0
FieldsJudged = Holds fields

-- one arrival with its blocks, in a mode
abbrev brings : ℕ → ℕ → ℕ → ℕ → Batch
brings mode n first second = alone (in_mode mode two_cells) (arrives 0 0 by_1_0 0 (blocks n first second))

-- refusal 5: blocks and outcomes
abbrev pub block_counts : List (Row Told)
block_counts =
    row "mode 0, two blocks" (brings 0 2 1 1) (Declined 5 (Arrival 0))
    ∷ row "mode 1, two blocks" (brings 1 2 1 1) (reports "11")
    ∷ row "mode 2, two blocks" (brings 2 2 1 1) (reports "1")
    ∷ row "mode 0, three blocks" (brings 0 3 1 1) (Declined 5 (Arrival 0))
    ∷ row "mode 1, three blocks" (brings 1 3 1 1) (Declined 5 (Arrival 0))
    ∷ row "mode 2, three blocks" (brings 2 3 1 1) (Declined 5 (Arrival 0))
    ∷ row "one block, outcome 1" (brings 0 1 1 0) (reports "1")
    ∷ row "one block, outcome 2" (brings 0 1 2 0) (Declined 5 (Arrival 0))
    ∷ row "one block, the second outcome is not looked at" (brings 0 1 1 2) (reports "1")
    ∷ row "two blocks, first outcome 2" (brings 1 2 2 1) (Declined 5 (Arrival 0))
    ∷ row "two blocks, second outcome 1" (brings 1 2 0 1) (reports "01")
    ∷ row "two blocks, second outcome 2" (brings 1 2 0 2) (Declined 5 (Arrival 0))
    ∷ row "no block, no outcome is looked at" (brings 0 0 2 2) (reports "1")
    ∷ []

abbrev pub BlocksJudged : Type 0
BlocksJudged = Holds block_counts

-- refusal 6: totals
abbrev pub totals : List (Row Told)
totals =
    row "one total in one occasion" (batch two_cells (arrives 0 0 by_1_1 1 ack ∷ arrives 0 1 by_1_1 5 ack ∷ [])) (reports "11")
    ∷ row "two totals in one occasion" (batch two_cells (arrives 0 0 by_1_1 1 ack ∷ arrives 0 1 by_1_1 6 ack ∷ [])) (Declined 6 (Arrival 1))
    ∷ row "two totals in two occasions" (batch two_cells (arrives 0 0 by_1_1 1 ack ∷ arrives 1 1 by_1_1 6 ack ∷ [])) (reports "110")
    ∷ row "two totals with a 1_0 between" (batch (cells 3) (arrives 0 0 by_1_1 2 ack ∷ arrives 0 1 by_1_0 1 ack ∷ arrives 0 2 by_1_1 11 ack ∷ [])) (Declined 6 (Arrival 2))
    ∷ row "one by 1_2, one by 1_1" (batch (with_width 4 two_cells) (arrives 0 0 by_1_2 1 ack ∷ arrives 0 1 by_1_1 4 ack ∷ [])) (Declined 6 (Arrival 1))
    ∷ row "in a later occasion" (batch two_cells (arrives 0 0 by_1_1 0 ack ∷ arrives 1 0 by_1_1 5 ack ∷ arrives 1 1 by_1_1 10 ack ∷ [])) (Declined 6 (Arrival 2))
    ∷ []

abbrev pub TotalsJudged : Type 0
TotalsJudged = Holds totals

-- no cell counts in any of three occasions, nor would a third
abbrev none_counts : Config
none_counts = counted_from (3 ∷ 3 ∷ 3 ∷ []) two_cells

-- cell 1 alone counts
abbrev one_counts : Config
one_counts = counted_from (3 ∷ 0 ∷ []) two_cells

-- before its cell's first occasion that counts, an arrival is judged all the same, but for its total
abbrev pub uncounted : List (Row Told)
uncounted =
    row "its cell is judged" (alone none_counts (arrives 0 2 by_1_0 0 ack)) (Declined 2 (Arrival 0))
    ∷ row "its order is judged" (batch none_counts (arrives 1 0 by_1_0 0 ack ∷ arrives 1 0 by_1_0 1 ack ∷ [])) (Declined 3 (Arrival 1))
    ∷ row "the order of the next is judged by it" (batch one_counts (arrives 2 0 by_1_0 0 ack ∷ arrives 1 1 by_1_0 0 ack ∷ [])) (Declined 3 (Arrival 1))
    ∷ row "its field is judged" (alone none_counts (arrives 0 0 by_1_0 4 ack)) (Declined 4 (Arrival 0))
    ∷ row "its blocks are judged" (alone none_counts (arrives 0 0 by_1_0 0 (pair 1 1))) (Declined 5 (Arrival 0))
    ∷ row "its outcome is judged" (alone none_counts (arrives 0 0 by_1_0 0 (blocks 1 2 0))) (Declined 5 (Arrival 0))
    ∷ row "its total is not judged" (batch none_counts (arrives 0 0 by_1_1 1 ack ∷ arrives 0 1 by_1_1 6 ack ∷ [])) (reports "")
    ∷ row "no total is judged by its own" (batch one_counts (arrives 1 0 by_1_1 3 ack ∷ arrives 1 1 by_1_1 5 ack ∷ [])) (reports "01")
    ∷ row "its total is not judged by a counted one" (batch (counted_from (0 ∷ 3 ∷ []) two_cells) (arrives 1 0 by_1_1 1 ack ∷ arrives 1 1 by_1_1 6 ack ∷ [])) (reports "10")
    ∷ []

abbrev pub UncountedJudged : Type 0
UncountedJudged = Holds uncounted

-- SPS receptions alone
abbrev receives : List SpsOutcome → Batch
receives list = and_sps list (batch two_cells [])

-- refusal 7: SPS
abbrev pub receptions : List (Row Told)
receptions =
    row "SPS on the last cell" (receives (sps 1 0 0 1 ∷ [])) (reports "1")
    ∷ row "SPS on a cell past the last" (receives (sps 2 0 0 1 ∷ [])) (Declined 7 (Sps 0))
    ∷ row "SPS configuration 7" (receives (sps 0 7 0 1 ∷ [])) (reports "1")
    ∷ row "SPS configuration 8" (receives (sps 0 8 0 1 ∷ [])) (Declined 7 (Sps 0))
    ∷ row "SPS slot 255" (receives (sps 0 0 255 1 ∷ [])) (reports "1")
    ∷ row "SPS slot 256" (receives (sps 0 0 256 1 ∷ [])) (Declined 7 (Sps 0))
    ∷ row "SPS outcome 0" (receives (sps 0 0 0 0 ∷ [])) (reports "0")
    ∷ row "SPS outcome 1" (receives (sps 0 0 0 1 ∷ [])) (reports "1")
    ∷ row "SPS outcome 2" (receives (sps 0 0 0 2 ∷ [])) (Declined 7 (Sps 0))
    ∷ long_row "64 SPS receptions" (receives (sps_row 64)) (answers 64)
    ∷ long_row "65 SPS receptions" (receives (sps_row 65)) (Declined 7 (Sps 64))
    ∷ row "the same SPS reception twice" (receives (sps 0 1 4 1 ∷ sps 0 1 4 1 ∷ [])) (Declined 7 (Sps 1))
    ∷ row "the SPS slot rises" (receives (sps 0 1 4 1 ∷ sps 0 1 5 1 ∷ [])) (reports "11")
    ∷ row "the SPS slot falls" (receives (sps 0 1 5 1 ∷ sps 0 1 4 1 ∷ [])) (Declined 7 (Sps 1))
    ∷ row "the SPS configuration rises, the slot falls" (receives (sps 0 1 5 1 ∷ sps 0 2 4 1 ∷ [])) (reports "11")
    ∷ row "the SPS configuration falls, the slot rises" (receives (sps 0 2 4 1 ∷ sps 0 1 5 1 ∷ [])) (Declined 7 (Sps 1))
    ∷ row "the SPS cell rises, the configuration and the slot fall" (receives (sps 0 2 5 1 ∷ sps 1 1 4 1 ∷ [])) (reports "11")
    ∷ row "the SPS cell falls, the configuration and the slot rise" (receives (sps 1 1 4 1 ∷ sps 0 2 5 1 ∷ [])) (Declined 7 (Sps 1))
    ∷ row "the third SPS reception is judged by the second" (receives (sps 0 1 0 1 ∷ sps 0 3 0 1 ∷ sps 0 2 0 1 ∷ [])) (Declined 7 (Sps 2))
    ∷ []

abbrev pub SpsJudged : Type 0
SpsJudged = Holds receptions

-- three places, the second lost
abbrev three : ℕ → Batch
three mode = batch (in_mode mode two_cells) (arrives 0 0 by_1_0 0 ack ∷ arrives 1 0 by_1_0 2 ack ∷ [])

-- refusals 12 and 9: slots and room
abbrev pub wholes : List (Row Told)
wholes =
    row "as many slots and as much room as it takes" (lending 3 3 (three 0)) (reports "101")
    ∷ row "a slot too few" (lending 2 3 (three 0)) (Declined 12 Whole)
    ∷ row "a bit of room too few" (lending 3 2 (three 0)) (Declined 9 Whole)
    ∷ row "two blocks: a slot for each place, room for each bit" (lending 3 6 (three 1)) (reports "100010")
    ∷ row "two blocks: a slot too few" (lending 2 6 (three 1)) (Declined 12 Whole)
    ∷ row "two blocks: a bit of room too few" (lending 3 5 (three 1)) (Declined 9 Whole)
    ∷ row "bundled: a slot and a bit for each place" (lending 3 3 (three 2)) (reports "101")
    ∷ row "SPS takes no slot" (lending 3 4 (and_sps (sps 0 0 0 1 ∷ []) (three 0))) (reports "1011")
    ∷ row "SPS takes room" (lending 3 3 (and_sps (sps 0 0 0 1 ∷ []) (three 0))) (Declined 9 Whole)
    ∷ row "nothing takes nothing" (lending 0 0 (batch two_cells [])) (reports "")
    ∷ []

abbrev pub WholeJudged : Type 0
WholeJudged = Holds wholes
