-- Two reasons at once: the first in the order of the checks is told. Assumes nothing.
use Rattle.std.specs.Prelude.{List, [], ◌∷◌, ◌++◌}
use Rattle.ue.specs.declared.declines.Part.TheVariants.{Configuration, Arrival, Sps, Whole}
use Rattle.tables.specs.Setups.{two_cells, in_mode, by_1_0, by_1_1, blocks, ack, arrives, sps, sps_row, batch, alone, and_sps, lending}
use Rattle.tables.specs.Rows.{Row, Told, Declined, row, Holds}

-- two reasons or more, and the one that is told
abbrev pub faults : List (Row Told)
faults =
    row "the configuration before everything else" (lending 0 0 (and_sps (sps 9 9 999 9 ∷ []) (alone (in_mode 3 two_cells) (arrives 9 9 9 99 (blocks 9 9 9))))) (Declined 1 Configuration)
    ∷ row "the range before the order" (batch two_cells (arrives 1 0 by_1_0 0 ack ∷ arrives 0 2 by_1_0 1 ack ∷ [])) (Declined 2 (Arrival 1))
    ∷ row "the range before the field and the blocks" (alone two_cells (arrives 0 2 9 99 (blocks 9 9 9))) (Declined 2 (Arrival 0))
    ∷ row "the order before the field" (batch two_cells (arrives 1 0 by_1_0 0 ack ∷ arrives 1 0 by_1_0 4 ack ∷ [])) (Declined 3 (Arrival 1))
    ∷ row "the order before the outcome" (batch two_cells (arrives 1 0 by_1_0 0 ack ∷ arrives 1 0 by_1_0 1 (blocks 1 2 0) ∷ [])) (Declined 3 (Arrival 1))
    ∷ row "the order before the totals" (batch two_cells (arrives 1 1 by_1_1 1 ack ∷ arrives 1 0 by_1_1 6 ack ∷ [])) (Declined 3 (Arrival 1))
    ∷ row "the field before the blocks" (alone two_cells (arrives 0 0 by_1_0 4 (blocks 3 1 1))) (Declined 4 (Arrival 0))
    ∷ row "the field before the outcome" (alone two_cells (arrives 0 0 by_1_0 4 (blocks 1 2 0))) (Declined 4 (Arrival 0))
    ∷ row "the outcome before the totals" (batch two_cells (arrives 0 0 by_1_1 1 ack ∷ arrives 0 1 by_1_1 6 (blocks 1 2 0) ∷ [])) (Declined 5 (Arrival 1))
    ∷ row "an earlier outcome before a later range" (batch two_cells (arrives 0 0 by_1_0 0 (blocks 1 2 0) ∷ arrives 0 2 by_1_0 1 ack ∷ [])) (Declined 5 (Arrival 0))
    ∷ row "an earlier field before a later order" (batch two_cells (arrives 1 0 by_1_0 4 ack ∷ arrives 1 0 by_1_0 1 ack ∷ [])) (Declined 4 (Arrival 0))
    ∷ row "earlier totals before a later range" (batch two_cells (arrives 0 0 by_1_1 1 ack ∷ arrives 0 1 by_1_1 6 ack ∷ arrives 0 7 by_1_1 0 ack ∷ [])) (Declined 6 (Arrival 1))
    ∷ row "the totals before SPS" (and_sps (sps 2 0 0 1 ∷ []) (batch two_cells (arrives 0 0 by_1_1 1 ack ∷ arrives 0 1 by_1_1 6 ack ∷ []))) (Declined 6 (Arrival 1))
    ∷ row "a later arrival before SPS" (and_sps (sps 2 0 0 1 ∷ []) (batch two_cells (arrives 0 0 by_1_0 0 ack ∷ arrives 3 0 by_1_0 1 ack ∷ []))) (Declined 2 (Arrival 1))
    ∷ row "an earlier SPS reception before a later one" (and_sps (sps 0 0 0 2 ∷ sps 2 0 0 1 ∷ []) (batch two_cells [])) (Declined 7 (Sps 0))
    ∷ row "an earlier SPS reception before the 65th" (and_sps (sps 0 0 9 1 ∷ sps_row 65) (batch two_cells [])) (Declined 7 (Sps 1))
    ∷ row "the 65th SPS reception before the 66th" (and_sps (sps_row 65 ++ (sps 2 0 0 1 ∷ [])) (batch two_cells [])) (Declined 7 (Sps 64))
    ∷ row "SPS before slots and room" (lending 0 0 (and_sps (sps 2 0 0 1 ∷ []) (alone two_cells (arrives 0 0 by_1_0 0 ack)))) (Declined 7 (Sps 0))
    ∷ row "slots before room" (lending 0 0 (alone two_cells (arrives 0 0 by_1_0 0 ack))) (Declined 12 Whole)
    ∷ []

abbrev pub FirstTold : Type 0
FirstTold = Holds faults
