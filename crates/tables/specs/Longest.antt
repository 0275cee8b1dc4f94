-- The longest report has 1,706 bits. Assumes nothing.
use Rattle.std.specs.Prelude.{ℕ, List, [], ◌∷◌, ◌++◌}
use Rattle.ue.specs.declared.arrivals.Arrival.{Arrival}
use Rattle.ue.specs.declared.declines.Part.TheVariants.{Sps, Whole}
use Rattle.tables.specs.Setups.{in_mode, largest, by_1_0, ack, arrives, ones, sps, sps_row, batch, and_sps, lending}
use Rattle.tables.specs.Rows.{Row, Told, Declined, long_row, answers, Holds}

-- 411 arrivals with counter 1 take 1,641 places, and one more with that field goes on in the last turn
abbrev and_last : ℕ → List Arrival
and_last field = ones 411 ++ (arrives 25 11 by_1_0 field ack ∷ [])

-- one bit for each place
abbrev pub one_block : List (Row Told)
one_block =
    long_row "1,642 places and 64 SPS receptions" (and_sps (sps_row 64) (batch largest (and_last 1))) (answers 1706)
    ∷ long_row "1,643 places and 64 SPS receptions" (and_sps (sps_row 64) (batch largest (and_last 2))) (Declined 8 Whole)
    ∷ []

abbrev pub OneBlockTold : Type 0
OneBlockTold = Holds one_block

-- two bits for each place
abbrev pub two_blocks : List (Row Told)
two_blocks =
    long_row "853 places of two bits" (batch (in_mode 1 largest) (ones 214)) (answers 1706)
    ∷ long_row "849 places of two bits and 8 SPS receptions" (and_sps (sps_row 8) (batch (in_mode 1 largest) (ones 213))) (answers 1706)
    ∷ long_row "849 places of two bits and 9 SPS receptions" (and_sps (sps_row 9) (batch (in_mode 1 largest) (ones 213))) (Declined 8 Whole)
    ∷ []

abbrev pub TwoBlocksTold : Type 0
TwoBlocksTold = Holds two_blocks

-- refusal 8 stands behind 7, and before 12 and 9
abbrev pub length_order : List (Row Told)
length_order =
    long_row "SPS before the length" (and_sps (sps 16 0 0 1 ∷ []) (batch (in_mode 1 largest) (ones 215))) (Declined 7 (Sps 0))
    ∷ long_row "the length before slots and room" (lending 0 0 (batch (in_mode 1 largest) (ones 215))) (Declined 8 Whole)
    ∷ []

abbrev pub LengthOrderTold : Type 0
LengthOrderTold = Holds length_order
