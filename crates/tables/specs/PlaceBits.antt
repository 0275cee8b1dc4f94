-- The bits of a place in each mode, and the SPS bits behind. Assumes nothing.
use Rattle.std.specs.Prelude.{ℕ, List, [], ◌∷◌}
use Rattle.tables.specs.Setups.{Batch, Blocks, two_cells, in_mode, by_1_0, by_1_1, blocks, ack, nack, pair, release, arrives, sps, batch, alone, and_sps}
use Rattle.tables.specs.Rows.{Row, Told, row, reports, Holds}

-- one arrival in a mode
abbrev place : ℕ → Blocks → Batch
place mode b = alone (in_mode mode two_cells) (arrives 0 0 by_1_0 0 b)

-- the second of two alone arrives
abbrev second : ℕ → Batch
second mode = alone (in_mode mode two_cells) (arrives 0 0 by_1_0 1 ack)

-- the bits of a place
abbrev pub places : List (Row Told)
places =
    row "one block: ACK" (place 0 ack) (reports "1")
    ∷ row "one block: NACK" (place 0 nack) (reports "0")
    ∷ row "one block: no arrival is NACK" (second 0) (reports "01")
    ∷ row "one block: a release is ACK" (place 0 release) (reports "1")
    ∷ row "two blocks: both ACK" (place 1 (pair 1 1)) (reports "11")
    ∷ row "two blocks: the first block's bit is first" (place 1 (pair 1 0)) (reports "10")
    ∷ row "two blocks: the second block's bit is second" (place 1 (pair 0 1)) (reports "01")
    ∷ row "two blocks: both NACK" (place 1 (pair 0 0)) (reports "00")
    ∷ row "two blocks: a missing second is NACK behind ACK" (place 1 ack) (reports "10")
    ∷ row "two blocks: a missing second is NACK behind NACK" (place 1 nack) (reports "00")
    ∷ row "two blocks: no arrival is NACK twice" (second 1) (reports "0010")
    ∷ row "two blocks: a release is ACK, its second NACK" (place 1 release) (reports "10")
    ∷ row "bundled: both ACK" (place 2 (pair 1 1)) (reports "1")
    ∷ row "bundled: the second NACK" (place 2 (pair 1 0)) (reports "0")
    ∷ row "bundled: the first NACK" (place 2 (pair 0 1)) (reports "0")
    ∷ row "bundled: both NACK" (place 2 (pair 0 0)) (reports "0")
    ∷ row "bundled: a missing second counts as ACK" (place 2 ack) (reports "1")
    ∷ row "bundled: one NACK" (place 2 nack) (reports "0")
    ∷ row "bundled: no arrival is NACK" (second 2) (reports "01")
    ∷ row "bundled: a release is ACK" (place 2 release) (reports "1")
    ∷ row "a release is ACK whatever stands beside it" (place 1 (blocks 0 0 1)) (reports "10")
    ∷ []

abbrev pub PlacesTold : Type 0
PlacesTold = Holds places

-- the bits of SPS receptions
abbrev pub receptions : List (Row Told)
receptions =
    row "SPS bits stand behind the places" (and_sps (sps 0 0 0 1 ∷ sps 1 0 0 0 ∷ sps 1 0 3 1 ∷ []) (batch two_cells (arrives 0 0 by_1_1 1 nack ∷ arrives 0 1 by_1_1 5 ack ∷ []))) (reports "01101")
    ∷ row "SPS bits in their order, nothing before" (and_sps (sps 0 7 9 1 ∷ sps 1 0 0 0 ∷ sps 1 0 1 1 ∷ sps 1 1 0 1 ∷ []) (batch two_cells [])) (reports "1011")
    ∷ row "two blocks: one bit for each SPS reception" (and_sps (sps 0 0 0 0 ∷ sps 0 0 1 1 ∷ []) (place 1 (pair 1 0))) (reports "1001")
    ∷ row "bundled: one bit for each SPS reception" (and_sps (sps 0 0 0 0 ∷ sps 0 0 1 1 ∷ []) (place 2 (pair 1 1))) (reports "101")
    ∷ row "SPS bits stand behind places without an arrival" (and_sps (sps 0 0 0 1 ∷ []) (alone two_cells (arrives 0 0 by_1_1 2 ack))) (reports "1001")
    ∷ []

abbrev pub SpsTold : Type 0
SpsTold = Holds receptions
