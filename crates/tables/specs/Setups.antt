-- Batches at the UE in few words: configurations, arrivals, SPS receptions. Assumes nothing.
use Rattle.std.specs.List.{range_with_len}
use Rattle.std.specs.Prelude.{ℕ, ◌/◌, ◌%◌, List, [], ◌∷◌, ◌++◌, map, take, replicate}
use Rattle.harq.specs.declared.configs.Config.{Config}
use Rattle.ue.specs.declared.arrivals.Arrival.{Arrival}
use Rattle.ue.specs.declared.arrivals.SpsOutcome.{SpsOutcome}

-- so many cells with three occasions, one block for each assignment; format 1_2 is barred, and every occasion counts
abbrev pub cells : ℕ → Config
cells n = record { cells = n; occasions = 3; width = 0; mode = 0; first = replicate 16 0 }

abbrev pub one_cell : Config
one_cell = cells 1

abbrev pub two_cells : Config
two_cells = cells 2

-- with so many occasions
abbrev pub with_occasions : ℕ → Config → Config
with_occasions n g = record { cells = g.cells; occasions = n; width = g.width; mode = g.mode; first = g.first }

-- with format 1_2's DAI field that wide
abbrev pub with_width : ℕ → Config → Config
with_width bits g = record { cells = g.cells; occasions = g.occasions; width = bits; mode = g.mode; first = g.first }

-- in another mode: 1 has two blocks, 2 has two that are bundled
abbrev pub in_mode : ℕ → Config → Config
in_mode m g = record { cells = g.cells; occasions = g.occasions; width = g.width; mode = m; first = g.first }

-- with the first occasion that counts, cell by cell from cell 0 on
abbrev pub counted_from : List ℕ → Config → Config
counted_from firsts g =
    record { cells = g.cells; occasions = g.occasions; width = g.width; mode = g.mode; first = take 16 (firsts ++ replicate 16 0) }

-- the largest configuration
abbrev pub largest : Config
largest = with_occasions 32 (cells 16)

-- the DCI formats
abbrev pub by_1_0 : ℕ
by_1_0 = 0

abbrev pub by_1_1 : ℕ
by_1_1 = 1

abbrev pub by_1_2 : ℕ
by_1_2 = 2

-- a count of blocks, with the two outcomes beside it
abbrev pub Blocks : Type 0
Blocks = ℕ × List ℕ

-- so many blocks, with both outcomes, whether they count or not
abbrev pub blocks : ℕ → ℕ → ℕ → Blocks
blocks n first second = (n, first ∷ second ∷ [])

-- one block that decoded
abbrev pub ack : Blocks
ack = blocks 1 1 0

-- one block that did not
abbrev pub nack : Blocks
nack = blocks 1 0 1

-- two blocks
abbrev pub pair : ℕ → ℕ → Blocks
pair first second = blocks 2 first second

-- no block: an SPS release or a dormancy message
abbrev pub release : Blocks
release = blocks 0 0 0

-- an assignment that arrives: its occasion, cell, format, DAI field and blocks
abbrev pub arrives : ℕ → ℕ → ℕ → ℕ → Blocks → Arrival
arrives occasion cell format field b =
    record { cell = cell; occasion = occasion; format = format; field = field; blocks = b.0; outcomes = b.1 }

-- n arrivals over 16 cells by format 1_0, each with counter 1: four slots for each but the last
abbrev pub ones : ℕ → List Arrival
ones n = map (λ i. arrives (i / 16) (i % 16) by_1_0 0 ack) (range_with_len 0 n)

-- an SPS reception: cell, configuration, slot, outcome
abbrev pub sps : ℕ → ℕ → ℕ → ℕ → SpsOutcome
sps cell configuration slot outcome = record { entry = record { cell = cell; configuration = configuration; slot = slot }; outcome = outcome }

-- n SPS receptions, slot by slot, all good
abbrev pub sps_row : ℕ → List SpsOutcome
sps_row n = map (λ slot. sps 0 0 slot 1) (range_with_len 0 n)

-- what the report is made from, with how many slots are lent and how many bits the sink has room for
pub record Batch : Type 0 where
  pub config : Config
  pub arrivals : List Arrival
  pub receptions : List SpsOutcome
  pub lent : ℕ
  pub room : ℕ

-- arrivals alone, with slots and room to spare
abbrev pub batch : Config → List Arrival → Batch
batch g arrivals = record { config = g; arrivals = arrivals; receptions = []; lent = 2000; room = 2000 }

-- one arrival alone
abbrev pub alone : Config → Arrival → Batch
alone g a = batch g (a ∷ [])

-- with SPS receptions too
abbrev pub and_sps : List SpsOutcome → Batch → Batch
and_sps list b = record { config = b.config; arrivals = b.arrivals; receptions = list; lent = b.lent; room = b.room }

-- with so many slots lent, and room for so many bits
abbrev pub lending : ℕ → ℕ → Batch → Batch
lending slots bits b = record { config = b.config; arrivals = b.arrivals; receptions = b.receptions; lent = slots; room = bits }
