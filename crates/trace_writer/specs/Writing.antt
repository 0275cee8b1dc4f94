-- How a batch is written: a record is kind, length of the body, body. Assumes nothing.
use Rattle.std.specs.Prelude.{ℕ, List, [], ◌∷◌, ◌++◌, length, take}
use Rattle.std.specs.List.{flat_map}
use Rattle.harq.specs.declared.configs.Config.{Config}
use Rattle.ue.specs.declared.arrivals.Arrival.{Arrival}
use Rattle.ue.specs.declared.arrivals.SpsOutcome.{SpsOutcome}
use Rattle.trace_writer.specs.Coding.{coded}

-- kind and length are numbers like any other
abbrev pub record_of : ℕ → List ℕ → List ℕ
record_of kind body = coded kind ++ (coded (length body) ++ body)

-- a configuration: cells, occasions, width, mode, then the first occasions of the cells, of which there are at most 16
abbrev pub config_numbers : Config → List ℕ
config_numbers g = g.cells ∷ g.occasions ∷ g.width ∷ g.mode ∷ []

abbrev pub config_body : Config → List ℕ
config_body g = flat_map coded (config_numbers g) ++ flat_map coded (take g.cells g.first)

-- an assignment: cell, occasion, format, field, blocks, then the outcome bytes of the blocks, of which there are at most two
abbrev pub arrival_numbers : Arrival → List ℕ
arrival_numbers a = a.cell ∷ a.occasion ∷ a.format ∷ a.field ∷ a.blocks ∷ []

abbrev pub arrival_body : Arrival → List ℕ
arrival_body a = flat_map coded (arrival_numbers a) ++ take a.blocks a.outcomes

-- an SPS reception: cell, configuration, slot, then its outcome byte
abbrev pub sps_numbers : SpsOutcome → List ℕ
sps_numbers s = s.entry.cell ∷ s.entry.configuration ∷ s.entry.slot ∷ []

abbrev pub sps_body : SpsOutcome → List ℕ
sps_body s = flat_map coded (sps_numbers s) ++ s.outcome ∷ []

-- the three kinds of records
abbrev pub config_record : Config → List ℕ
config_record g = record_of 1 (config_body g)

abbrev pub arrival_record : Arrival → List ℕ
arrival_record a = record_of 2 (arrival_body a)

abbrev pub sps_record : SpsOutcome → List ℕ
sps_record s = record_of 3 (sps_body s)

-- a batch: the configuration, then every arrival, then every SPS reception
abbrev pub trace_of : Config → List Arrival → List SpsOutcome → List ℕ
trace_of g arrivals sps = config_record g ++ (flat_map arrival_record arrivals ++ flat_map sps_record sps)
