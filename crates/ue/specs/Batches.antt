-- The arrivals of a batch: which count, their counters and totals, the slot count. Assumes nothing.
use Rattle.std.specs.List.{filter}
use Rattle.std.specs.Prelude.{ℕ, Bool, cond, ◌&&◌, ◌||◌, List, [], ◌∷◌, map, Some, None, Option, ◌==◌, nat_le, nat_lt, slice_index}
use Rattle.std.specs.Option.{unwrap_or, option_or}
use Rattle.harq.specs.declared.configs.Config.{Config}
use Rattle.harq.specs.Words.{last_or}
use Rattle.harq.specs.Configs.{span, counts, read_dai, blocks_within}
use Rattle.harq.specs.Placing.{slot_count}
use Rattle.ue.specs.declared.arrivals.Arrival.{Arrival}

-- the counter and the total of an arrival's DAI field
abbrev pub dai_of : Config → Arrival → Option (ℕ × Option ℕ)
dai_of g a = read_dai g a.format a.field

-- the counter that was read
abbrev pub counter_read : Option (ℕ × Option ℕ) → ℕ
counter_read None = 0
counter_read (Some r) = r.0

-- the total that was read
abbrev pub total_read : Option (ℕ × Option ℕ) → Option ℕ
total_read None = None
total_read (Some r) = r.1

-- the counter DAI of an arrival
abbrev pub counter : Config → Arrival → ℕ
counter g a = counter_read (dai_of g a)

-- the total DAI of an arrival, if it carries one
abbrev pub total : Config → Arrival → Option ℕ
total g a = total_read (dai_of g a)

-- an arrival counts unless it is before its cell's first counted occasion
abbrev pub counting : Config → Arrival → Bool
counting g a = counts g a.cell a.occasion

-- the outcomes that an arrival brings are 0 or 1
abbrev pub outcomes_within : Arrival → Bool
outcomes_within a = (nat_lt a.blocks 1 || nat_le (slice_index a.outcomes 0) 1) && (nat_lt a.blocks 2 || nat_le (slice_index a.outcomes 1) 1)

-- its block count and outcomes are within limits
abbrev pub brought : Config → Arrival → Bool
brought g a = blocks_within g a.blocks && outcomes_within a

-- the arrivals that count
abbrev pub counted : Config → List Arrival → List Arrival
counted g arrivals = filter (counting g) arrivals

-- their counters
abbrev pub counters : Config → List Arrival → List ℕ
counters g arrivals = map (counter g) (counted g arrivals)

-- the total of an occasion, if one of its arrivals carries one
abbrev pub total_at : Config → ℕ → List Arrival → Option ℕ
total_at g occasion [] = None
total_at g occasion (a ∷ rest) = option_or (cond (a.occasion == occasion) (total g a) None) (total_at g occasion rest)

-- the end value of counted arrivals: the total of the last occasion if one of them there carries one, else the last counter
abbrev pub end_value : Config → List Arrival → ℕ
end_value g [] = 0
end_value g (a ∷ rest) = unwrap_or (total_at g (last_or a rest).occasion (a ∷ rest)) (counter g (last_or a rest))

-- how many slots the report has
abbrev pub slots_in : Config → List Arrival → ℕ
slots_in g arrivals = slot_count (span g) (counters g arrivals) (end_value g (counted g arrivals))
