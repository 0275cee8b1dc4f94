-- The configuration: its limits, and what follows from it. Assumes nothing.
use Rattle.std.specs.Prelude.{ℕ, Bool, false, cond, ◌&&◌, ◌||◌, leb, take, Some, None, Option, ◌==◌, nat_le, nat_lt, slice_index}
use Rattle.std.specs.List.{list_all}
use Rattle.dai.specs.declared.Layout.{Layout}
use Rattle.dai.specs.declared.Layout.TheVariants.{One, Two, Four}
use Rattle.dai.specs.Fields.{has_total, reading}
use Rattle.std.specs.Option.{option_and_then}
use Rattle.harq.specs.declared.configs.Config.{Config}

-- the first occasion that counts on a cell
abbrev pub first_counted : Config → ℕ → ℕ
first_counted g cell = slice_index g.first cell

-- the limits of the width of format 1_2's DAI field: four bits need a second cell
abbrev pub width_within : Config → Bool
width_within g = nat_le g.width 2 || (g.width == 4 && nat_lt 1 g.cells)

-- the limits of each number
abbrev pub numbers_within : Config → Bool
numbers_within g =
    (nat_le 1 g.cells && nat_le g.cells 16) &&
    ((nat_le 1 g.occasions && nat_le g.occasions 32) && (width_within g && nat_le g.mode 2))

-- the limits of a configuration
abbrev pub config_within : Config → Bool
config_within g = numbers_within g && list_all (λ f. leb f g.occasions) (take g.cells g.first)

-- there is such a cell and occasion
abbrev pub in_range : Config → ℕ → ℕ → Bool
in_range g cell occasion = nat_lt cell g.cells && nat_lt occasion g.occasions

-- an occasion counts on a cell from the cell's first on
abbrev pub counts : Config → ℕ → ℕ → Bool
counts g cell occasion = nat_le (first_counted g cell) occasion

-- the span T of the counter DAI: how many values it has
abbrev pub span : Config → ℕ
span g = cond (g.width == 1) 2 4

-- how many bits of the report a place has
abbrev pub bits_per_place : Config → ℕ
bits_per_place g = cond (g.mode == 1) 2 1

-- the layout of a field of that many bits
abbrev pub layout_wide : ℕ → Option Layout
layout_wide bits = cond (bits == 1) (Some One) (cond (bits == 2) (Some Two) (cond (bits == 4) (Some Four) None))

-- The DAI layout of format 0 (1_0), 1 (1_1) or 2 (1_2): 1_0 has two bits; 1_1 has four with a second cell, else two; 1_2 has its own
-- width. None where there is no such format or it is barred: 1_2 by width 0, the others by width 1.
abbrev pub layout_of : Config → ℕ → Option Layout
layout_of g format =
    cond (format == 2) (layout_wide g.width)
    (cond (nat_lt 2 format || g.width == 1) None
    (cond (format == 1 && nat_lt 1 g.cells) (Some Four) (Some Two)))

-- a total in a layout that is there
abbrev pub total_there : Option Layout → Bool
total_there None = false
total_there (Some l) = has_total l

-- assignments of a format carry a total
abbrev pub carries_total : Config → ℕ → Bool
carries_total g format = total_there (layout_of g format)

-- the counter and the total of a field, or none where the format is barred or the field too wide
abbrev pub read_dai : Config → ℕ → ℕ → Option (ℕ × Option ℕ)
read_dai g format field = option_and_then (λ l. reading l field) (layout_of g format)

-- a block count that the mode has
abbrev pub blocks_within : Config → ℕ → Bool
blocks_within g blocks = nat_le blocks 2 && (nat_le blocks 1 || nat_lt 0 g.mode)
