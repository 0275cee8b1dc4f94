-- DAI values, layouts and fields. Assumes nothing.
use Rattle.std.specs.List.{range_with_len}
use Rattle.std.specs.Prelude.{ℕ, cond, List, [], ◌∷◌, map, Some, None, Option}
use Rattle.dai.specs.declared.Layout.{Layout}
use Rattle.dai.specs.declared.Layout.TheVariants.{One, Two, Four}
use Rattle.dai.specs.Values.{value, code}
use Rattle.dai.specs.Fields.{width, span, has_total, coded, reading}
use Rattle.harq.specs.declared.configs.Config.{Config}
use Rattle.harq.specs.Configs as config
use Rattle.tables.specs.Setups.{one_cell, two_cells, with_width}
use Rattle.tables.specs.Rows.{Row, line, Holds}

-- the three layouts
abbrev layouts : List Layout
layouts = One ∷ Two ∷ Four ∷ []

-- how many bits the DAI field of formats 1_0, 1_1, 1_2 and one more has; 0 where the format is barred or unknown
abbrev field_bits : Option Layout → ℕ
field_bits None = 0
field_bits (Some l) = width l

abbrev bits_by_format : Config → List ℕ
bits_by_format g = map (λ format. field_bits (config.layout_of g format)) (range_with_len 0 4)

-- the fields of assignments by their number and how many are numbered up to their occasion
abbrev coded_all : Layout → List (ℕ × ℕ) → List ℕ
coded_all l assignments = map (λ (a : ℕ × ℕ). coded l a.0 a.1) assignments

-- values, layouts and coded fields
abbrev pub numbers : List (Row (List ℕ))
numbers =
    line "values of numbers 1 to 9, span 4" (map (value 4) (range_with_len 1 9)) (1 ∷ 2 ∷ 3 ∷ 4 ∷ 1 ∷ 2 ∷ 3 ∷ 4 ∷ 1 ∷ [])
    ∷ line "values of numbers 1 to 9, span 2" (map (value 2) (range_with_len 1 9)) (1 ∷ 2 ∷ 1 ∷ 2 ∷ 1 ∷ 2 ∷ 1 ∷ 2 ∷ 1 ∷ [])
    ∷ line "codes of values 1 to 4" (map code (range_with_len 1 4)) (0 ∷ 1 ∷ 2 ∷ 3 ∷ [])
    ∷ line "bits of the layouts" (map width layouts) (1 ∷ 2 ∷ 4 ∷ [])
    ∷ line "counter values of the layouts" (map span layouts) (2 ∷ 4 ∷ 4 ∷ [])
    ∷ line "layouts with a total" (map (λ l. cond (has_total l) 1 0) layouts) (0 ∷ 0 ∷ 1 ∷ [])
    ∷ line "span by the width of 1_2" (map (λ w. config.span (with_width w two_cells)) (0 ∷ 1 ∷ 2 ∷ 4 ∷ [])) (4 ∷ 2 ∷ 4 ∷ 4 ∷ [])
    ∷ line "one cell, width 0: no 1_2" (bits_by_format one_cell) (2 ∷ 2 ∷ 0 ∷ 0 ∷ [])
    ∷ line "one cell, width 1: 1_2 alone" (bits_by_format (with_width 1 one_cell)) (0 ∷ 0 ∷ 1 ∷ 0 ∷ [])
    ∷ line "one cell, width 2" (bits_by_format (with_width 2 one_cell)) (2 ∷ 2 ∷ 2 ∷ 0 ∷ [])
    ∷ line "two cells, width 0: 1_1 has a total" (bits_by_format two_cells) (2 ∷ 4 ∷ 0 ∷ 0 ∷ [])
    ∷ line "two cells, width 1: 1_2 alone" (bits_by_format (with_width 1 two_cells)) (0 ∷ 0 ∷ 1 ∷ 0 ∷ [])
    ∷ line "two cells, width 2" (bits_by_format (with_width 2 two_cells)) (2 ∷ 4 ∷ 2 ∷ 0 ∷ [])
    ∷ line "two cells, width 4" (bits_by_format (with_width 4 two_cells)) (2 ∷ 4 ∷ 4 ∷ 0 ∷ [])
    ∷ line "one bit, numbers 1 to 5" (coded_all One ((1, 1) ∷ (2, 2) ∷ (3, 3) ∷ (4, 4) ∷ (5, 5) ∷ [])) (0 ∷ 1 ∷ 0 ∷ 1 ∷ 0 ∷ [])
    ∷ line "two bits, numbers 1 to 5, no total" (coded_all Two ((1, 3) ∷ (2, 3) ∷ (3, 3) ∷ (4, 9) ∷ (5, 9) ∷ [])) (0 ∷ 1 ∷ 2 ∷ 3 ∷ 0 ∷ [])
    ∷ line "four bits, number 1 of 1 to 5" (coded_all Four ((1, 1) ∷ (1, 2) ∷ (1, 3) ∷ (1, 4) ∷ (1, 5) ∷ [])) (0 ∷ 1 ∷ 2 ∷ 3 ∷ 0 ∷ [])
    ∷ line "four bits, numbers 1 to 5 of 8" (coded_all Four ((1, 8) ∷ (2, 8) ∷ (3, 8) ∷ (4, 8) ∷ (5, 8) ∷ [])) (3 ∷ 7 ∷ 11 ∷ 15 ∷ 3 ∷ [])
    ∷ line "four bits, numbers 9 to 12 of 12" (coded_all Four ((9, 12) ∷ (10, 12) ∷ (11, 12) ∷ (12, 12) ∷ [])) (3 ∷ 7 ∷ 11 ∷ 15 ∷ [])
    ∷ line "four bits, the total below the counter" (coded_all Four ((2, 5) ∷ (3, 6) ∷ (4, 5) ∷ (4, 7) ∷ [])) (4 ∷ 9 ∷ 12 ∷ 14 ∷ [])
    ∷ []

abbrev pub NumbersTold : Type 0
NumbersTold = Holds numbers

-- what is read from a field: the counter, and the total if there is one
abbrev Reading : Type 0
Reading = Option (ℕ × Option ℕ)

-- a counter without a total
abbrev bare : ℕ → Reading
bare counter = Some (counter, None)

-- a counter with a total
abbrev both : ℕ → ℕ → Reading
both counter total = Some (counter, Some total)

-- every field of every layout
abbrev pub readings : List (Row (List Reading))
readings =
    line "one bit, and a field too wide" (map (reading One) (range_with_len 0 3)) (bare 1 ∷ bare 2 ∷ None ∷ [])
    ∷ line "two bits, and a field too wide" (map (reading Two) (range_with_len 0 5)) (bare 1 ∷ bare 2 ∷ bare 3 ∷ bare 4 ∷ None ∷ [])
    ∷ line "four bits, from field 0 on" (map (reading Four) (range_with_len 0 4)) (both 1 1 ∷ both 1 2 ∷ both 1 3 ∷ both 1 4 ∷ [])
    ∷ line "four bits, from field 4 on" (map (reading Four) (range_with_len 4 4)) (both 2 1 ∷ both 2 2 ∷ both 2 3 ∷ both 2 4 ∷ [])
    ∷ line "four bits, from field 8 on" (map (reading Four) (range_with_len 8 4)) (both 3 1 ∷ both 3 2 ∷ both 3 3 ∷ both 3 4 ∷ [])
    ∷ line "four bits, from field 12 on, and one too wide" (map (reading Four) (range_with_len 12 5)) (both 4 1 ∷ both 4 2 ∷ both 4 3 ∷ both 4 4 ∷ None ∷ [])
    ∷ []

abbrev pub FieldsRead : Type 0
FieldsRead = Holds readings
