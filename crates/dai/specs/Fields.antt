-- DAI fields by their layout. Assumes nothing.
use Rattle.std.specs.Prelude.{ℕ, ◌+◌, ◌*◌, ◌/◌, ◌%◌, ◌^◌, Bool, true, false, cond, Some, None, Option, nat_lt}
use Rattle.dai.specs.declared.Layout.{Layout}
use Rattle.dai.specs.declared.Layout.TheVariants.{One, Two, Four}
use Rattle.dai.specs.Values.{value, code}

-- the width of the field in bits
abbrev pub width : Layout → ℕ
width One = 1
width Two = 2
width Four = 4

-- how many values the counter has
abbrev pub span : Layout → ℕ
span One = 2
span Two = 4
span Four = 4

-- whether the field has a total beside the counter
abbrev pub has_total : Layout → Bool
has_total One = false
has_total Two = false
has_total Four = true

-- the field of a counter value and a total value; four bits are the counter's code above the total's
abbrev pub field_of : Layout → ℕ → ℕ → ℕ
field_of One counter total = code counter
field_of Two counter total = code counter
field_of Four counter total = 4 * code counter + code total

-- the field of an assignment: its own number, and how many are numbered up to its occasion
abbrev pub coded : Layout → ℕ → ℕ → ℕ
coded l number numbered = field_of l (value (span l) number) (value (span l) numbered)

-- the counter that a field holds
abbrev pub counter_in : Layout → ℕ → ℕ
counter_in One f = f + 1
counter_in Two f = f + 1
counter_in Four f = f / 4 + 1

-- the total that a field holds, if its layout has one
abbrev pub total_in : Layout → ℕ → Option ℕ
total_in One f = None
total_in Two f = None
total_in Four f = Some (f % 4 + 1)

-- the counter with the total, or none where the field is too wide
abbrev pub reading : Layout → ℕ → Option (ℕ × Option ℕ)
reading l f = cond (nat_lt f (2 ^ width l)) (Some (counter_in l f, total_in l f)) None
