-- The parts of a DAI field, by their span and by what they weigh. Assumes nothing.
use Rattle.std.specs.Prelude.{ℕ, ◌+◌, ◌*◌, ◌/◌, ◌%◌, ◌^◌, cond, Some, None, Option, nat_lt}
use Rattle.dai.specs.Values.{value, code}

-- what a field of that many bits holds, none where it is too wide
abbrev pub within_bits : {X : Type 0} → ℕ → ℕ → X → Option X
within_bits bits field held = cond (nat_lt field (2 ^ bits)) (Some held) None

-- the code of a number's value
abbrev pub number_code : ℕ → ℕ → ℕ
number_code span number = code (value span number)

-- the counter's part of a field, in which its lowest bit weighs `unit`
abbrev pub counter_part : ℕ → ℕ → ℕ → ℕ
counter_part span unit number = unit * number_code span number

-- the counter, read
abbrev pub counter_at : ℕ → ℕ → ℕ
counter_at unit field = field / unit + 1

-- the total, which has the lowest bits, read
abbrev pub total_at : ℕ → ℕ → ℕ
total_at span field = field % span + 1
