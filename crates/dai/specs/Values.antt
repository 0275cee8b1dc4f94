-- DAI values. Assumes nothing.
use Rattle.std.specs.Prelude.{ℕ, ◌+◌, ◌-◌, ◌%◌}

-- the DAI value of a number counted from 1: it runs from 1 to the span and starts over
abbrev pub value : ℕ → ℕ → ℕ
value span number = (number - 1) % span + 1

-- a value is coded as value - 1
abbrev pub code : ℕ → ℕ
code v = v - 1
