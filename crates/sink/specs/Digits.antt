-- Bits as the digits '0' and '1'. Assumes nothing.
use Rattle.std.specs.Prelude.{ℕ, Bool, cond, ◌==◌}

-- the digit of a bit
abbrev pub digit : Bool → ℕ
digit bit = cond bit 49 48

-- the bit that a digit says
abbrev pub said : ℕ → Bool
said byte = byte == 49
