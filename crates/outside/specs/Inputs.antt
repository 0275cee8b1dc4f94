-- Inputs of limited length. Assumes nothing.
use Rattle.std.specs.Prelude.{ℕ, cond, List, length, Some, None, Option, nat_le}

-- all of an input, none where it is longer than so many bytes
abbrev pub within : ℕ → List ℕ → Option (List ℕ)
within most bytes = cond (nat_le (length bytes) most) (Some bytes) None
