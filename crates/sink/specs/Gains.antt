-- A sink that took a run of bits. Assumes nothing.
use Rattle.std.specs.Prelude.{◌≡◌, ℕ, ◌+◌, Bool, List, ◌++◌, length}

-- The sink before, the bits that it took, and the sink after, by what `taken`, `room` and `took` say of a sink.
pub record Gains {S : Type 0} (taken : S → List Bool) (room : S → ℕ) (took : S → List Bool → S → Type 0) (before : S) (bits : List Bool) (after : S) : Type 0 where
  -- the list gained the bits at its end
  pub list : taken after ≡ taken before ++ bits
  -- the room fell by as many
  pub left : room after + length bits ≡ room before
  -- and whatever it took before, it has taken these behind it
  pub on : (first : S) (more : List Bool) → took first more before → took first (more ++ bits) after
