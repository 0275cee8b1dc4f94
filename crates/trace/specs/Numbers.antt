-- Numbers of a trace: seven-bit groups, lowest first, the top bit set on all but the last byte; below 2 ^ 32, and in the shortest form
-- only. Assumes nothing.
use Rattle.std.specs.Prelude.{ℕ, ◌+◌, ◌-◌, ◌*◌, ◌^◌, cond, ◌&&◌, ◌||◌, List, [], ◌∷◌, drop, Some, None, Ok, Err, Option, Result, ◌==◌, nat_le, nat_lt}
use Rattle.trace.specs.declared.faults.Fault.{Fault}
use Rattle.trace.specs.declared.faults.Layer.TheVariants as layer
use Rattle.trace.specs.Faults.{broken_at}

-- a group before a number: none where that number is 0, since the form would not be the shortest
abbrev pub before : ℕ → Option (ℕ × ℕ) → Option (ℕ × ℕ)
before g None = None
before g (Some p) = cond (p.0 == 0) None (Some (g + 128 * p.0, p.1 + 1))

-- the number at the front of some bytes, of any size, and how many bytes it takes
abbrev pub groups : List ℕ → Option (ℕ × ℕ)
groups [] = None
groups (b ∷ bs) = cond (nat_lt b 128) (Some (b, 1)) (before (b - 128) (groups bs))

-- below 2 ^ 32, with the offset after it
abbrev pub limited : ℕ → Option (ℕ × ℕ) → Result (ℕ × ℕ) Fault
limited at None = Err (broken_at layer.Number at)
limited at (Some p) = cond (nat_lt p.0 (2 ^ 32)) (Ok (p.0, at + p.1)) (Err (broken_at layer.Number at))

-- the number at an offset, and the offset after it
abbrev pub number_at : List ℕ → ℕ → Result (ℕ × ℕ) Fault
number_at bs at = limited at (groups (drop at bs))

-- the number that a last group ends at `end`, with groups of the value v before it, w being the weight of the last
abbrev pub closed : (at end v w last : ℕ) → Result (ℕ × ℕ) Fault
closed at end v w last =
    cond ((last == 0 && nat_lt 1 w) || nat_le (2 ^ 32) (v + w * last)) (Err (broken_at layer.Number at)) (Ok (v + w * last, end))
