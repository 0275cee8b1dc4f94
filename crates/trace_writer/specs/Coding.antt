-- How a number is written, and the laws of writing and reading it. Assumes nothing.
use Rattle.std.specs.Prelude.{◌≡◌, ℕ, zero, suc, ◌+◌, ◌/◌, ◌%◌, ◌^◌, ◌<◌, cond, List, [], ◌∷◌, ◌++◌, length, take, drop, Ok, nat_lt}
use Rattle.std.specs.List.{AllByRecursion}
use Rattle.trace.specs.Numbers.{number_at}

-- at most n groups before the last
abbrev pub coded_by : ℕ → ℕ → List ℕ
coded_by zero v = v ∷ []
coded_by (suc n) v = cond (nat_lt v 128) (v ∷ []) ((128 + v % 128) ∷ coded_by n (v / 128))

-- the shortest form of a number below 2 ^ 35, so of every number of a trace
unfoldable pub coded : ℕ → List ℕ
coded v = coded_by 4 v

-- what was written is read back, whatever stands before it and behind it
abbrev pub ReadsCoded : Type 0
ReadsCoded =
    (before behind : List ℕ) (v : ℕ) → v < 2 ^ 32 → number_at (before ++ (coded v ++ behind)) (length before) ≡ Ok (v, length before + length (coded v))

-- no other form is read: the n bytes that were read as v are those that are written for v
abbrev pub OnlyCoded : Type 0
OnlyCoded =
    (bytes : List ℕ) (at v n : ℕ) → AllByRecursion (λ b. b < 256) bytes → number_at bytes at ≡ Ok (v, at + n) → take n (drop at bytes) ≡ coded v
