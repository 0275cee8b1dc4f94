-- The rule of the value tables. Assumes nothing.
use Rattle.std.specs.Prelude.{◌≡◌, ℕ, ◌+◌, ◌<◌, Bool, true, ◌&&◌, List, [], ◌∷◌, length, ◌==◌, slice_index}
use Rattle.dai.specs.Values.{value, code}

-- the entries count up from v
abbrev pub counts_up : ℕ → List ℕ → Bool
counts_up v [] = true
counts_up v (x ∷ xs) = x == v && counts_up (v + 1) xs

-- the test of a whole table: its values, by code, count up from 1
abbrev pub follows : List ℕ → Bool
follows table = counts_up 1 table

-- the rule of a table of that span: a value is its code + 1, and the entry at the code of a number's value is that value
abbrev pub FollowsRule : ℕ → List ℕ → Type 0
FollowsRule span table =
    (length table ≡ span) ×
    ((c : ℕ) → c < span → slice_index table c ≡ c + 1) ×
    ((number : ℕ) → slice_index table (code (value span number)) ≡ value span number)
