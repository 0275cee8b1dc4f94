-- Which of the assignments sent arrived, and the runs of losses: a Bool for each number from 1, true where it arrived. Assumes nothing.
use Rattle.std.specs.Prelude.{◌≡◌, ℕ, ◌+◌, ◌-◌, ◌<◌, ◌≤◌, max, Bool, true, false, List, [], ◌∷◌, slice_index_or}
use Rattle.harq.specs.Words.{last_or}

-- the numbers that arrived, where n were sent before
abbrev pub numbers : ℕ → List Bool → List ℕ
numbers n [] = []
numbers n (true ∷ bs) = (n + 1) ∷ numbers (n + 1) bs
numbers n (false ∷ bs) = numbers (n + 1) bs

-- the last number that arrived, 0 if none did
abbrev pub last_arrived : List Bool → ℕ
last_arrived arrived = last_or 0 (numbers 0 arrived)

-- number k, counted from 1, was sent and lost
abbrev pub Lost : List Bool → ℕ → Type 0
Lost arrived k = slice_index_or arrived (k - 1) true ≡ false

-- a run of losses: the consecutive numbers start + 1 up to start + long are all lost
abbrev pub LostRun : List Bool → ℕ → ℕ → Type 0
LostRun arrived start long = (k : ℕ) → start < k → k ≤ start + long → Lost arrived k

-- the run condition: every run of losses is shorter than the span
abbrev pub RunsShort : ℕ → List Bool → Type 0
RunsShort span arrived = (start long : ℕ) → LostRun arrived start long → long < span

-- the longest run of losses, where the last `lost` numbers before were lost
abbrev pub longest_after : ℕ → List Bool → ℕ
longest_after lost [] = lost
longest_after lost (true ∷ bs) = max lost (longest_after 0 bs)
longest_after lost (false ∷ bs) = longest_after (lost + 1) bs

-- the longest run of losses
abbrev pub longest : List Bool → ℕ
longest arrived = longest_after 0 arrived
