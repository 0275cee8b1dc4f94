-- Losses on the air, and blocks that decoded. Assumes nothing.
use Rattle.std.specs.Prelude.{◌≡◌, ℕ, ◌+◌, ◌<◌, ◌≤◌, true, false, ◌⊎◌, Some}
use Rattle.harq.specs.Configs.{span, carries_total}
use Rattle.gnb.specs.Marks.{answered_blocks}
use Rattle.agreement.specs.Fates.{outcome}
use Rattle.agreement.specs.Exchanges.{Exchange, count_sent, assignment, fate, last_occasion_used}

-- number k was sent
abbrev pub Sent : Exchange → ℕ → Type 0
Sent x k = (0 < k) × (k ≤ count_sent x)

-- it was sent and arrived
abbrev pub Arrived : Exchange → ℕ → Type 0
Arrived x k = Sent x k × ((fate x k).arrived ≡ true)

-- it was sent and lost
abbrev pub Lost : Exchange → ℕ → Type 0
Lost x k = Sent x k × ((fate x k).arrived ≡ false)

-- a run of losses: the numbers start + 1, .., start + long are all lost
abbrev pub RunOfLosses : Exchange → ℕ → ℕ → Type 0
RunOfLosses x start long = (k : ℕ) → start < k → k ≤ start + long → Lost x k

-- every run of losses is shorter than the counter's span
abbrev pub RunsShort : Exchange → Type 0
RunsShort x = (start long : ℕ) → RunOfLosses x start long → long < span x.config

-- nothing was sent
abbrev pub NothingSent : Exchange → Type 0
NothingSent x = count_sent x ≡ 0

-- the last assignment arrived
abbrev pub LastArrived : Exchange → Type 0
LastArrived x = Arrived x (count_sent x)

-- some assignment that carries a total arrived in the last occasion used
abbrev pub TotalInLastUsed : Exchange → Type 0
TotalInLastUsed x =
    (k : ℕ) × Arrived x k × (last_occasion_used x ≡ Some (assignment x k).occasion) × (carries_total x.config (assignment x k).format ≡ true)

-- number k has a block d, counted from 0
abbrev pub HasBlock : Exchange → ℕ → ℕ → Type 0
HasBlock x k d = Sent x k × (d < answered_blocks (assignment x k).blocks)

-- the block decoded; an SPS release or dormancy message counts as one that did
abbrev pub BlockDecoded : Exchange → ℕ → ℕ → Type 0
BlockDecoded x k d = ((assignment x k).blocks ≡ 0) ⊎ (outcome (fate x k) d ≡ 1)

-- the block decoded, and where blocks are bundled every block of its assignment
abbrev pub Decoded : Exchange → ℕ → ℕ → Type 0
Decoded x k d = BlockDecoded x k d × (x.config.mode ≡ 2 → (e : ℕ) → HasBlock x k e → BlockDecoded x k e)
