-- What every state of a batch keeps. Assumes nothing.
use Rattle.std.specs.Prelude.{ℕ, ◌+◌, ◌*◌, ◌≤◌, Some, None, Option}
use Rattle.gnb.specs.declared.batches.BatchState.{BatchState}

-- the lowest occasion that the next call may have
abbrev pub next_occasion : Option ℕ → ℕ
next_occasion None = 0
next_occasion (Some last) = last + 1

-- the sizes of a configuration and an SPS list within limits
abbrev pub Small : BatchState → Type 0
Small b = (b.config.cells ≤ 16) × (b.config.occasions ≤ 32) × (b.sps ≤ 64)

-- the occasions have not run out, each had at most one grant for each cell, and a grant has at most two blocks
abbrev pub Sound : BatchState → Type 0
Sound b =
    (next_occasion b.last ≤ b.config.occasions) × (b.numbered ≤ 16 * next_occasion b.last) × (b.granted ≤ 2 * b.numbered + b.sps)
