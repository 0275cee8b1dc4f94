-- The placer: its state is the span, the turns and the counter before. Its turns stop at the largest number of 32 bits. Assumes nothing.
use Rattle.std.specs.Prelude.{ℕ, ◌+◌, ◌-◌, ◌*◌, ◌/◌, min, Bool, cond, ◌||◌, Ok, Err, Result, ◌==◌, nat_le, nat_lt}
use Rattle.dai.specs.Values.{value}
use Rattle.harq.specs.declared.refusals.Refusal.{Refusal}
use Rattle.harq.specs.declared.refusals.Refusal.TheVariants.{Table}
use Rattle.harq.specs.declared.placing.Placer.{Placer}

-- before the first counter
abbrev pub fresh : ℕ → Placer
fresh span = record { span = span; turns = 0; previous = 0 }

-- behind the numbers 1 to n, none of them missing
abbrev pub placer_after : ℕ → ℕ → Placer
placer_after span n = cond (n == 0 || span == 0) (fresh span) (record { span = span; turns = (n - 1) / span; previous = value span n })

-- the turns, one more where the counter has come round
abbrev pub turns_if : Placer → Bool → ℕ
turns_if p round = cond round (min (p.turns + 1) 4294967295) p.turns

-- the turns with one more counter
abbrev pub turns_of : Placer → ℕ → ℕ
turns_of p v = turns_if p (nat_le v p.previous)

-- the placer once the counter v has come
abbrev pub advanced : Placer → ℕ → Placer
advanced p v = record { span = p.span; turns = turns_of p v; previous = v }

-- the place of the counter v
abbrev pub place_at : Placer → ℕ → ℕ
place_at p v = p.span * turns_of p v + v - 1

-- a place past the slots is refused
abbrev pub place_answer : Placer → ℕ → ℕ → Result (Unit {0}) Refusal
place_answer p v slots = cond (nat_lt (place_at p v) slots) (Ok tt) (Err Table)

-- how many slots there are at the end value e
abbrev pub slots_at : Placer → ℕ → ℕ
slots_at p e = p.span * turns_if p (nat_lt e p.previous) + e
