-- Slots, and the bits of a place. Assumes nothing.
use Rattle.std.specs.Prelude.{ℕ, Bool, true, false, cond, ◌&&◌, List, [], ◌∷◌, ◌==◌, slice_index}
use Rattle.ue.specs.declared.arrivals.Arrival.{Arrival}
use Rattle.ue.specs.declared.slots.Slot.{Slot}
use Rattle.ue.specs.declared.slots.Slot.TheVariants.{One, Two}

-- outcome i of an arrival decoded
abbrev pub decoded : Arrival → ℕ → Bool
decoded a i = slice_index a.outcomes i == 1

-- the outcomes that an arrival brought; an SPS release or dormancy message is one ACK
abbrev pub slot_of : Arrival → Slot
slot_of a = cond (a.blocks == 0) (One true) (cond (a.blocks == 1) (One (decoded a 0)) (Two (decoded a 0) (decoded a 1)))

-- a place that no arrival has
abbrev pub nack : Slot
nack = One false

-- the first or only bit of a place: in mode 2 both outcomes at once, a missing second counting as ACK
abbrev pub first_bit : ℕ → Slot → Bool
first_bit mode (One x) = x
first_bit mode (Two x y) = cond (mode == 2) (x && y) x

-- the second bit of a place, a missing second counting as NACK
abbrev pub second_bit : Slot → Bool
second_bit (One x) = false
second_bit (Two x y) = y

-- the bits of a place: both in mode 1, else one
abbrev pub place_bits : ℕ → Slot → List Bool
place_bits mode s = cond (mode == 1) (first_bit mode s ∷ second_bit s ∷ []) (first_bit mode s ∷ [])
