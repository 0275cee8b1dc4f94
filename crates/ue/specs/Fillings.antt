-- The slots as they are written in one pass. Assumes nothing.
use Rattle.std.specs.Prelude.{ℕ, cond, List, [], ◌∷◌, length, nat_lt, slice_set}
use Rattle.harq.specs.declared.configs.Config.{Config}
use Rattle.harq.specs.declared.placing.Placer.{Placer}
use Rattle.harq.specs.Placers.{advanced, place_at}
use Rattle.ue.specs.declared.arrivals.Arrival.{Arrival}
use Rattle.ue.specs.declared.slots.Slot.{Slot}
use Rattle.ue.specs.Slots.{slot_of}
use Rattle.ue.specs.Batches.{counter, counting}

-- the placer behind an arrival, in that many slots
abbrev pub placer_behind : Config → Placer → Arrival → ℕ → Placer
placer_behind g p a slots = cond (counting g a) (cond (nat_lt (place_at p (counter g a)) slots) (advanced p (counter g a)) p) p

-- the slots behind an arrival
abbrev pub slots_behind : Config → Placer → Arrival → List Slot → List Slot
slots_behind g p a slots = cond (counting g a) (slice_set slots (place_at p (counter g a)) (slot_of a)) slots

-- each arrival in turn
abbrev pub placed_by : Config → Placer → List Arrival → List Slot → List Slot
placed_by g p [] slots = slots
placed_by g p (a ∷ rest) slots = placed_by g (placer_behind g p a (length slots)) rest (slots_behind g p a slots)
