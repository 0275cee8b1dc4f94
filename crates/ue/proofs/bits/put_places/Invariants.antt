use Rattle.std.specs.Prelude.{flat_map}
use Rattle.std.proofs.Common.{◌-◌, ◌*◌, ◌≤◌, length, take}
use Rattle.harq.specs.Configs.{bits_per_place}
use Rattle.sink.specs.Gains.{Gains}
use Rattle.ue.specs.Slots.{place_bits}
use Rattle.ue.proofs.bits.put_places.Given as goal

abbrev pub invariant-loop-slot : goal.invariant-loop-slot
invariant-loop-slot g l =
    Gains g.S.BitSink.taken g.S.BitSink.room g.S.BitSink.took l.initial.sink (flat_map (place_bits l.config.mode) (take l.slot-index l.slots)) l.sink
    × (bits_per_place l.config * (length l.slots - l.slot-index) ≤ g.S.BitSink.room l.sink)
