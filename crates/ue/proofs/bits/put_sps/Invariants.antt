use Rattle.std.proofs.Common.{◌-◌, ◌≤◌, map, length, take}
use Rattle.sink.specs.Gains.{Gains}
use Rattle.ue.specs.Reports.{sps_bit}
use Rattle.ue.proofs.bits.put_sps.Given as goal

abbrev pub invariant-loop-s : goal.invariant-loop-s
invariant-loop-s g l =
    Gains g.S.BitSink.taken g.S.BitSink.room g.S.BitSink.took l.initial.sink (map sps_bit (take l.s-index l.sps)) l.sink
    × (length l.sps - l.s-index ≤ g.S.BitSink.room l.sink)
