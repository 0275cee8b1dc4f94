use Rattle.std.proofs.Common.{take}
use Rattle.sink.specs.Gains.{Gains}
use Rattle.sink.proofs.runs.put_all.Given as goal

-- the bits so far are in the sink
abbrev pub invariant-loop-bit : goal.invariant-loop-bit
invariant-loop-bit g l = Gains g.S.BitSink.taken g.S.BitSink.room g.S.BitSink.took l.initial.sink (take l.bit-index l.bits) l.sink
