use Rattle.std.proofs.Common.{◌≡◌, ◌+◌, drop}
use Rattle.harq.specs.Placers.{placer_after}
use Rattle.sink.specs.Written.{written}
use Rattle.gnb.specs.Calls.{entries_of}
use Rattle.gnb.proofs.states.calls.Numbering.place_entries.Given as goal

abbrev pub invariant-loop-i : goal.invariant-loop-i
invariant-loop-i l =
    (l.placer ≡ placer_after l.span (l.numbered + l.i)) ×
    (written l.table (l.numbered + l.i) (entries_of l.self.batch.config l.occasion l.total (l.numbered + l.i) (drop l.i l.grants))
    ≡ written l.initial.table l.numbered (entries_of l.self.batch.config l.occasion l.total l.numbered l.grants))
