use Rattle.std.proofs.Common.{◌≡◌, ◌-◌}
use Rattle.trace.specs.Records.{fields_at}
use Rattle.trace.proofs.readers.Reader.skip.Given as goal

abbrev pub invariant-loop-field : goal.invariant-loop-field
invariant-loop-field l =
    (l.self.bytes ≡ l.initial.self.bytes) × (l.self.at ≡ l.initial.self.at)
    × (fields_at l.initial.self.bytes.now l.initial.self.at l.initial.self.next l.count ≡ fields_at l.initial.self.bytes.now l.initial.self.at l.self.next (l.count - l._field))
