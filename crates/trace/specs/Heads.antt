-- What the reader of a head answers. Assumes nothing.
use Rattle.std.specs.Prelude.{ℕ, length, Ok, Err, Result}
use Rattle.trace.specs.declared.faults.Fault.{Fault}
use Rattle.trace.specs.declared.kinds.Kind.{Kind}
use Rattle.trace.specs.declared.readers.Reader.{Reader}
use Rattle.trace.specs.Kinds.{kind_number}

-- a head that was read: its kind, and where its body begins and ends
abbrev pub headed : Result (Kind × Reader) Fault → Result (ℕ × ℕ × ℕ) Fault
headed (Ok h) = Ok (kind_number h.0, h.1.next, length h.1.bytes.now)
headed (Err e) = Err e
