-- Which way a report goes into the sink. Assumes nothing.
use Rattle.std.specs.Prelude.{ℕ, Bool, not, List, map}
use Rattle.sink.specs.Digits.{digit, said}
use Rattle.replay.specs.declared.running.Way.{Way}
use Rattle.replay.specs.declared.running.Way.TheVariants as way

-- the bits of a report as the sink takes them: an inverter flips each
abbrev pub aired : Way → List Bool → List Bool
aired way.Plain bits = bits
aired way.Inverted bits = map not bits

-- a digit of the sink's text as a digit of the report
abbrev pub told : Way → ℕ → ℕ
told way.Plain d = digit (said d)
told way.Inverted d = digit (not (said d))
