use Rattle.std.proofs.Common.{◌≡◌, ◌-◌, ◌++◌, length, take}
use Rattle.trace.specs.Batches.{numbers_from}
use Rattle.trace.proofs.batches.first_occasions.Given as goal

abbrev pub invariant-loop-occasion : goal.invariant-loop-occasion
invariant-loop-occasion l =
    (length l.occasion-items ≡ 16) × (take l.occasion-index l.occasion-items ++ numbers_from (16 - l.occasion-index) l.bytes l.at ≡ numbers_from 16 l.bytes 0)
