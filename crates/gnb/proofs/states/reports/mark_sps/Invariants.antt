use Rattle.std.proofs.Common.{◌≡◌, ◌+◌, is_some}
use Rattle.gnb.specs.Readings.{bits_heard, firsts, mark_by}
use Rattle.gnb.proofs.states.reports.mark_sps.Given as goal

abbrev pub invariant-loop-i : goal.invariant-loop-i
invariant-loop-i l = l.marks ≡ firsts (λ i _. mark_by (is_some l.report) (bits_heard l.report) (l.start + i)) 0 l.i l.initial.marks
