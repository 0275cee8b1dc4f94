use Rattle.std.proofs.Common.{◌≡◌, ◌+◌, ◌*◌, ◌≤◌, drop}
use Rattle.harq.specs.Words.{all_of}
use Rattle.gnb.specs.Readings.{marks_in, with_marks, marked}
use Rattle.gnb.proofs.counts.Counts.with_all.Given as goal

abbrev pub invariant-loop-item : goal.invariant-loop-item
invariant-loop-item g l =
    (with_marks l.counts (all_of (λ x. marks_in (g.T.Marked.marks_of x)) (drop l.item-index l.items)) ≡ with_marks l.fn.self (all_of (λ x. marks_in (g.T.Marked.marks_of x)) l.items)) ×
    (marked l.counts ≤ marked l.fn.self + 2 * l.item-index)
