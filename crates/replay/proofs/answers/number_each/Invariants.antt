use Rattle.std.proofs.Common.{◌≡◌, ◌≤◌, ◌++◌, map, length, drop, vec_items}
use Rattle.gnb.specs.Plans.{call_of}
use Rattle.replay.specs.Answers.{answers_from}
use Rattle.replay.proofs.answers.number_each.Given as goal

abbrev pub invariant-loop-call : goal.invariant-loop-call
invariant-loop-call l =
    (vec_items l.answers ++ answers_from l.numbering.batch (length l.table) (map call_of (drop l.call-index l.calls))
    ≡ answers_from l.initial.numbering.batch (length l.initial.table) (map call_of l.calls))
    × (l.numbering.batch.numbered ≤ length l.table) × (l.numbering.batch.sps ≡ l.initial.numbering.batch.sps)
