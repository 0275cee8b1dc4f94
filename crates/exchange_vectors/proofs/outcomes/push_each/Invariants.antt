use Rattle.std.proofs.Common.{◌≡◌, ◌++◌, map, take, string_bytes}
use Rattle.exchange_vectors.specs.Outcomes.{each_behind}
use Rattle.exchange_vectors.proofs.outcomes.push_each.Given as goal

abbrev pub invariant-loop-item : goal.invariant-loop-item
invariant-loop-item g l =
    string_bytes l.line ≡ string_bytes l.initial.line ++ each_behind l.between (map g.W.Worded.worded (take l.item-index l.list))
