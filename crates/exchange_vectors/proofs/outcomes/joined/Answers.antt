use Rattle.std.proofs.Common.{◌-◌, ◌<◌, ◌≤◌, ◌++◌, map, length, take, drop, sym, ap, ◌∙◌, rules}
use Rattle.exchange_vectors.specs.Outcomes.{each_behind}
use Rattle.exchange_vectors.proofs.Joining.{joined_none, joined_first}
use Rattle.exchange_vectors.proofs.outcomes.joined.Goals as goal

pub returns-in_default : goal.returns-in_default
returns-in_default g c =
    let none : length c.args.list.now < 1 = search rules in
    c.new.ensures.bytes ∙ sym (joined_none g.W.Worded.worded c.args.between.now c.args.list.now none)

pub returns : goal.returns
returns g c =
    let xs = c.args.list.now in
    let word = g.W.Worded.worded in
    let b = c.args.between.now in
    let some : 1 ≤ length xs = search rules in
    c.in_ok-push_each.ensures
    ∙ ap (λ t. t ++ each_behind b (map word (take (length xs - 1) (drop 1 xs)))) c.in_ok-line.ensures
    ∙ joined_first word b xs c.first-item.result some c.first-item.is
