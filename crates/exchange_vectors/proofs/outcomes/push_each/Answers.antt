use Rattle.std.proofs.Common.{[], ◌∷◌, ◌++◌, map, take, string_bytes, sym, ap, ◌∙◌}
use Rattle.std.proofs.lemmas.List.{map_more, take_all}
use Rattle.std.proofs.lemmas.Slice.{pushed}
use Rattle.exchange_vectors.specs.Outcomes.{each_behind}
use Rattle.exchange_vectors.proofs.Joining.{each_more, regroup}
use Rattle.exchange_vectors.proofs.outcomes.push_each.Goals as goal

pub loop-item-preserved : goal.loop-item-preserved
loop-item-preserved g c =
    let l = c.loop-item in
    let xs = c.args.list.now in
    let i = l.item-index in
    let word = g.W.Worded.worded in
    let b = c.args.between.now in
    let was = string_bytes c.args.line.now in
    let before = each_behind b (map word (take i xs)) in
    let w = word c.item-item.result in
    pushed _ (pushed b l.invariant c.in_ok-push_str.was c.push_str.ensures.bytes) c.in_ok-push_str-2.was c.push_str-in-loop-item.ensures.bytes
    ∙ ap (λ t. ((was ++ before) ++ b) ++ t) (c.as_str.ensures.value ∙ c.in_ok-word.ensures)
    ∙ regroup was before b w
    ∙ ap (λ t. was ++ t) (sym (each_more b (map word (take i xs)) w))
    ∙ ap (λ z. was ++ each_behind b (map word (take i xs) ++ word z ∷ [])) c.item-item.is
    ∙ ap (λ t. was ++ each_behind b t) (sym (map_more word xs i c.item-item.result c.loop-item-test.true))

pub returns : goal.returns
returns g c =
    c.loop-item.invariant ∙ ap (λ l. string_bytes c.args.line.now ++ each_behind c.args.between.now (map g.W.Worded.worded l)) (take_all c.loop-item.item-index c.args.list.now c.loop-item-test.false)
