use Rattle.std.proofs.Common.{rules, tests, sym, ◌∙◌}
use Rattle.std.proofs.lemmas.Result.{IfOk-weaker}
use Rattle.std.proofs.lemmas.Iterator.{YieldsList-from_slice, YieldsList-from_map, items_from_collect}
use Rattle.std.proofs.lemmas.Iterator.Consumers.{YieldsList-at, YieldsList-from_filter}
use Rattle.trace.proofs.Said.{offsets_under}
use Rattle.trace.proofs.batches.offsets_of.Goals as goal

pub returns : goal.returns
returns g c =
    let kept = YieldsList-from_filter _ _ (YieldsList-from_slice c.args.records.now cc) c.filter.ensures.closure (λ x r q k. search (rules, tests)) in
    let all = YieldsList-from_map _ _ (YieldsList-at c.map.ensures.source kept) c.map.ensures.closure (λ x r q k. search rules) in
    IfOk-weaker c.collect.result _ _ (λ v e. e ∙ sym (offsets_under g.T.FromRecord.said c.args.records.now)) (items_from_collect c.collect.result c.collect.ensures.ran all)
