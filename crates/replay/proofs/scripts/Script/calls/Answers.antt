use Rattle.std.proofs.Common.{rules, tests}
use Rattle.std.proofs.lemmas.Iterator.{YieldsList-from_slice, YieldsList-from_map_by}
use Rattle.std.proofs.lemmas.Iterator.Consumers.{map_from_collect}
use Rattle.gnb.specs.Plans.{call_of}
use Rattle.replay.specs.Scripts.{asked}
use Rattle.replay.proofs.scripts.Script.calls.Goals as goal

pub returns : goal.returns
returns c =
    map_from_collect _ c.collect.ensures.ran
    (YieldsList-from_map_by _ call_of asked (YieldsList-from_slice c.args.self.now.requests.items cc) c.map.ensures.closure (λ x r q k. search (rules, tests)))
