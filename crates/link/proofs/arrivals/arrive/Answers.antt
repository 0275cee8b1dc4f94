use Rattle.std.proofs.Common.{length, ap, ◌∙◌, arith, rules}
use Rattle.std.proofs.lemmas.Iterator.{YieldsList-from_slice}
use Rattle.std.proofs.lemmas.Iterator.Consumers.{YieldsList-from_filter_map}
use Rattle.link.proofs.Arriving.{arrival_in, arrivals_in, few_arrive}
use Rattle.link.proofs.Filling.{filled}
use Rattle.link.proofs.arrivals.arrive.Goals as goal

pub returns : goal.returns
returns c =
    let fates = c.args.fates.now in
    let entries = c.args.entries.now in
    filled c.args.arrivals.now.items c.extend.new.self.items c.requires.empty c.extend.result 512 c.extend.ensures.ran c.extend.ensures.full _
    (omega (arith, few_arrive fates entries, ap length (arrivals_in fates entries), c.requires.fits))
    (YieldsList-from_filter_map _ (arrival_in fates) (YieldsList-from_slice entries cc) c.filter_map.ensures.closure (λ x r q k. search rules))
    ∙ arrivals_in fates entries
