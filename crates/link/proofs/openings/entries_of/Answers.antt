use Rattle.std.proofs.Common.{map, take, ◌∙◌, sym, arith, rules}
use Rattle.std.proofs.lemmas.Iterator.{YieldsList-from_slice, YieldsList-from_take, YieldsList-from_map}
use Rattle.std.proofs.lemmas.List.{take-map, length-take, length-map}
use Rattle.ue.specs.declared.arrivals.SpsOutcome.{SpsOutcome}
use Rattle.link.proofs.Filling.{filled}
use Rattle.link.proofs.openings.entries_of.Goals as goal

pub returns : goal.returns
returns c =
    let sps = c.args.sps.now in
    let entry = λ (s : SpsOutcome). s.entry in
    filled c.new-entries.result.items c.extend.new.self.items c.new-entries.ensures c.extend.result 65 c.extend.ensures.ran c.extend.ensures.full (map entry (take 65 sps))
    (omega (arith, length-map (take 65 sps) entry, length-take 65 sps))
    (YieldsList-from_map _ entry (YieldsList-from_take 65 (YieldsList-from_slice sps cc) cc) c.map.ensures.closure (λ x r q k. search rules))
    ∙ sym (take-map entry 65 sps)
