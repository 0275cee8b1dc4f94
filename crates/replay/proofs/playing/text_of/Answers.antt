use Rattle.std.proofs.Common.{rules, tests}
use Rattle.std.proofs.lemmas.Iterator.{YieldsList-from_slice, YieldsList-from_map, text_from_collect}
use Rattle.replay.specs.Ways.{told}
use Rattle.replay.proofs.Exchanges.{told_text}
use Rattle.replay.proofs.playing.text_of.Goals as goal

pub returns : goal.returns
returns c =
    let w = c.args.way in
    told_text _ w c.args.digits.now
    (text_from_collect _ c.collect.ensures.ran
    (YieldsList-from_map _ (told w) (YieldsList-from_slice c.args.digits.now cc) c.map.ensures.closure (λ x r q k. search (rules, tests))))
