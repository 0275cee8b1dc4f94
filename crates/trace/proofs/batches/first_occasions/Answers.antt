use Rattle.std.proofs.Common.{◌<◌, ap, ◌∙◌, arith}
use Rattle.std.proofs.lemmas.List.{length-set}
use Rattle.trace.specs.Batches.{or_zero}
use Rattle.trace.proofs.Occasions.{occasions_more, occasions_all}
use Rattle.trace.proofs.batches.first_occasions.Goals as goal

pub loop-occasion-preserved : goal.loop-occasion-preserved
loop-occasion-preserved c =
    let l = c.loop-occasion in
    let few : l.occasion-index < 16 = omega (arith, c.loop-occasion-test.true) in (
      simp length-set (omega arith),
      occasions_more l.occasion-items c.args.bytes.now _ l.occasion-index l.at l.invariant.0 l.invariant.1 c.unwrap_or-number.result few (c.unwrap_or-number.ensures ∙ ap (or_zero l.at) c.read_number.ensures.value),
    )

pub returns : goal.returns
returns c =
    let l = c.loop-occasion in
    occasions_all l.occasion-items c.args.bytes.now _ l.occasion-index l.at l.invariant.0 l.invariant.1 (omega arith)
