use Rattle.std.proofs.Common.{map, arith}
use Rattle.std.proofs.lemmas.Bool.{ltb-true, lt-ltb}
use Rattle.harq.proofs.Runs.{runs_short_longest}
use Rattle.scenario.specs.Arrived.{arrived}
use Rattle.scenario.proofs.losses.runs_short.Goals as goal

pub returns : goal.returns
returns c =
    let e = c.longest_run.ensures.long in
    let law = runs_short_longest c.args.span (map arrived c.args.sent.now) in (
      λ t. law.1 (omega (arith, e, ltb-true _ _ t)),
      λ s. lt-ltb _ _ (omega (arith, e, law.0 s)),
    )
