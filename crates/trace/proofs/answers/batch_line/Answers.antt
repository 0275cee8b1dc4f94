use Rattle.std.proofs.Common.{replicate, refl, ◌∙◌}
use Rattle.std.proofs.lemmas.Result.{IfOk-weaker}
use Rattle.trace.specs.Batches.{held}
use Rattle.trace.proofs.Answering.{line_shown}
use Rattle.trace.proofs.answers.batch_line.Goals as goal

pub returns-in-Ok : goal.returns-in-Ok
returns-in-Ok c =
    let line = line_shown (held c.args.batch.now) c.args.end c.in-Ok.length (replicate 1706 48) _ c.in-Ok.ensures.answer refl c.in-Ok.ensures.digits in
    IfOk-weaker c.report_line.result _ _ (λ s e. e ∙ line) c.report_line.ensures
