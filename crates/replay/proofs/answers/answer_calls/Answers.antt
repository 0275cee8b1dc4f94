use Rattle.std.proofs.Common.{◌∙◌, arith}
use Rattle.replay.proofs.Exchanges.{answers_are}
use Rattle.replay.proofs.answers.answer_calls.Goals as goal

pub returns-clause-answers : goal.returns-clause-answers
returns-clause-answers c =
    answers_are c.args.script.now _ _ _ _ _ _ c.in_ok-answers.ensures.answers c.in_ok-numbering.ensures.answer (c.as_slice.ensures.value ∙ c.in_ok-sps.ensures) (omega (arith, c.in_ok-table.ensures.len, c.as_mut_slice-table.ensures.len)) c.requires
