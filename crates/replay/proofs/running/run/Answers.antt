use Rattle.std.proofs.Common.{ap, ◌∙◌}
use Rattle.link.specs.Played.{exchanged, table_exchanged, marks_exchanged}
use Rattle.replay.proofs.Exchanges.{exchange_is}
use Rattle.replay.proofs.running.run.Goals as goal

pub returns-clause-table : goal.returns-clause-table
returns-clause-table c =
    let same = exchange_is c.args.script.now c.batch-batch.result c.args.calls.now c.args.table.now c.args.marks.now _ _ c.batch-batch.ensures.config c.batch-batch.ensures.sps c.batch-batch.ensures.calls c.batch-batch.ensures.fates c.new-text.ensures.room in
    c.pass.ensures.table ∙ ap table_exchanged same

pub returns-clause-marks : goal.returns-clause-marks
returns-clause-marks c =
    let same = exchange_is c.args.script.now c.batch-batch.result c.args.calls.now c.args.table.now c.args.marks.now _ _ c.batch-batch.ensures.config c.batch-batch.ensures.sps c.batch-batch.ensures.calls c.batch-batch.ensures.fates c.new-text.ensures.room in
    c.pass.ensures.marks ∙ ap marks_exchanged same
