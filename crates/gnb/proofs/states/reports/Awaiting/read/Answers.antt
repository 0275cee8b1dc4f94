use Rattle.std.proofs.Common.{ap₂, is_some, ap, ◌∙◌, rules}
use Rattle.gnb.specs.Readings.{bits_heard, table_read, sps_read, counted}
use Rattle.gnb.proofs.Firsts.{table_heard, sps_heard}
use Rattle.gnb.proofs.states.reports.Awaiting.read.Goals as goal

pub returns-clause-answer : goal.returns-clause-answer
returns-clause-answer c =
    let b = c.args.self.batch in
    let t = c.args.table.now in
    let m = c.args.marks.now in
    let counts =
    c.settle.ensures.counts
    ∙ ap (λ r. counted b (table_read b (is_some r) (bits_heard r) t) (sps_read b (is_some r) (bits_heard r) m)) c.answered_by-report.ensures
    ∙ ap₂ (counted b) (table_heard b _ c.args.bytes t) (sps_heard b _ c.args.bytes m)
    in
    search rules
