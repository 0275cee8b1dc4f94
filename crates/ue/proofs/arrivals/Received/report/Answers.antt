use Rattle.std.proofs.Common.{length}
use Rattle.ue.proofs.Clause.{gained_stands}
use Rattle.ue.proofs.arrivals.Received.report.Goals as goal

pub returns-clause-clause : goal.returns-clause-clause
returns-clause-clause g c =
    let e = c.in_ok-report_located.ensures in
    gained_stands c.args.self.now.config.now c.args.self.now.arrivals.now c.args.self.now.sps.now (length c.args.slots.now) _ _ _ _ e.answer e.gains.list
