use Rattle.ue.proofs.Clause.{report_stands}
use Rattle.ue.proofs.theorems.report_stands.Goals as goal

pub returns : goal.returns
returns c = report_stands
