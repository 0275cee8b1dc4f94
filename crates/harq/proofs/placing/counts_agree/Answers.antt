use Rattle.harq.proofs.Agreement.{counts_agree}
use Rattle.harq.proofs.placing.counts_agree.Goals as goal

pub returns : goal.returns
returns c = counts_agree
