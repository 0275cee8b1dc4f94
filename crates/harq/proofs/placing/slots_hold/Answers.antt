use Rattle.harq.proofs.Writing.{slots_hold}
use Rattle.harq.proofs.placing.slots_hold.Goals as goal

pub returns : goal.returns
returns g c = slots_hold _
