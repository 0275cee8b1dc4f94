use Rattle.harq.proofs.Standing.{placing_stands, nothing_lost}
use Rattle.harq.proofs.placing.placing_stands.Goals as goal

pub returns : goal.returns
returns c = record { stands = placing_stands; whole = nothing_lost }
