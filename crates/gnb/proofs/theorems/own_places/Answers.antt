use Rattle.gnb.proofs.Entries.{own_places}
use Rattle.gnb.proofs.theorems.own_places.Goals as goal

pub returns : goal.returns
returns c = own_places
