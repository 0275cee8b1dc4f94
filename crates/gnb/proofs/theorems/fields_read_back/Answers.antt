use Rattle.gnb.proofs.ReadBack.{fields_read_back}
use Rattle.gnb.proofs.theorems.fields_read_back.Goals as goal

pub returns : goal.returns
returns c = fields_read_back
