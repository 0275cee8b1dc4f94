use Rattle.gnb.proofs.Sent.{sent_stands}
use Rattle.gnb.proofs.theorems.sent_stands.Goals as goal

pub returns : goal.returns
returns c = sent_stands
