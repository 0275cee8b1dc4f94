use Rattle.agreement.proofs.Agreed.{cards_agree, cards_agree_inverted}
use Rattle.agreement.proofs.theorems.cards_agree.Goals as goal

pub returns : goal.returns
returns c = record { plain = cards_agree; inverted = cards_agree_inverted }
