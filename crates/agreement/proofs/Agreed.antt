-- The cards agree, over the definitions of their calls. Assumes nothing.
use Rattle.std.proofs.Common.{◌≡◌, not, ◌++◌, map, sym, ap, ◌∙◌, subst}
use Rattle.std.proofs.lemmas.List.{append_cancel_left}
use Rattle.sink.proofs.Laws.{flip_back, flip_twice}
use Rattle.agreement.specs.Exchanges.{reported}
use Rattle.agreement.specs.Agreement.{Hold, CardsAgree, CardsAgreeInverted}
use Rattle.agreement.proofs.UeSide.{ue_side}
use Rattle.agreement.proofs.Cards.{agreement_by}

pub cards_agree : CardsAgree
cards_agree x before after gained bytes p grew gains held =
    let same : gained ≡ reported x = append_cancel_left before gained (reported x) (sym gains ∙ grew) in
    agreement_by x bytes p (ue_side x p) (subst (Hold bytes) same held)

pub cards_agree_inverted : CardsAgreeInverted
cards_agree_inverted x before after gained bytes p grew gains held =
    let flipped : after ≡ before ++ map not (reported x) = flip_back after before (reported x) grew in
    let same : map not gained ≡ reported x = ap (map not) (append_cancel_left before gained (map not (reported x)) (sym gains ∙ flipped)) ∙ flip_twice (reported x) in
    agreement_by x bytes p (ue_side x p) (subst (Hold bytes) same held)
