use Rattle.std.proofs.Common.{◌≡◌, ℕ, List, Result, refl, subst, rules}
use Rattle.std.proofs.lemmas.Fn.{fold_over, slice_gives, fronts}
use Rattle.harq.specs.declared.refusals.Refusal.{Refusal}
use Rattle.replay.specs.Answers.{numbered_from}
use Rattle.replay.proofs.Answering.{numbered_one}
use Rattle.replay.proofs.answers.numbered_after.Goals as goal

pub returns : goal.returns
returns c =
    subst (λ (l : List (Result ℕ Refusal)). c.fold.result ≡ numbered_from 0 l) c.iter.ensures.rest
    (fold_over fronts (λ y. y.now) _ (λ ys n. n ≡ numbered_from 0 ys) _ (λ ys a x b f' j k. (numbered_one ys x.now a b j (search rules), search rules))
    _ _ _ _ (slice_gives c.iter.result) refl c.fold.ensures.ran)
