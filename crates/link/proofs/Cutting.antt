-- An SPS list that is too long is declined, wherever it is cut behind that. Assumes nothing.
use Rattle.std.proofs.Common.{◌≡◌, ℕ, ◌<◌, Bool, true, false, cond, not, ltb, List, length, take, is_some, Some, None, Option, sym, refl, ap, ◌∙◌, inl, inr, arith}
use Rattle.std.proofs.lemmas.List.{take_all, length-take-le}
use Rattle.std.proofs.lemmas.Bool.{cases_lt}
use Rattle.harq.specs.declared.configs.Config.{Config}
use Rattle.harq.specs.declared.refusals.Refusal.{Refusal}
use Rattle.harq.specs.declared.refusals.Refusal.TheVariants as why
use Rattle.harq.specs.declared.sps.SpsEntry.{SpsEntry}
use Rattle.harq.specs.Configs.{config_within}
use Rattle.harq.specs.SpsLists.{unfit_from}
use Rattle.harq.proofs.SpsWalk.{fit_few}
use Rattle.gnb.specs.declared.marks.Mark.{Mark}
use Rattle.gnb.specs.Opening.{opening_refused, opened_by, opened, marks_by, marks_opened}

module _ (g : Config) where
  long_unfit : (es : List SpsEntry) → 64 < length es → is_some (unfit_from (λ e. e) (λ _. true) g 0 None es) ≡ true
  long_unfit es long = go (unfit_from (λ e. e) (λ _. true) g 0 None es) refl
    where
      go : (o : Option ℕ) → unfit_from (λ e. e) (λ _. true) g 0 None es ≡ o → is_some o ≡ true
      go None e = absurd (omega (arith, fit_few (λ e. e) (λ _. true) g es 0 None (omega arith) e))
      go (Some i) e = refl

  -- by the configuration, or else by the list
  abbrev pub too_long : Option Refusal
  too_long = cond (not (config_within g)) (Some why.Configuration) (Some why.Sps)

  long_refused : (es : List SpsEntry) (marks : ℕ) → 64 < length es → opening_refused g es marks ≡ too_long
  long_refused es marks long =
      ap (λ (b : Bool). cond (not (config_within g)) (Some why.Configuration) (cond b (Some why.Sps) (cond (ltb marks (length es)) (Some why.Table) None))) (long_unfit es long)

  -- nothing of a list matters where it is declined
  refused_alike : (b : Bool) (es fs : List SpsEntry) →
      opened_by (cond b (Some why.Configuration) (Some why.Sps)) g es ≡ opened_by (cond b (Some why.Configuration) (Some why.Sps)) g fs
  refused_alike true es fs = refl
  refused_alike false es fs = refl

  kept_alike : (b : Bool) (m n : ℕ) (marks : List Mark) →
      marks_by (cond b (Some why.Configuration) (Some why.Sps)) m marks ≡ marks_by (cond b (Some why.Configuration) (Some why.Sps)) n marks
  kept_alike true m n marks = refl
  kept_alike false m n marks = refl

  module _ (es : List SpsEntry) where
    length_cut : 65 < length es → 64 < length (take 65 es)
    length_cut long = omega (arith, length-take-le 65 es (omega arith))

    pub opened_cut : (marks : ℕ) → opened g (take 65 es) marks ≡ opened g es marks
    opened_cut marks = elim (cases_lt 65 (length es)) [
      | inl long ↦
          ap (λ (o : Option Refusal). opened_by o g (take 65 es)) (long_refused (take 65 es) marks (length_cut long)) ∙ refused_alike (not (config_within g)) (take 65 es) es
          ∙ ap (λ (o : Option Refusal). opened_by o g es) (sym (long_refused es marks (omega arith)))
      | inr short ↦ ap (λ (l : List SpsEntry). opened g l marks) (take_all 65 es (omega arith))
    ]

    pub marks_cut : (marks : List Mark) → marks_opened g (take 65 es) marks ≡ marks_opened g es marks
    marks_cut marks = elim (cases_lt 65 (length es)) [
      | inl long ↦
          ap (λ (o : Option Refusal). marks_by o (length (take 65 es)) marks) (long_refused (take 65 es) (length marks) (length_cut long))
          ∙ kept_alike (not (config_within g)) (length (take 65 es)) (length es) marks
          ∙ ap (λ (o : Option Refusal). marks_by o (length es) marks) (sym (long_refused es (length marks) (omega arith)))
      | inr short ↦ ap (λ (l : List SpsEntry). marks_opened g l marks) (take_all 65 es (omega arith))
    ]
