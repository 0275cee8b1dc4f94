-- What a DAI field says lies within the span. Assumes nothing.
use Rattle.std.proofs.Common.{◌≡◌, ℕ, ◌^◌, ◌<◌, ◌≤◌, true, ◌&&◌, ◌||◌, eqb, ltb, is_some, Some, None, Option, sym, subst, arith}
use Rattle.std.proofs.lemmas.Nat.{div_below, mod_below}
use Rattle.std.proofs.lemmas.Bool.{true≢false, ltb-true, cond-true, cond-false, cond_both, or_parts}
use Rattle.dai.specs.declared.Layout.{Layout}
use Rattle.dai.specs.declared.Layout.TheVariants.{One, Two, Four}
use Rattle.dai.specs.Fields as field
use Rattle.harq.specs.declared.configs.Config.{Config}
use Rattle.harq.specs.Words.{with_some}
use Rattle.harq.specs.Configs.{span, layout_wide, layout_of, read_dai}
use Rattle.ue.specs.Batches.{counter_read, total_read}

-- a total, if there is one
abbrev pub TotalWithin : ℕ → Option ℕ → Type 0
TotalWithin s None = Unit {0}
TotalWithin s (Some t) = (0 < t) × (t ≤ s)

-- the counter and the total that were read, if any were
abbrev pub ReadWithin : ℕ → Option (ℕ × Option ℕ) → Type 0
ReadWithin s None = Unit {0}
ReadWithin s (Some r) = ((0 < r.0) × (r.0 ≤ s)) × TotalWithin s r.1

-- the span of a layout, if there is one
abbrev Spans : ℕ → Option Layout → Type 0
Spans s None = Unit {0}
Spans s (Some l) = field.span l ≡ s

reading_within : (l : Layout) (f : ℕ) → f < 2 ^ field.width l → ReadWithin (field.span l) (Some (field.counter_in l f, field.total_in l f))
reading_within One f h = ((omega arith, omega arith), tt)
reading_within Two f h = ((omega arith, omega arith), tt)
reading_within Four f h = ((omega arith, omega (arith, div_below f 4 4 (omega arith) h)), (omega arith, omega (arith, mod_below f 4 (omega arith))))

module _ (g : Config) where
  wide_spans : Spans (span g) (layout_wide g.width)
  wide_spans =
      cond_both (eqb g.width 1) (Some One) _ (Spans (span g)) (λ e. sym (cond-true (eqb g.width 1) 2 4 e)) (λ e.
      let four : 4 ≡ span g = sym (cond-false (eqb g.width 1) 2 4 e) in
      cond_both (eqb g.width 2) (Some Two) _ (Spans (span g)) (λ _. four) (λ _.
      cond_both (eqb g.width 4) (Some Four) None (Spans (span g)) (λ _. four) (λ _. tt)))

  layout_spans : (format : ℕ) → Spans (span g) (layout_of g format)
  layout_spans format =
      cond_both (eqb format 2) (layout_wide g.width) _ (Spans (span g)) (λ _. wide_spans) (λ _.
      cond_both (ltb 2 format || eqb g.width 1) None _ (Spans (span g)) (λ _. tt) (λ e.
      let four : 4 ≡ span g = sym (cond-false (eqb g.width 1) 2 4 (or_parts _ _ e).1) in
      cond_both (eqb format 1 && ltb 1 g.cells) (Some Four) (Some Two) (Spans (span g)) (λ _. four) (λ _. four)))

  pub read_within : (format f : ℕ) → ReadWithin (span g) (read_dai g format f)
  read_within format f =
      let go : (o : Option Layout) → Spans (span g) o → ReadWithin (span g) (with_some o (λ l. field.reading l f)) =
      λ o. elim o as (λ (o : Option Layout). Spans (span g) o → ReadWithin (span g) (with_some o (λ l. field.reading l f))) [
        | None ↦ λ _. tt
        | Some l ↦ λ h. subst (λ (s : ℕ). ReadWithin s (field.reading l f)) h
            (cond_both (ltb f (2 ^ field.width l)) (Some (field.counter_in l f, field.total_in l f)) None (ReadWithin (field.span l))
            (λ e. reading_within l f (ltb-true _ _ e)) (λ _. tt))
      ]
      in
      go (layout_of g format) (layout_spans format)

pub counter_within : (s : ℕ) (o : Option (ℕ × Option ℕ)) → is_some o ≡ true → ReadWithin s o → (0 < counter_read o) × (counter_read o ≤ s)
counter_within s None some w = absurd (true≢false (sym some))
counter_within s (Some r) some w = w.0

pub total_within : (s : ℕ) (o : Option (ℕ × Option ℕ)) → ReadWithin s o → TotalWithin s (total_read o)
total_within s None w = tt
total_within s (Some r) w = w.1
