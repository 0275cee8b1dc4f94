-- Digits in the line of a report. Assumes nothing.
use Rattle.std.proofs.Common.{◌≡◌, ℕ, Bool, true, ◌&&◌, [], ◌∷◌, map, refl, ap, ◌∙◌, arith}
use Rattle.std.proofs.lemmas.Bool.Decides.{nat_tests}
use Rattle.harq.specs.Words.{every}
use Rattle.trace.specs.Lines.{is_digit, shown_digit, DigitsShown}

both : (a b : Bool) → (a && b) ≡ true → (a ≡ true) × (b ≡ true)
both a b e = grind (arith, nat_tests)

same_digit : (d : ℕ) → is_digit d ≡ true → shown_digit d ≡ d
same_digit d e = grind (arith, nat_tests)

pub digits_shown : DigitsShown
digits_shown [] e = refl
digits_shown (d ∷ ds) e =
    let p = both (is_digit d) (every is_digit ds) e in ap (λ x. x ∷ map shown_digit ds) (same_digit d p.0) ∙ ap (λ l. d ∷ l) (digits_shown ds p.1)
