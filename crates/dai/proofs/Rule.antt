-- A table that passes the test follows the rule, whatever its span.
use Rattle.std.proofs.Common.{◌≡◌, ℕ, zero, suc, ◌+◌, ◌<◌, true, eqb, List, [], ◌∷◌, length, get_or, refl, ◌∙◌, le_of_suc-le-suc, not-suc-le-zero, arith}
use Rattle.std.proofs.lemmas.Bool.{and_parts, eqb-true}
use Rattle.dai.specs.Values.{value, code}
use Rattle.dai.specs.Tables.{counts_up, follows, FollowsRule}
use Rattle.dai.proofs.Spans.{value_within}

counted : (v : ℕ) (table : List ℕ) → counts_up v table ≡ true → (c : ℕ) → c < length table → get_or table c 0 ≡ c + v
counted v [] test c h = absurd (not-suc-le-zero h)
counted v (x ∷ xs) test zero h = eqb-true x v (and_parts (eqb x v) (counts_up (v + 1) xs) test).0 ∙ omega arith
counted v (x ∷ xs) test (suc c) h =
    counted (v + 1) xs (and_parts (eqb x v) (counts_up (v + 1) xs) test).1 c (le_of_suc-le-suc h) ∙ omega arith

pub ruled : (table : List ℕ) → follows table ≡ true → 0 < length table → FollowsRule (length table) table
ruled table test some = (
  refl,
  counted 1 table test,
  λ number. let least = value_within (length table) number some in counted 1 table test (code (value (length table) number)) (omega arith) ∙ omega arith,
)
