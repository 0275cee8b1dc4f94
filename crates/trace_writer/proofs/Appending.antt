-- What is written piece by piece, and how long it is. Assumes nothing.
use Rattle.std.proofs.Common.{◌≡◌, ℕ, zero, suc, ◌+◌, ◌*◌, ◌/◌, ◌^◌, ◌<◌, ◌≤◌, List, [], ◌∷◌, ◌++◌, length, get_or, take, sym, ap, ◌∙◌, ⊎_elim, append_assoc, arith, length-append}
use Rattle.std.specs.List.{flat_map}
use Rattle.std.proofs.lemmas.Bool.{cases_lt}
use Rattle.trace_writer.specs.Coding.{coded_by, coded}
use Rattle.trace_writer.proofs.RoundTrip.{coded_short, coded_long}

-- three pieces behind something
pub three_pieces : (o a b c x y z : List ℕ) → a ≡ o ++ x → b ≡ a ++ y → c ≡ b ++ z → c ≡ o ++ (x ++ (y ++ z))
three_pieces o a b c x y z p q r =
    r ∙ ap (λ l. l ++ z) (q ∙ ap (λ l. l ++ y) p) ∙ append_assoc (o ++ x) y z ∙ append_assoc o x (y ++ z)

-- a number takes one byte at least, and at most five
pub length_coded_by : (n v : ℕ) → (0 < length (coded_by n v)) × (length (coded_by n v) ≤ n + 1)
length_coded_by zero v = (omega arith, omega arith)
length_coded_by (suc n) v =
    ⊎_elim
    (λ lt. let e = ap length (coded_short (suc n) v lt) in (omega arith, omega arith))
    (λ le. let e = ap length (coded_long n v le) in let more = length_coded_by n (v / 128) in (omega arith, omega arith))
    (cases_lt v 128)

pub length_coded : (v : ℕ) → (0 < length (coded v)) × (length (coded v) ≤ 5)
unfolding coded
length_coded v = length_coded_by 4 v

pub length_numbers : (vs : List ℕ) → length (flat_map coded vs) ≤ 5 * length vs
length_numbers [] = omega arith
length_numbers (v ∷ vs) = omega (arith, length-append (coded v) (flat_map coded vs), length_numbers vs, length_coded v)

-- a body of numbers and something behind them
module _ (none numbers items vs y : List ℕ) where
  pub body_is : none ≡ [] → (ws : List ℕ) → numbers ≡ none ++ flat_map coded ws → ws ≡ vs → items ≡ numbers ++ y → items ≡ flat_map coded vs ++ y
  body_is z ws p w q = q ∙ ap (λ l. l ++ y) (p ∙ ap (λ l. l ++ flat_map coded ws) z ∙ ap (flat_map coded) w)

  pub body_short : (n : ℕ) → n ≡ length items → items ≡ flat_map coded vs ++ y → 5 * length vs + length y < 2 ^ 32 → n < 2 ^ 32
  body_short n l e h = omega (arith, ap length e, length-append (flat_map coded vs) y, length_numbers vs)
