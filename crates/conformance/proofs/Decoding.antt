-- Decoding digit pairs from the front: what is left decides the rest.
use Rattle.std.proofs.Common.{◌≡◌, ℕ, ◌<◌, List, [], ◌∷◌, ◌++◌, length, get_or, Some, None, Option, sym, refl, ap, ◌∙◌, append_assoc, arith}
use Rattle.std.specs.Option.{option_map}
use Rattle.conformance.specs.Hex.{byte_value, in_front, hex_bytes}

-- the bytes `front`, and behind them what the digits `rest` write
abbrev pub behind : List ℕ → Option (List ℕ) → Option (List ℕ)
behind front o = option_map (λ bs. front ++ bs) o

hex_pair : (pair after : List ℕ) → length pair ≡ 2 → hex_bytes (pair ++ after) ≡ in_front (byte_value (get_or pair 0 0) (get_or pair 1 0)) (hex_bytes after)
unfolding hex_bytes
hex_pair [] after h = absurd (omega arith)
hex_pair (high ∷ []) after h = absurd (omega arith)
hex_pair (high ∷ (low ∷ [])) after h = refl
hex_pair (high ∷ (low ∷ (more ∷ rest))) after h = absurd (omega arith)

pub hex_one : (xs : List ℕ) → length xs < 2 → 0 < length xs → hex_bytes xs ≡ None
unfolding hex_bytes
hex_one [] h n = absurd (omega arith)
hex_one (high ∷ []) h n = refl
hex_one (high ∷ (low ∷ rest)) h n = absurd (omega arith)

pub hex_none : (xs : List ℕ) → length xs ≡ 0 → hex_bytes xs ≡ Some []
unfolding hex_bytes
hex_none [] h = refl
hex_none (x ∷ xs) h = absurd (omega arith)

behind_more : (front : List ℕ) (b : ℕ) (o : Option (List ℕ)) → behind front (in_front (Some b) o) ≡ behind (front ++ b ∷ []) o
behind_more front b None = refl
behind_more front b (Some bs) = ap Some (sym (append_assoc front (b ∷ []) bs))

-- a pair of digits, with the bytes `front` before it
module _ (text rest front pair after : List ℕ) (inv : hex_bytes text ≡ behind front (hex_bytes rest)) (split : rest ≡ pair ++ after) (two : length pair ≡ 2) (o : Option ℕ) (is : o ≡ byte_value (get_or pair 0 0) (get_or pair 1 0)) where
  pair_is : hex_bytes text ≡ behind front (in_front o (hex_bytes after))
  pair_is = inv ∙ ap (λ l. behind front (hex_bytes l)) split ∙ ap (behind front) (hex_pair pair after two ∙ ap (λ p. in_front p (hex_bytes after)) (sym is))

  -- one more byte
  pub pair_more : (next : List ℕ) (b : ℕ) → o ≡ Some b → next ≡ front ++ b ∷ [] → hex_bytes text ≡ behind next (hex_bytes after)
  pair_more next b some pushed =
      pair_is ∙ ap (λ p. behind front (in_front p (hex_bytes after))) some ∙ behind_more front b (hex_bytes after) ∙ ap (λ l. behind l (hex_bytes after)) (sym pushed)

  -- no byte
  pub pair_bad : o ≡ None → hex_bytes text ≡ None
  pair_bad none = pair_is ∙ ap (λ p. behind front (in_front p (hex_bytes after))) none
