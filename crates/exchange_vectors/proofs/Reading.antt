-- Reading numbers from the front: what is left decides the rest.
use Rattle.std.proofs.Common.{◌≡◌, ℕ, ◌+◌, ◌<◌, ◌≤◌, true, false, cond, eqb, List, [], ◌∷◌, ◌++◌, length, get_or, drop, Some, None, Ok, Option, sym, refl, ap, ◌∙◌, append_assoc, arith}
use Rattle.std.proofs.lemmas.List.{drop_more}
use Rattle.std.specs.Option.{option_map}
use Rattle.exchange_vectors.specs.Numbers.{in_front, if_some, with_digit, at_end, numbers_from, first_in}

-- the numbers `front`, and behind them the others
abbrev pub behind : List ℕ → Option (List ℕ) → Option (List ℕ)
behind front o = option_map (λ ns. front ++ ns) o

pub behind_more : (front : List ℕ) (n : ℕ) (o : Option (List ℕ)) → behind front (in_front (Some n) o) ≡ behind (front ++ n ∷ []) o
behind_more front n None = refl
behind_more front n (Some ns) = ap Some (sym (append_assoc front (n ∷ []) ns))

module _ (number : Option ℕ) (text : List ℕ) (i : ℕ) (inside : i < length text) where
  -- a number ends
  pub at_space : eqb (get_or text i 0) 32 ≡ true → numbers_from number (drop i text) ≡ in_front number (numbers_from None (drop (i + 1) text))
  unfolding numbers_from
  at_space is =
      ap (numbers_from number) (drop_more text i 0 inside)
      ∙ ap (λ b. cond b (in_front number (numbers_from None (drop (i + 1) text))) (if_some (with_digit number (get_or text i 0)) (λ n. numbers_from (Some n) (drop (i + 1) text)))) is

  -- a number goes on
  pub at_other : eqb (get_or text i 0) 32 ≡ false → numbers_from number (drop i text) ≡ if_some (with_digit number (get_or text i 0)) (λ n. numbers_from (Some n) (drop (i + 1) text))
  unfolding numbers_from
  at_other is =
      ap (numbers_from number) (drop_more text i 0 inside)
      ∙ ap (λ b. cond b (in_front number (numbers_from None (drop (i + 1) text))) (if_some (with_digit number (get_or text i 0)) (λ n. numbers_from (Some n) (drop (i + 1) text)))) is

-- the text ends
pub at_last : (number : Option ℕ) (text : List ℕ) (i : ℕ) → drop i text ≡ [] → numbers_from number (drop i text) ≡ at_end number
unfolding numbers_from
at_last number text i none = ap (numbers_from number) none

pub first_is : (xs : List ℕ) → 1 ≤ length xs → Ok (get_or xs 0 0) ≡ first_in xs
first_is [] h = absurd (omega arith)
first_is (x ∷ xs) h = refl
