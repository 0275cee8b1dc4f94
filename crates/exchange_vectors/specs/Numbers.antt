-- Texts of numbers, apart by one space, and what is left of a list of numbers. Assumes nothing.
use Rattle.std.specs.Prelude.{ℕ, ◌+◌, ◌-◌, ◌*◌, ◌^◌, Bool, cond, ◌&&◌, List, [], ◌∷◌, Some, None, Ok, Err, Option, Result, ◌==◌, nat_le, nat_lt}
use Rattle.std.specs.Option.{unwrap_or}
use Rattle.exchange_vectors.specs.declared.failures.Failure.{Failure}
use Rattle.exchange_vectors.specs.declared.failures.Failure.TheVariants as failure

-- a character from one to another
abbrev pub from_to : ℕ → ℕ → ℕ → Bool
from_to low high c = nat_le low c && nat_le c high

-- a number in front of the others
abbrev pub in_front : Option ℕ → Option (List ℕ) → Option (List ℕ)
in_front None others = None
in_front (Some n) None = None
in_front (Some n) (Some ns) = Some (n ∷ ns)

-- `0` to `9`
abbrev pub decimal_value : ℕ → Option ℕ
decimal_value c = cond (from_to 48 57 c) (Some (c - 48)) None

-- a number of 32 bits
abbrev pub if_small : ℕ → Option ℕ
if_small n = cond (nat_lt n (2 ^ 32)) (Some n) None

-- what comes of the value, if there is one
abbrev pub if_some : {X : Type 0} → Option ℕ → (ℕ → Option X) → Option X
if_some None f = None
if_some (Some n) f = f n

-- a digit more behind what has been read of a number
abbrev pub with_digit : Option ℕ → ℕ → Option ℕ
with_digit number c = if_some (decimal_value c) (λ digit. if_small (unwrap_or number 0 * 10 + digit))

-- the last number ends with the text
abbrev pub at_end : Option ℕ → Option (List ℕ)
at_end None = None
at_end (Some n) = Some (n ∷ [])

-- the numbers of a text, where `number` is what has been read of the first
unfoldable pub numbers_from : Option ℕ → List ℕ → Option (List ℕ)
numbers_from number [] = at_end number
numbers_from number (c ∷ cs) =
    cond (c == 32) (in_front number (numbers_from None cs)) (if_some (with_digit number c) (λ n. numbers_from (Some n) cs))

-- the numbers of a text, none where it is not such
abbrev pub numbers_in : List ℕ → Option (List ℕ)
numbers_in text = numbers_from None text

-- the first of what is left
abbrev pub first_in : List ℕ → Result ℕ Failure
first_in [] = Err failure.Unreadable
first_in (n ∷ ns) = Ok n
