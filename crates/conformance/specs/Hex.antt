-- Bytes in hexadecimal. Assumes nothing.
use Rattle.std.specs.Prelude.{ℕ, ◌+◌, ◌-◌, ◌*◌, Bool, cond, ◌&&◌, List, [], ◌∷◌, Some, None, codes, Option, nat_le}
use Rattle.std.specs.Str.{bytes_eq}

-- a character from one to another
abbrev pub from_to : ℕ → ℕ → ℕ → Bool
from_to low high c = nat_le low c && nat_le c high

-- `0` to `9`, `a` to `f` and `A` to `F`
abbrev pub digit_value : ℕ → Option ℕ
digit_value c = cond (from_to 48 57 c) (Some (c - 48)) (cond (from_to 97 102 c) (Some (c - 97 + 10)) (cond (from_to 65 70 c) (Some (c - 65 + 10)) None))

-- the high digit and the low one
abbrev pub both_digits : Option ℕ → Option ℕ → Option ℕ
both_digits None low = None
both_digits (Some high) None = None
both_digits (Some high) (Some low) = Some (high * 16 + low)

-- the byte that two digits write
abbrev pub byte_value : ℕ → ℕ → Option ℕ
byte_value high low = both_digits (digit_value high) (digit_value low)

-- a byte in front of the others
abbrev pub in_front : Option ℕ → Option (List ℕ) → Option (List ℕ)
in_front None others = None
in_front (Some b) None = None
in_front (Some b) (Some bs) = Some (b ∷ bs)

-- the bytes that the digits write, two for each
unfoldable pub hex_bytes : List ℕ → Option (List ℕ)
hex_bytes [] = Some []
hex_bytes (high ∷ []) = None
hex_bytes (high ∷ (low ∷ rest)) = in_front (byte_value high low) (hex_bytes rest)

-- the bytes of a file: `-` for none, else their digits
abbrev pub written_bytes : List ℕ → Option (List ℕ)
written_bytes text = cond (bytes_eq text []) None (cond (bytes_eq text (codes "-")) (Some []) (hex_bytes text))
