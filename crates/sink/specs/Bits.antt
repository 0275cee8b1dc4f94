-- Bytes as bits, the top bit of the first byte first. Assumes nothing.
use Rattle.std.specs.Prelude.{ℕ, zero, suc, ◌+◌, ◌-◌, ◌*◌, ◌/◌, ◌%◌, ◌^◌, Bool, false, cond, List, [], ◌∷◌, ◌++◌, map, length, take, drop, Some, None, Option, ◌==◌, nat_lt, slice_index_or}

-- bit k of a byte, counted from the top
abbrev pub bit_of : ℕ → ℕ → Bool
bit_of byte k = byte / 2 ^ (7 - k) % 2 == 1

-- the places of a byte's bits, the top one first
abbrev pub places : List ℕ
places = 0 ∷ (1 ∷ (2 ∷ (3 ∷ (4 ∷ (5 ∷ (6 ∷ (7 ∷ [])))))))

-- the eight bits of a byte
abbrev pub byte_bits : ℕ → List Bool
byte_bits byte = map (bit_of byte) places

-- the bits of a run of bytes
unfoldable pub bits_of : List ℕ → List Bool
bits_of [] = []
bits_of (byte ∷ bytes) = byte_bits byte ++ bits_of bytes

-- the number that bits say behind a number, the top bit first
abbrev pub number_from : ℕ → List Bool → ℕ
number_from n [] = n
number_from n (bit ∷ bits) = number_from (cond bit (2 * n + 1) (2 * n)) bits

-- n bytes packed from bits
unfoldable pub bytes_of : ℕ → List Bool → List ℕ
bytes_of zero bits = []
bytes_of (suc n) bits = number_from 0 (take 8 bits) ∷ bytes_of n (drop 8 bits)

-- the bit at that index, none past the end
abbrev pub bit_read : List ℕ → ℕ → Option Bool
bit_read bytes index = cond (nat_lt index (8 * length bytes)) (Some (slice_index_or (bits_of bytes) index false)) None
