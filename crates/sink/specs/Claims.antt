-- What is claimed of packing, of digits and of writing. Assumes nothing.
use Rattle.std.specs.Prelude.{◌≡◌, ℕ, ◌+◌, ◌*◌, ◌<◌, ◌≤◌, Bool, false, ◌⊎◌, List, length, Some, slice_index, slice_index_or}
use Rattle.sink.specs.Bits.{bits_of, bytes_of, bit_read}
use Rattle.sink.specs.Digits.{digit, said}
use Rattle.sink.specs.Written.{written}
use Rattle.sink.specs.Ends.{packed_room, PackedTook, text_room, TextTook}
use Rattle.sink.specs.declared.packed.PackedBits.{PackedBits}
use Rattle.sink.specs.declared.digits.TextBits.{TextBits}

-- each number is a byte
abbrev pub Bytes : List ℕ → Type 0
Bytes xs = (i : ℕ) → slice_index xs i < 256

-- whole bytes of bits, packed, have those bits
abbrev pub PackedUnpacks : Type 0
PackedUnpacks = (n : ℕ) (bits : List Bool) → length bits ≡ 8 * n → bits_of (bytes_of n bits) ≡ bits

-- bytes are packed again from their bits
abbrev pub UnpackedPacks : Type 0
UnpackedPacks = (bytes : List ℕ) → Bytes bytes → bytes_of (length bytes) (bits_of bytes) ≡ bytes

-- bytes with the same bits are the same
abbrev pub BitsDetermine : Type 0
BitsDetermine = (xs ys : List ℕ) → Bytes xs → Bytes ys → bits_of xs ≡ bits_of ys → xs ≡ ys

-- a place k outside the n places from i on
abbrev pub Outside : ℕ → ℕ → ℕ → Type 0
Outside i n k = (k < i) ⊎ (i + n ≤ k)

-- at the written places stands what was written, elsewhere what stood there, and nothing more
abbrev pub WrittenReads : Type 0 → Type 0
WrittenReads A =
    (xs ys : List A) (i : ℕ) (d : A) → i + length ys ≤ length xs →
    (length (written xs i ys) ≡ length xs)
    × ((k : ℕ) → k < length ys → slice_index_or (written xs i ys) (i + k) d ≡ slice_index_or ys k d)
    × ((k : ℕ) → Outside i (length ys) k → slice_index_or (written xs i ys) k d ≡ slice_index_or xs k d)

-- what a packed sink took is read back bit for bit from its bytes, and every other bit is as it was
abbrev pub PackedReads : Type 0
PackedReads =
    (s t : PackedBits) (bits : List Bool) → length bits ≤ packed_room s → PackedTook s bits t →
    ((k : ℕ) → k < length bits → bit_read t.bytes.now (s.used + k) ≡ Some (slice_index_or bits k false))
    × ((k : ℕ) → Outside s.used (length bits) k → bit_read t.bytes.now k ≡ bit_read s.bytes.now k)

-- a digit says its bit
abbrev pub DigitSays : Type 0
DigitSays = (bit : Bool) → said (digit bit) ≡ bit

-- '0' and '1' are the digits of what they say
abbrev pub SaidDigit : Type 0
SaidDigit = (byte : ℕ) → (byte ≡ 48) ⊎ (byte ≡ 49) → digit (said byte) ≡ byte

-- what a text sink took is said by its bytes, and every other byte is as it was
abbrev pub TextReads : Type 0
TextReads =
    (s t : TextBits) (bits : List Bool) → length bits ≤ text_room s → TextTook s bits t →
    ((k : ℕ) → k < length bits → slice_index t.bytes.now (s.used + k) ≡ digit (slice_index_or bits k false))
    × ((k : ℕ) → Outside s.used (length bits) k → slice_index t.bytes.now k ≡ slice_index s.bytes.now k)
