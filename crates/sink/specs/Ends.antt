-- What the two end sinks mean: their bits, their room, and what their lent memory holds. Assumes nothing.
use Rattle.std.specs.Prelude.{ℕ, ◌-◌, ◌*◌, min, Bool, List, map, length, take}
use Rattle.sink.specs.Bits.{bits_of}
use Rattle.sink.specs.Digits.{digit, said}
use Rattle.sink.specs.Written.{Laid}
use Rattle.sink.specs.declared.packed.PackedBits.{PackedBits}
use Rattle.sink.specs.declared.digits.TextBits.{TextBits}

-- how many bits go into that many bytes: only the first 65,536 count
abbrev pub capacity : ℕ → ℕ
capacity bytes = 8 * min 65536 bytes

abbrev pub packed_taken : PackedBits → List Bool
packed_taken s = take s.used (bits_of s.bytes.now)

abbrev pub packed_room : PackedBits → ℕ
packed_room s = capacity (length s.bytes.now) - s.used

-- the bits were written next over those of the same bytes
abbrev pub PackedTook : PackedBits → List Bool → PackedBits → Type 0
PackedTook s bits t = Laid s.bytes.ghost_name (bits_of s.bytes.now) s.used bits t.bytes.ghost_name (bits_of t.bytes.now) t.used

abbrev pub text_taken : TextBits → List Bool
text_taken s = map said (take s.used s.bytes.now)

abbrev pub text_room : TextBits → ℕ
text_room s = length s.bytes.now - s.used

-- the digits were written next over the same bytes
abbrev pub TextTook : TextBits → List Bool → TextBits → Type 0
TextTook s bits t = Laid s.bytes.ghost_name s.bytes.now s.used (map digit bits) t.bytes.ghost_name t.bytes.now t.used
