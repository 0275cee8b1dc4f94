-- The bits of a run of bytes.
use Rattle.std.proofs.Common.{◌≡◌, ℕ, zero, suc, ◌+◌, ◌-◌, ◌*◌, ◌/◌, ◌%◌, ◌<◌, Bool, false, not, List, [], ◌∷◌, ◌++◌, map, length, get_or, take, drop, set, sym, refl, ap, ◌∙◌, arith}
use Rattle.std.proofs.lemmas.List.{set-append_left, set-append_right, get_or_append_left, get_or-append_right, length-append, length-take-le, length-drop, take-append-drop, nil_from_length, map-append}
use Rattle.sink.specs.Bits.{bit_of, byte_bits, bits_of, bytes_of}
use Rattle.sink.specs.Claims.{Bytes, PackedUnpacks, UnpackedPacks, BitsDetermine}
use Rattle.sink.proofs.Bytes.{byte_at, byte_flip, number_of_bits, bits_of_number}

pub length_bits : (xs : List ℕ) → length (bits_of xs) ≡ 8 * length xs
unfolding bits_of
length_bits [] = refl
length_bits (x ∷ xs) = let e = length-append (byte_bits x) (bits_of xs) in let r = length_bits xs in omega arith

-- a byte at q that differs in bit r
bits_set_at : (xs : List ℕ) (q r v : ℕ) (b : Bool) → q < length xs → r < 8 → byte_bits v ≡ set (byte_bits (get_or xs q 0)) r b → bits_of (set xs q v) ≡ set (bits_of xs) (8 * q + r) b
unfolding bits_of
bits_set_at [] q r v b h k e = absurd (omega arith)
bits_set_at (x ∷ xs) zero r v b h k e =
    let z : 8 * 0 + r ≡ r = omega arith in
    ap (λ y. y ++ bits_of xs) e ∙ sym (set-append_left (byte_bits x) (bits_of xs) r b k) ∙ ap (λ n. set (byte_bits x ++ bits_of xs) n b) (sym z)
bits_set_at (x ∷ xs) (suc q) r v b h k e =
    let z : 8 * suc q + r - 8 ≡ 8 * q + r = omega arith in
    ap (λ y. byte_bits x ++ y) (bits_set_at xs q r v b (omega arith) k e ∙ ap (λ n. set (bits_of xs) n b) (sym z))
    ∙ sym (set-append_right (byte_bits x) (bits_of xs) 8 (8 * suc q + r) b refl (omega arith))

-- bit i alone is set where its byte differs in that bit
pub bits_set : (xs : List ℕ) (i v : ℕ) (b : Bool) → i < 8 * length xs → byte_bits v ≡ set (byte_bits (get_or xs (i / 8) 0)) (i % 8) b → bits_of (set xs (i / 8) v) ≡ set (bits_of xs) i b
bits_set xs i v b h e =
    let z : 8 * (i / 8) + i % 8 ≡ i = omega arith in
    bits_set_at xs (i / 8) (i % 8) v b (omega arith) (omega arith) e ∙ ap (λ n. set (bits_of xs) n b) z

bit_at_parts : (xs : List ℕ) (q r : ℕ) → q < length xs → r < 8 → get_or (bits_of xs) (8 * q + r) false ≡ bit_of (get_or xs q 0) r
unfolding bits_of
bit_at_parts [] q r h k = absurd (omega arith)
bit_at_parts (x ∷ xs) zero r h k =
    let z : 8 * 0 + r ≡ r = omega arith in
    ap (λ n. get_or (byte_bits x ++ bits_of xs) n false) z ∙ get_or_append_left (byte_bits x) (bits_of xs) false r k ∙ byte_at x r k
bit_at_parts (x ∷ xs) (suc q) r h k =
    let z : 8 * suc q + r - 8 ≡ 8 * q + r = omega arith in
    get_or-append_right (byte_bits x) (bits_of xs) 8 (8 * suc q + r) false refl (omega arith) ∙ ap (λ n. get_or (bits_of xs) n false) z ∙ bit_at_parts xs q r (omega arith) k

-- bit i is in byte i / 8, i % 8 places from the top
pub bit_at : (xs : List ℕ) (i : ℕ) → i < 8 * length xs → get_or (bits_of xs) i false ≡ bit_of (get_or xs (i / 8) 0) (i % 8)
bit_at xs i h =
    let z : 8 * (i / 8) + i % 8 ≡ i = omega arith in
    ap (λ n. get_or (bits_of xs) n false) (sym z) ∙ bit_at_parts xs (i / 8) (i % 8) (omega arith) (omega arith)

-- bytes complemented have each bit flipped
pub bits_flip : (xs : List ℕ) → Bytes xs → bits_of (map (λ x. 255 - x) xs) ≡ map not (bits_of xs)
unfolding bits_of
bits_flip [] h = refl
bits_flip (x ∷ xs) h =
    ap (λ v. v ++ bits_of (map (λ y. 255 - y) xs)) (byte_flip x (h 0)) ∙ ap (λ v. map not (byte_bits x) ++ v) (bits_flip xs (λ i. h (suc i))) ∙ sym (map-append not (byte_bits x) (bits_of xs))

-- whole bytes of bits, packed, have those bits
pub packed_unpacks : PackedUnpacks
unfolding bits_of bytes_of
packed_unpacks zero bits l = sym (nil_from_length bits l)
packed_unpacks (suc n) bits l =
    let front = length-take-le 8 bits (omega arith) in
    let rest = length-drop 8 bits in
    ap (λ v. v ++ bits_of (bytes_of n (drop 8 bits))) (bits_of_number (take 8 bits) front)
    ∙ ap (λ v. take 8 bits ++ v) (packed_unpacks n (drop 8 bits) (omega arith))
    ∙ take-append-drop 8 bits

-- bytes are packed again from their bits
pub unpacked_packs : UnpackedPacks
unfolding bits_of bytes_of
unpacked_packs [] h = refl
unpacked_packs (x ∷ xs) h =
    ap (λ v. v ∷ bytes_of (length xs) (bits_of xs)) (number_of_bits x (h 0)) ∙ ap (λ v. x ∷ v) (unpacked_packs xs (λ i. h (suc i)))

-- bytes with the same bits are the same
pub bits_determine : BitsDetermine
bits_determine xs ys hx hy e =
    let l : length xs ≡ length ys = omega (arith, length_bits xs, length_bits ys, ap length e) in
    sym (unpacked_packs xs hx) ∙ ap (bytes_of (length xs)) e ∙ ap (λ n. bytes_of n (bits_of ys)) l ∙ unpacked_packs ys hy
