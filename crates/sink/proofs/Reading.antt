-- What is read back from memory that was written.
use Rattle.std.proofs.Common.{◌≡◌, ℕ, ◌+◌, ◌*◌, ◌<◌, true, false, cond, ltb, List, length, get_or, Some, None, sym, refl, ap, ◌∙◌, ⊎_elim, arith}
use Rattle.std.proofs.lemmas.List.{length-map, get_or-map}
use Rattle.std.proofs.lemmas.Bool.{lt-ltb, cond-true}
use Rattle.sink.specs.Bits.{bits_of, bit_read}
use Rattle.sink.specs.Digits.{digit, said}
use Rattle.sink.specs.Written.{written, Laid}
use Rattle.sink.specs.Claims.{Outside, WrittenReads, PackedReads, DigitSays, SaidDigit, TextReads}
use Rattle.sink.proofs.Packing.{length_bits}
use Rattle.sink.proofs.Writing.{length_written, written_before, written_inside, written_behind}

-- elsewhere all is as it was
pub written_outside : {A : Type 0} (xs : List A) (i : ℕ) (ys : List A) (k : ℕ) (d : A) → Outside i (length ys) k → get_or (written xs i ys) k d ≡ get_or xs k d
written_outside xs i ys k d = ⊎_elim (written_before xs i ys k d) (written_behind xs i ys k d)

pub written_reads : {A : Type 0} → WrittenReads A
written_reads xs ys i d h = (length_written xs i ys, λ k l. written_inside xs i ys k d l (omega arith), λ k. written_outside xs i ys k d)

-- what was laid stands where it was laid
pub laid_inside : {A : Type 0} (l l' : ℕ) (xs xs' : List A) (n n' : ℕ) (ys : List A) → Laid l xs n ys l' xs' n' → (k : ℕ) (d : A) → k < length ys → n + k < length xs → get_or xs' (n + k) d ≡ get_or ys k d
laid_inside l l' xs xs' n n' ys a k d h w = ap (λ v. get_or v (n + k) d) a.holds ∙ written_inside xs n ys k d h w

-- and all else is as it was
pub laid_outside : {A : Type 0} (l l' : ℕ) (xs xs' : List A) (n n' : ℕ) (ys : List A) → Laid l xs n ys l' xs' n' → (k : ℕ) (d : A) → Outside n (length ys) k → get_or xs' k d ≡ get_or xs k d
laid_outside l l' xs xs' n n' ys a k d o = ap (λ v. get_or v k d) a.holds ∙ written_outside xs n ys k d o

pub laid_length : {A : Type 0} (l l' : ℕ) (xs xs' : List A) (n n' : ℕ) (ys : List A) → Laid l xs n ys l' xs' n' → length xs' ≡ length xs
laid_length l l' xs xs' n n' ys a = ap length a.holds ∙ length_written xs n ys

-- within the bytes there is a bit
pub bit_read_within : (xs : List ℕ) (i : ℕ) → i < 8 * length xs → bit_read xs i ≡ Some (get_or (bits_of xs) i false)
bit_read_within xs i h = cond-true (ltb i (8 * length xs)) (Some (get_or (bits_of xs) i false)) None (lt-ltb i (8 * length xs) h)

pub packed_reads : PackedReads
packed_reads s t bits h a =
    let xs = s.bytes.now in
    let ys = t.bytes.now in
    let same : 8 * length ys ≡ 8 * length xs = omega (arith, length_bits xs, length_bits ys, laid_length _ _ _ _ _ _ _ a) in (
      λ k l. bit_read_within ys (s.used + k) (omega arith) ∙ ap Some (laid_inside _ _ _ _ _ _ _ a k false l (omega (arith, length_bits xs))),
      λ k o.
          ap (λ b. cond (ltb k (8 * length ys)) (Some b) None) (laid_outside _ _ _ _ _ _ _ a k false o)
          ∙ ap (λ n. cond (ltb k n) (Some (get_or (bits_of xs) k false)) None) same,
    )

pub digit_says : DigitSays
digit_says true = refl
digit_says false = refl

pub said_digit : SaidDigit
said_digit byte = ⊎_elim (λ e. ap (λ d. digit (said d)) e ∙ sym e) (λ e. ap (λ d. digit (said d)) e ∙ sym e)

pub text_reads : TextReads
text_reads s t bits h a =
    let same = length-map bits digit in (
      λ k l. laid_inside _ _ _ _ _ _ _ a k 0 (omega arith) (omega arith) ∙ get_or-map digit bits k false 0 l,
      λ k o. laid_outside _ _ _ _ _ _ _ a k 0 (rw same o),
    )
