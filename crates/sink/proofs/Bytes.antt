-- One byte's bits, each law by a computed test of every byte.
use Rattle.std.proofs.Common.{◌≡◌, ℕ, zero, suc, ◌-◌, ◌/◌, ◌^◌, ◌<◌, Bool, true, false, not, ◌&&◌, eqb, List, [], ◌∷◌, map, length, get_or, set, refl, ap, ◌∙◌, arith}
use lib.Bits.{bit_and, bit_or}
use Rattle.std.proofs.Math.Bool.{beq}
use Rattle.std.proofs.lemmas.Bool.{and_parts, eqb-true, agree_below, agree_below_at}
use Rattle.std.proofs.lemmas.Slice.Eq.{slice_eq-Decides}
use Rattle.std.specs.Cmp.{booleans_Decides}
use Rattle.std.specs.Cmp.Lexicographic.{pointwise}
use Rattle.std.proofs.lemmas.List.{get_or-map}
use Rattle.sink.specs.Bits.{bit_of, places, byte_bits, number_from}

same_bits_is : (xs ys : List Bool) → pointwise beq xs ys ≡ true → xs ≡ ys
same_bits_is xs ys = (slice_eq-Decides booleans_Decides xs ys (pointwise beq xs ys) refl).0

-- a test of each number below n
abbrev every : (ℕ → Bool) → ℕ → Bool
every test n = agree_below test (λ _. true) n

every_at : (test : ℕ → Bool) (n : ℕ) → every test n ≡ true → (k : ℕ) → k < n → test k ≡ true
every_at test n e k = agree_below_at test (λ _. true) n k e

-- two words for the bits of a byte and a place in it, tested at each
each_place : (f g : ℕ → ℕ → List Bool) → every (λ k. every (λ x. pointwise beq (f x k) (g x k)) 256) 8 ≡ true → (x k : ℕ) → x < 256 → k < 8 → f x k ≡ g x k
each_place f g e x k hx hk =
    same_bits_is _ _ (every_at (λ y. pointwise beq (f y k) (g y k)) 256 (every_at (λ j. every (λ y. pointwise beq (f y j) (g y j)) 256) 8 e k hk) x hx)

pub set_one : (x k : ℕ) → x < 256 → k < 8 → byte_bits (bit_or x (128 / 2 ^ k)) ≡ set (byte_bits x) k true
set_one = each_place (λ x k. byte_bits (bit_or x (128 / 2 ^ k))) (λ x k. set (byte_bits x) k true) refl

pub set_zero : (x k : ℕ) → x < 256 → k < 8 → byte_bits (bit_and x (255 - 128 / 2 ^ k)) ≡ set (byte_bits x) k false
set_zero = each_place (λ x k. byte_bits (bit_and x (255 - 128 / 2 ^ k))) (λ x k. set (byte_bits x) k false) refl

-- a byte complemented has each bit flipped
pub byte_flip : (x : ℕ) → x < 256 → byte_bits (255 - x) ≡ map not (byte_bits x)
byte_flip x h = same_bits_is _ _ (every_at (λ y. pointwise beq (byte_bits (255 - y)) (map not (byte_bits y))) 256 refl x h)

-- the bits of a byte say its number
pub number_of_bits : (x : ℕ) → x < 256 → number_from 0 (byte_bits x) ≡ x
number_of_bits x h = eqb-true _ _ (every_at (λ y. eqb (number_from 0 (byte_bits y)) y) 256 refl x h)

-- a test of each run of n bits
abbrev every_run : ℕ → (List Bool → Bool) → Bool
every_run zero test = test []
every_run (suc n) test = every_run n (λ bits. test (true ∷ bits)) && every_run n (λ bits. test (false ∷ bits))

every_run_at : (n : ℕ) (test : List Bool → Bool) → every_run n test ≡ true → (bits : List Bool) → length bits ≡ n → test bits ≡ true
every_run_at zero test e [] l = e
every_run_at zero test e (b ∷ bits) l = absurd (omega arith)
every_run_at (suc n) test e [] l = absurd (omega arith)
every_run_at (suc n) test e (true ∷ bits) l = every_run_at n (λ t. test (true ∷ t)) (and_parts _ _ e).0 bits (omega arith)
every_run_at (suc n) test e (false ∷ bits) l = every_run_at n (λ t. test (false ∷ t)) (and_parts _ _ e).1 bits (omega arith)

-- the number that eight bits say has those bits
pub bits_of_number : (bits : List Bool) → length bits ≡ 8 → byte_bits (number_from 0 bits) ≡ bits
bits_of_number bits l = same_bits_is _ _ (every_run_at 8 (λ t. pointwise beq (byte_bits (number_from 0 t)) t) refl bits l)

pub byte_at : (x k : ℕ) → k < 8 → get_or (byte_bits x) k false ≡ bit_of x k
byte_at x k h = get_or-map (bit_of x) places k 0 false h ∙ ap (bit_of x) (eqb-true _ _ (every_at (λ j. eqb (get_or places j 0) j) 8 refl k h))
