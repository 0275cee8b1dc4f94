-- Lists made of pieces of one length; the library's words for those elements that pass a test. Assumes nothing.
use Rattle.std.specs.Prelude.{flat_map}
use Rattle.std.proofs.Common.{◌≡◌, ℕ, zero, suc, ◌+◌, ◌*◌, ◌<◌, List, [], ◌∷◌, ◌++◌, length, get_or, sym, ap, ◌∙◌, mul-zero, mul-suc, arith}
pub use Rattle.std.proofs.ByRecursion.{all_kept_by as all_those, kept_by_passes as those_pass}
use Rattle.std.proofs.lemmas.List.{length-append, get_or_append_left, get_or-append-add}

module _ {X Y : Type 0} (f : X → List Y) (w : ℕ) (each : (x : X) → length (f x) ≡ w) where
  pub length_pieces : (xs : List X) → length (flat_map f xs) ≡ w * length xs
  length_pieces [] = sym (mul-zero w)
  length_pieces (x ∷ xs) = omega (arith, length-append (f x) (flat_map f xs), each x, length_pieces xs, mul-suc w (length xs))

  -- element d of piece p
  pub get_or_pieces : (xs : List X) (p d : ℕ) (x : X) (y : Y) → p < length xs → d < w → get_or (flat_map f xs) (w * p + d) y ≡ get_or (f (get_or xs p x)) d y
  get_or_pieces [] p d x y hp hd = absurd (omega arith)
  get_or_pieces (a ∷ xs) zero d x y hp hd =
      let i : w * 0 + d ≡ d = omega (arith, mul-zero w) in
      ap (λ (k : ℕ). get_or (f a ++ flat_map f xs) k y) i ∙ get_or_append_left (f a) (flat_map f xs) y d (omega (arith, each a))
  get_or_pieces (a ∷ xs) (suc p) d x y hp hd =
      let i : w * suc p + d ≡ length (f a) + (w * p + d) = omega (arith, mul-suc w p, each a) in
      ap (λ (k : ℕ). get_or (f a ++ flat_map f xs) k y) i
      ∙ get_or-append-add (f a) (flat_map f xs) (w * p + d) y
      ∙ get_or_pieces xs p d x y (omega arith) hd
