-- Lines of outside vectors and their parts. Assumes nothing.
use Rattle.std.specs.Prelude.{ℕ, Bool, true, false, cond, ◌&&◌, List, [], ◌∷◌, length, drop, Some, None, codes, Option, ◌==◌}
use Rattle.std.specs.Borrow.{Bor}
use Rattle.std.specs.Option.{option_map}
use Rattle.outside.specs.declared.vectors.Vector.{Vector}

-- an empty line and one that begins with `#`
abbrev pub passed_over : List ℕ → Bool
passed_over [] = true
passed_over (c ∷ cs) = c == 35

-- the text begins with the mark
abbrev pub begins_with : List ℕ → List ℕ → Bool
begins_with [] text = true
begins_with (m ∷ mark) [] = false
begins_with (m ∷ mark) (c ∷ text) = m == c && begins_with mark text

-- one more character before
abbrev pub one_before : ℕ → List ℕ × List ℕ → List ℕ × List ℕ
one_before c p = (c ∷ p.0, p.1)

-- what stands before and behind the first place of the mark
unfoldable pub split_at : List ℕ → List ℕ → Option (List ℕ × List ℕ)
split_at mark [] = cond (begins_with mark []) (Some ([], [])) None
split_at mark (c ∷ text) = cond (begins_with mark (c ∷ text)) (Some ([], drop (length mark) (c ∷ text))) (option_map (one_before c) (split_at mark text))

-- the kind of a vector, its input, and what should come of it
pub record Said : Type 0 where
  pub kind : List ℕ
  pub input : List ℕ
  pub expected : List ℕ

abbrev pub with_kind : List ℕ → Option (List ℕ × List ℕ) → Option Said
with_kind expected None = None
with_kind expected (Some p) = Some (record { kind = p.0; input = p.1; expected = expected })

abbrev pub with_expected : Option (List ℕ × List ℕ) → Option Said
with_expected None = None
with_expected (Some p) = with_kind p.1 (split_at (codes " ") p.0)

-- `KIND INPUT => EXPECTED`
abbrev pub vector_in : List ℕ → Option Said
vector_in line = with_expected (split_at (codes " => ") line)

-- what the code holds of two texts
abbrev pub both_texts : Bor (List ℕ) × Bor (List ℕ) → List ℕ × List ℕ
both_texts p = (p.0.now, p.1.now)

-- what the code holds of a vector
abbrev pub said : Vector → Said
said v = record { kind = v.kind.now; input = v.input.now; expected = v.expected.now }
