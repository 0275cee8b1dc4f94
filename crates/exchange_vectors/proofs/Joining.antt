-- Words in a row, one more at the end.
use Rattle.std.proofs.Common.{◌≡◌, ℕ, ◌-◌, ◌<◌, ◌≤◌, List, [], ◌∷◌, ◌++◌, map, length, get_or, take, drop, sym, refl, ap, ◌∙◌, ap₂, append_assoc, append-nil, arith}
use Rattle.std.proofs.lemmas.List.{take_rest}
use Rattle.exchange_vectors.specs.Outcomes.{each_behind, joined_by}

pub each_more : (between : List ℕ) (ws : List (List ℕ)) (w : List ℕ) → each_behind between (ws ++ w ∷ []) ≡ (each_behind between ws ++ between) ++ w
each_more between [] w = ap (λ l. between ++ l) (append-nil w)
each_more between (v ∷ ws) w =
    ap (λ l. between ++ (v ++ l)) (each_more between ws w)
    ∙ ap (λ l. between ++ l) (sym (append_assoc v (each_behind between ws ++ between) w) ∙ ap (λ l. l ++ w) (sym (append_assoc v (each_behind between ws) between)))
    ∙ sym (append_assoc between ((v ++ each_behind between ws) ++ between) w)
    ∙ ap (λ l. l ++ w) (sym (append_assoc between (v ++ each_behind between ws) between))

pub regroup : (a b c d : List ℕ) → ((a ++ b) ++ c) ++ d ≡ a ++ ((b ++ c) ++ d)
regroup a b c d = ap (λ l. l ++ d) (append_assoc a b c) ∙ append_assoc a (b ++ c) d

-- no word, and a first one with the others behind it
pub joined_none : {X : Type 0} (word : X → List ℕ) (between : List ℕ) (xs : List X) → length xs < 1 → joined_by between (map word xs) ≡ []
joined_none word between [] h = refl
joined_none word between (x ∷ xs) h = absurd (omega arith)

pub joined_first : {X : Type 0} (word : X → List ℕ) (between : List ℕ) (xs : List X) (x : X) → 1 ≤ length xs → x ≡ get_or xs 0 x →
    word x ++ each_behind between (map word (take (length xs - 1) (drop 1 xs))) ≡ joined_by between (map word xs)
joined_first word between [] x h is = absurd (omega arith)
joined_first word between (y ∷ xs) x h is =
    ap₂ (λ z (l : List _). word z ++ each_behind between (map word l)) is (take_rest (y ∷ xs) 1)
