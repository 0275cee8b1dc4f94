-- Where a mark first stands in a text: what `split_once` finds is what `split_at` says.
use Rattle.std.proofs.Common.{◌≡◌, ℕ, zero, suc, ◌+◌, ◌<◌, ◌≤◌, Bool, true, false, eqb, List, [], ◌∷◌, ◌++◌, length, take, drop, Some, None, Option, sym, refl, arith, Bor, MatchOption}
use Rattle.std.specs.Str.Pattern.{FindsText, LacksTextAt}
use Rattle.std.specs.Option.{option_map}
use Rattle.std.proofs.lemmas.List.Prefix.{front_rest}
use Rattle.std.proofs.lemmas.Bool.{eqb-true, eq-eqb, and_parts, and_from}
use Rattle.outside.specs.Vectors.{begins_with, split_at, both_texts}

begins_true : (mark text rest : List ℕ) → text ≡ mark ++ rest → begins_with mark text ≡ true
begins_true [] text rest e = refl
begins_true (m ∷ mark) [] rest e = cc
begins_true (m ∷ mark) (c ∷ text) rest e = and_from (eqb m c) (begins_with mark text) (eq-eqb m c (cc)) (begins_true mark text rest (cc))

begun : (mark text : List ℕ) → begins_with mark text ≡ true → text ≡ mark ++ drop (length mark) text
begun [] text b = refl
begun (m ∷ mark) [] b = cc
begun (m ∷ mark) (c ∷ text) b =
    let p = and_parts (eqb m c) (begins_with mark text) b in
    let e = eqb-true m c p.0 in
    let r = begun mark text p.1 in
    cc

begins_false : (mark text : List ℕ) → LacksTextAt mark text 0 → begins_with mark text ≡ false
begins_false mark text not-here =
    go (begins_with mark text) refl
  where
    go : (b : Bool) → begins_with mark text ≡ b → begins_with mark text ≡ false
    go true e = absurd (not-here (drop (length mark) text) (begun mark text e))
    go false e = e

-- the mark stands nowhere
missing : (mark text : List ℕ) → ((i : ℕ) → i ≤ length text → LacksTextAt mark text i) → split_at mark text ≡ None
unfolding split_at
missing mark [] nowhere = rw (begins_false mark [] (nowhere 0 (omega arith))) refl
missing mark (c ∷ text) nowhere =
    rw (begins_false mark (c ∷ text) (nowhere 0 (omega arith)), missing mark text (λ i h. nowhere (suc i) (omega arith))) refl

-- the mark first stands at i
found : (mark text behind : List ℕ) (i : ℕ) → ((k : ℕ) → k < i → LacksTextAt mark text k) → drop i text ≡ mark ++ behind → split_at mark text ≡ Some (take i text, behind)
unfolding split_at
found [] [] behind zero before at = cc
found (m ∷ mark) [] behind zero before at = cc
found mark [] behind (suc i) before at = absurd (before 0 (omega arith) behind at)
found mark (c ∷ text) behind zero before at = rw (begins_true mark (c ∷ text) behind at, front_rest (c ∷ text) mark behind at) refl
found mark (c ∷ text) behind (suc i) before at =
    rw (begins_false mark (c ∷ text) (before 0 (omega arith)), found mark text behind i (λ k h. before (suc k) (omega arith)) at) refl

-- what `split_once` answers
pub split_found : (mark text : List ℕ) (r : Option (Bor (List ℕ) × Bor (List ℕ))) → MatchOption r (FindsText mark text None) (λ x. (i : ℕ) × (j : ℕ) × FindsText mark text (Some (i, j)) × (x.0.now ≡ take i text) × (x.1.now ≡ drop j text) × (i ≤ j) × (length x.0.now ≡ i) × (length x.1.now + j ≡ length text)) → option_map both_texts r ≡ split_at mark text
split_found mark text None nowhere = sym (missing mark text nowhere)
split_found mark text (Some x) p = rw (p.3, p.4) (sym (found mark text (drop p.1 text) p.0 p.2.0 p.2.1.split))
