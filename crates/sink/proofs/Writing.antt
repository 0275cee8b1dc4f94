-- Lists with others written over them, and lent memory that they were laid into.
use Rattle.std.proofs.Common.{◌≡◌, ℕ, zero, suc, ◌+◌, ◌<◌, ◌≤◌, ◌≢◌, List, [], ◌∷◌, ◌++◌, length, get_or, take, drop, set, sym, refl, ap, ◌∙◌, subst, arith}
use Rattle.std.proofs.lemmas.List.{length-append, length-set, get_or-set_same, get_or-set_other, take-append-drop, take-append-le, take_all, take_more_set, drop-set-lt, append_assoc}
use Rattle.sink.specs.Written.{written, Laid}

pub written_none : {A : Type 0} (xs : List A) (i : ℕ) → written xs i [] ≡ xs
unfolding written
written_none xs i = refl

pub written_one : {A : Type 0} (xs : List A) (i : ℕ) (y : A) → written xs i (y ∷ []) ≡ set xs i y
unfolding written
written_one xs i y = refl

-- one run after another is one run
pub written_more : {A : Type 0} (xs : List A) (i : ℕ) (ys zs : List A) → written (written xs i ys) (i + length ys) zs ≡ written xs i (ys ++ zs)
unfolding written
written_more xs i [] zs = let e : i + 0 ≡ i = omega arith in ap (λ n. written xs n zs) e
written_more xs i (y ∷ ys) zs =
    let e : i + suc (length ys) ≡ suc i + length ys = omega arith in
    ap (λ n. written (written (set xs i y) (suc i) ys) n zs) e ∙ written_more (set xs i y) (suc i) ys zs

pub length_written : {A : Type 0} (xs : List A) (i : ℕ) (ys : List A) → length (written xs i ys) ≡ length xs
unfolding written
length_written xs i [] = refl
length_written xs i (y ∷ ys) = length_written (set xs i y) (suc i) ys ∙ length-set xs i y

-- before the written places all is as it was
pub written_before : {A : Type 0} (xs : List A) (i : ℕ) (ys : List A) (k : ℕ) (d : A) → k < i → get_or (written xs i ys) k d ≡ get_or xs k d
unfolding written
written_before xs i [] k d h = refl
written_before xs i (y ∷ ys) k d h =
    let ne : k ≢ i = omega arith in
    written_before (set xs i y) (suc i) ys k d (omega arith) ∙ get_or-set_other xs i k y d ne

-- at the written places stands what was written
pub written_inside : {A : Type 0} (xs : List A) (i : ℕ) (ys : List A) (k : ℕ) (d : A) → k < length ys → i + k < length xs → get_or (written xs i ys) (i + k) d ≡ get_or ys k d
unfolding written
written_inside xs i [] k d h l = absurd (omega arith)
written_inside xs i (y ∷ ys) zero d h l =
    let e : i + 0 ≡ i = omega arith in
    ap (λ n. get_or (written (set xs i y) (suc i) ys) n d) e ∙ written_before (set xs i y) (suc i) ys i d (omega arith) ∙ get_or-set_same xs i y d (omega arith)
written_inside xs i (y ∷ ys) (suc k) d h l =
    let e : i + suc k ≡ suc i + k = omega arith in
    let s = length-set xs i y in
    ap (λ n. get_or (written (set xs i y) (suc i) ys) n d) e ∙ written_inside (set xs i y) (suc i) ys k d (omega arith) (omega arith)

-- behind the written places all is as it was
pub written_behind : {A : Type 0} (xs : List A) (i : ℕ) (ys : List A) (k : ℕ) (d : A) → i + length ys ≤ k → get_or (written xs i ys) k d ≡ get_or xs k d
unfolding written
written_behind xs i [] k d h = refl
written_behind xs i (y ∷ ys) k d h =
    let ne : k ≢ i = omega arith in
    written_behind (set xs i y) (suc i) ys k d (omega arith) ∙ get_or-set_other xs i k y d ne

-- what stands before, the run, and what stands behind
pub written_at : {A : Type 0} (xs : List A) (i : ℕ) (ys : List A) → i + length ys ≤ length xs → written xs i ys ≡ take i xs ++ (ys ++ drop (i + length ys) xs)
unfolding written
written_at xs i [] h = let e : i ≡ i + 0 = omega arith in sym (take-append-drop i xs) ∙ ap (λ n. take i xs ++ drop n xs) e
written_at xs i (y ∷ ys) h =
    let l = length-set xs i y in
    let e : suc i + length ys ≡ i + suc (length ys) = omega arith in
    let f : i + 1 ≡ suc i = omega arith in
    written_at (set xs i y) (suc i) ys (omega arith)
    ∙ ap (λ v. v ++ (ys ++ drop (suc i + length ys) (set xs i y))) (ap (λ n. take n (set xs i y)) (sym f) ∙ take_more_set xs i y (omega arith))
    ∙ ap (λ v. (take i xs ++ (y ∷ [])) ++ (ys ++ v)) (drop-set-lt (suc i + length ys) xs i y (omega arith) ∙ ap (λ n. drop n xs) e)
    ∙ append_assoc (take i xs) (y ∷ []) (ys ++ drop (i + suc (length ys)) xs)

-- a run written from the front
pub written_over : {A : Type 0} (xs ys : List A) → length ys ≤ length xs → written xs 0 ys ≡ ys ++ drop (length ys) xs
written_over xs ys h = let e : 0 + length ys ≡ length ys = omega arith in written_at xs 0 ys (omega arith) ∙ ap (λ n. ys ++ drop n xs) e

pub laid_none : {A : Type 0} (l : ℕ) (xs : List A) (n : ℕ) → Laid l xs n [] l xs n
laid_none l xs n = record { lent = refl; used = omega arith; holds = sym (written_none xs n) }

pub laid_one : {A : Type 0} (l : ℕ) (xs xs' : List A) (n n' : ℕ) (y : A) → n' ≡ n + 1 → xs' ≡ set xs n y → Laid l xs n (y ∷ []) l xs' n'
laid_one l xs xs' n n' y p q = record { lent = refl; used = p; holds = q ∙ sym (written_one xs n y) }

-- one run laid after another
pub laid_more : {A : Type 0} (l l' l'' : ℕ) (xs xs' xs'' : List A) (n n' n'' : ℕ) (ys zs : List A) → Laid l xs n ys l' xs' n' → Laid l' xs' n' zs l'' xs'' n'' → Laid l xs n (ys ++ zs) l'' xs'' n''
laid_more l l' l'' xs xs' xs'' n n' n'' ys zs a b =
    record {
      lent = b.lent ∙ a.lent;
      used = let e = length-append ys zs in omega (arith, a.used, b.used);
      holds = b.holds ∙ ap (λ x. written x n' zs) a.holds ∙ ap (λ m. written (written xs n ys) m zs) a.used ∙ written_more xs n ys zs;
    }

-- one more laid next
pub laid_push : {A : Type 0} (l l' : ℕ) (xs xs' xs'' : List A) (n n' n'' : ℕ) (ys zs : List A) (y : A) → Laid l xs n ys l' xs' n' → n'' ≡ n' + 1 → xs'' ≡ set xs' n' y → zs ≡ ys ++ (y ∷ []) → Laid l xs n zs l' xs'' n''
laid_push l l' xs xs' xs'' n n' n'' ys zs y a p q e =
    subst (λ v. Laid l xs n v l' xs'' n'') (sym e) (laid_more l l' l' xs xs' xs'' n n' n'' ys (y ∷ []) a (laid_one l' xs' xs'' n' n'' y p q))

-- what was laid from the front stands there
pub laid_front : {A : Type 0} (l l' : ℕ) (xs xs' : List A) (n n' : ℕ) (ys : List A) → Laid l xs n ys l' xs' n' → n ≡ 0 → length ys ≤ length xs → take (length ys) xs' ≡ ys
laid_front l l' xs xs' n n' ys a z h =
    ap (take (length ys)) (a.holds ∙ ap (λ m. written xs m ys) z ∙ written_over xs ys h)
    ∙ take-append-le (length ys) ys (drop (length ys) xs) (omega arith)
    ∙ take_all (length ys) ys (omega arith)
