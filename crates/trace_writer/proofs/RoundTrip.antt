-- Numbers, written and read back. Assumes nothing.
use Rattle.std.proofs.Common.{◌≡◌, ℕ, zero, suc, ◌+◌, ◌-◌, ◌*◌, ◌/◌, ◌%◌, ◌^◌, ◌<◌, ◌≤◌, eqb, ltb, List, [], ◌∷◌, ◌++◌, length, take, drop, Some, None, Ok, Err, Option, Result, sym, refl, ap, ◌∙◌, ⊎_elim, append_assoc, arith}
use Rattle.std.specs.List.{AllByRecursion}
use Rattle.std.proofs.ByRecursion.{All-drop}
use Rattle.std.proofs.lemmas.List.{drop_at}
use Rattle.std.proofs.lemmas.Bool.{cases_lt, cond-true, cond-false, lt-ltb, le-ltb, ne_eqb}
use Rattle.std.proofs.lemmas.Bool.Decides.{nat_tests}
use Rattle.trace.specs.declared.faults.Fault.{Fault}
use Rattle.trace.specs.declared.faults.Layer.TheVariants as layer
use Rattle.trace.specs.Faults.{broken_at}
use Rattle.trace.specs.Numbers.{before, groups, limited, number_at}
use Rattle.trace_writer.specs.Coding.{coded_by, coded, ReadsCoded, OnlyCoded}

-- what n groups before the last can hold
abbrev pub limit : ℕ → ℕ
limit zero = 128
limit (suc n) = 128 * limit n

pub coded_short : (n v : ℕ) → v < 128 → coded_by n v ≡ v ∷ []
coded_short zero v h = refl
coded_short (suc n) v h = cond-true (ltb v 128) _ _ (lt-ltb v 128 h)

pub coded_long : (n v : ℕ) → 128 ≤ v → coded_by (suc n) v ≡ (128 + v % 128) ∷ coded_by n (v / 128)
coded_long n v h = cond-false (ltb v 128) _ _ (le-ltb v 128 h)

groups_last : (b : ℕ) (bs : List ℕ) → b < 128 → groups (b ∷ bs) ≡ Some (b, 1)
groups_last b bs h = cond-true (ltb b 128) _ _ (lt-ltb b 128 h)

groups_next : (b : ℕ) (bs : List ℕ) → 128 ≤ b → groups (b ∷ bs) ≡ before (b - 128) (groups bs)
groups_next b bs h = cond-false (ltb b 128) _ _ (le-ltb b 128 h)

before_some : (g v n : ℕ) → 0 < v → before g (Some (v, n)) ≡ Some (g + 128 * v, n + 1)
before_some g v n h = cond-false (eqb v 0) _ _ (ne_eqb v 0 (omega arith))

pub reads_by : (n v : ℕ) (rest : List ℕ) → v < limit n → groups (coded_by n v ++ rest) ≡ Some (v, length (coded_by n v))
reads_by zero v rest h = groups_last v rest h
reads_by (suc n) v rest h =
    ⊎_elim
    (λ lt. let e = coded_short (suc n) v lt in ap (λ l. groups (l ++ rest)) e ∙ groups_last v rest lt ∙ ap (λ l. Some (v, length l)) (sym e))
    (λ le.
    let e = coded_long n v le in
    let some : 0 < v / 128 = omega arith in
    let back : (128 + v % 128 - 128) + 128 * (v / 128) ≡ v = omega arith in
    let one : length (coded_by n (v / 128)) + 1 ≡ length ((128 + v % 128) ∷ coded_by n (v / 128)) = omega arith in
    ap (λ l. groups (l ++ rest)) e
    ∙ groups_next (128 + v % 128) (coded_by n (v / 128) ++ rest) (omega arith)
    ∙ ap (before (128 + v % 128 - 128)) (reads_by n (v / 128) rest (omega arith))
    ∙ before_some (128 + v % 128 - 128) (v / 128) (length (coded_by n (v / 128))) some
    ∙ ap (λ x. Some (x, length (coded_by n (v / 128)) + 1)) back
    ∙ ap (λ x. Some (v, x)) one
    ∙ ap (λ l. Some (v, length l)) (sym e))
    (cases_lt v 128)

pub groups_coded : (v : ℕ) (rest : List ℕ) → v < 2 ^ 32 → groups (coded v ++ rest) ≡ Some (v, length (coded v))
unfolding coded
groups_coded v rest h = reads_by 4 v rest (omega arith)

-- the number at an offset where its shortest form stands
pub number_coded : (bs : List ℕ) (at v : ℕ) (rest : List ℕ) → v < 2 ^ 32 → drop at bs ≡ coded v ++ rest → number_at bs at ≡ Ok (v, at + length (coded v))
number_coded bs at v rest h e =
    ap (λ l. limited at (groups l)) e ∙ ap (limited at) (groups_coded v rest h) ∙ cond-true (ltb v (2 ^ 32)) _ _ (lt-ltb v (2 ^ 32) h)

pub reads_coded : ReadsCoded
reads_coded before behind v h = number_coded (before ++ (coded v ++ behind)) (length before) v behind h (drop_at before (coded v ++ behind) (length before) refl)

-- what a group was put before
pub record Parts (g : ℕ) (o : Option (ℕ × ℕ)) (v n : ℕ) : Type 0 where
  pub rest : ℕ
  pub size : ℕ
  pub is : o ≡ Some (rest, size)
  pub some : 0 < rest
  pub value : v ≡ g + 128 * rest
  pub long : n ≡ size + 1

same_pair : (a b c d : ℕ) → ◌≡◌ {A = Option (ℕ × ℕ)} (Some (a, b)) (Some (c, d)) → (c ≡ a) × (d ≡ b)
same_pair a b c d e = let p : ◌≡◌ {A = ℕ × ℕ} (a, b) (c, d) = cc in (sym (ap (λ q. q.0) p), sym (ap (λ q. q.1) p))

parts : (g : ℕ) (o : Option (ℕ × ℕ)) (v n : ℕ) → before g o ≡ Some (v, n) → Parts g o v n
parts g None v n e = let z : ◌≡◌ {A = ℕ} 0 1 = cc in absurd (omega arith)
parts g (Some p) v n e =
    let some : 0 < p.0 = grind (arith, nat_tests) in
    let same = same_pair (g + 128 * p.0) (p.1 + 1) v n (sym (before_some g p.0 p.1 some) ∙ e) in
    record { rest = p.0; size = p.1; is = refl; some = some; value = same.0; long = same.1 }

only_last : (k b : ℕ) (bs : List ℕ) (v n : ℕ) → b < 128 → groups (b ∷ bs) ≡ Some (v, n) → take n (b ∷ bs) ≡ coded_by k v
only_last k b bs v n lt e =
    let p = same_pair b 1 v n (sym (groups_last b bs lt) ∙ e) in
    ap (λ m. take m (b ∷ bs)) p.1 ∙ sym (coded_short k b lt) ∙ ap (coded_by k) (sym p.0)

pub only_by : (k : ℕ) (bs : List ℕ) (v n : ℕ) → AllByRecursion (λ b. b < 256) bs → v < limit k → groups bs ≡ Some (v, n) → take n bs ≡ coded_by k v
only_by k [] v n a h e = let z : ◌≡◌ {A = ℕ} 0 1 = cc in absurd (omega arith)
only_by zero (b ∷ bs) v n a h e =
    ⊎_elim (λ lt. only_last zero b bs v n lt e) (λ le. let q = parts (b - 128) (groups bs) v n (sym (groups_next b bs le) ∙ e) in absurd (omega (arith, q.value, q.some))) (cases_lt b 128)
only_by (suc k) (b ∷ bs) v n a h e =
    ⊎_elim
    (λ lt. only_last (suc k) b bs v n lt e)
    (λ le.
    let q = parts (b - 128) (groups bs) v n (sym (groups_next b bs le) ∙ e) in
    let byte : b < 256 = a.0 in
    let size : n ≡ suc q.size = omega (arith, q.long) in
    let low : b ≡ 128 + v % 128 = omega (arith, q.value) in
    let high : q.rest ≡ v / 128 = omega (arith, q.value) in
    let large : 128 ≤ v = omega (arith, q.value, q.some) in
    ap (λ m. take m (b ∷ bs)) size
    ∙ ap (λ l. b ∷ l) (only_by k bs q.rest q.size a.1 (omega arith) q.is)
    ∙ ap (λ x. x ∷ coded_by k q.rest) low
    ∙ ap (λ x. (128 + v % 128) ∷ coded_by k x) high
    ∙ sym (coded_long k v large))
    (cases_lt b 128)

-- what was read, before its limit was asked
pub record Unlimited (at : ℕ) (o : Option (ℕ × ℕ)) (v n : ℕ) : Type 0 where
  pub is : o ≡ Some (v, n)
  pub small : v < 2 ^ 32

same_read : (at v n v' n' : ℕ) → ◌≡◌ {A = Result (ℕ × ℕ) Fault} (Ok (v', at + n')) (Ok (v, at + n)) → (v' ≡ v) × (n' ≡ n)
same_read at v n v' n' e =
    let p : ◌≡◌ {A = ℕ × ℕ} (v', at + n') (v, at + n) = cc in
    let m = ap (λ q. q.1) p in
    (ap (λ q. q.0) p, omega arith)

unlimited : (at : ℕ) (o : Option (ℕ × ℕ)) (v n : ℕ) → limited at o ≡ Ok (v, at + n) → Unlimited at o v n
unlimited at None v n e = let z : ◌≡◌ {A = ℕ} 0 1 = cc in absurd (omega arith)
unlimited at (Some p) v n e =
    ⊎_elim
    (λ lt. let q = same_read at v n p.0 p.1 (sym (cond-true (ltb p.0 (2 ^ 32)) _ _ (lt-ltb p.0 (2 ^ 32) lt)) ∙ e) in record { is = ap (λ x. Some (x, p.1)) q.0 ∙ ap (λ x. Some (v, x)) q.1; small = omega arith })
    (λ le. let f : Err (broken_at layer.Number at) ≡ Ok (v, at + n) = sym (cond-false (ltb p.0 (2 ^ 32)) _ _ (le-ltb p.0 (2 ^ 32) le)) ∙ e in let z : ◌≡◌ {A = ℕ} 0 1 = cc in absurd (omega arith))
    (cases_lt p.0 (2 ^ 32))

pub only_coded : OnlyCoded
unfolding coded
only_coded bytes at v n a e =
    let u = unlimited at (groups (drop at bytes)) v n e in only_by 4 (drop at bytes) v n (All-drop (λ b. b < 256) at bytes a) (omega (arith, u.small)) u.is

-- one turn of `write_number`: xs is written, r is left
pub write_more : (n r : ℕ) (xs ys : List ℕ) → 128 ≤ r → r < limit n → xs ++ coded_by n r ≡ ys → (m : ℕ) × (r / 128 < limit m) × ((xs ++ (128 + r % 128) ∷ []) ++ coded_by m (r / 128) ≡ ys)
write_more zero r xs ys h lt e = absurd (omega arith)
write_more (suc m) r xs ys h lt e = (m, omega arith, append_assoc xs _ _ ∙ ap (λ l. xs ++ l) (sym (coded_long m r h)) ∙ e)

pub write_first : (v : ℕ) (xs : List ℕ) → v < 2 ^ 32 → (n : ℕ) × (v < limit n) × (xs ++ coded_by n v ≡ xs ++ coded v)
unfolding coded
write_first v xs h = (4, omega arith, refl)
