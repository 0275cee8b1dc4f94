-- Numbers and bodies where they were written. Assumes nothing.
use Rattle.std.proofs.Common.{◌≡◌, ℕ, zero, suc, ◌+◌, ◌-◌, ◌^◌, ◌<◌, ◌≤◌, ltb, List, [], ◌∷◌, ◌++◌, length, drop, replicate, Ok, Result, sym, refl, ap, ◌∙◌, append_assoc, add-zero, add_assoc, arith, length-append, length-drop}
use Rattle.std.specs.List.{flat_map}
use Rattle.std.proofs.lemmas.List.{drop-drop, drop_at}
use Rattle.std.proofs.lemmas.Bool.{cond-true, lt-ltb}
use Rattle.trace.specs.declared.faults.Fault.{Fault}
use Rattle.trace.specs.Faults.{after}
use Rattle.trace.specs.Numbers.{number_at, limited, groups}
use Rattle.trace.specs.Records.{field_at, fields_at}
use Rattle.trace.specs.Batches.{or_zero, numbers_from}
use Rattle.trace_writer.specs.Coding.{coded}
use Rattle.trace_writer.specs.Laws.{Small}
use Rattle.trace_writer.proofs.RoundTrip.{number_coded}
use Rattle.trace_writer.proofs.Appending.{length_coded}

-- behind what stands at an offset
pub past : (bs : List ℕ) (at : ℕ) (x rest : List ℕ) → drop at bs ≡ x ++ rest → drop (at + length x) bs ≡ rest
past bs at x rest e = sym (drop-drop (length x) at bs) ∙ ap (drop (length x)) e ∙ drop_at x rest (length x) refl

-- how far the list goes on there
pub room : (bs : List ℕ) (at : ℕ) (x rest : List ℕ) → drop at bs ≡ x ++ rest → length bs - at ≡ length x + length rest
room bs at x rest e = sym (length-drop at bs) ∙ ap length e ∙ length-append x rest

-- a number in a body, and what goes on with it
pub field_coded : (bs : List ℕ) (at next v : ℕ) (rest : List ℕ) → v < 2 ^ 32 → drop next bs ≡ coded v ++ rest → field_at bs at next ≡ Ok (v, next + length (coded v))
field_coded bs at next v rest h e =
    let lt : next < length bs = omega (arith, room bs next (coded v) rest e, length_coded v) in
    cond-true (ltb next (length bs)) _ _ (lt-ltb next (length bs) lt) ∙ number_coded bs next v rest h e

pub field_then : {Y : Type 0} (bs : List ℕ) (at next v : ℕ) (rest : List ℕ) (f : ℕ × ℕ → Result Y Fault) → v < 2 ^ 32 → drop next bs ≡ coded v ++ rest → after (field_at bs at next) f ≡ f (v, next + length (coded v))
field_then bs at next v rest f h e = ap (λ r. after r f) (field_coded bs at next v rest h e)

-- some numbers of a body
pub fields_coded : (bs : List ℕ) (at next : ℕ) (vs rest : List ℕ) → Small vs → drop next bs ≡ flat_map coded vs ++ rest → fields_at bs at next (length vs) ≡ Ok (next + length (flat_map coded vs))
fields_coded bs at next [] rest s e = ap Ok (sym (add-zero next))
fields_coded bs at next (v ∷ vs) rest s e =
    let d = e ∙ append_assoc (coded v) (flat_map coded vs) rest in
    field_then bs at next v (flat_map coded vs ++ rest) _ s.0 d
    ∙ fields_coded bs at (next + length (coded v)) vs rest s.1 (past bs next (coded v) (flat_map coded vs ++ rest) d)
    ∙ ap Ok (add_assoc next (length (coded v)) (length (flat_map coded vs)) ∙ ap (λ n. next + n) (sym (length-append (coded v) (flat_map coded vs))))

-- the numbers themselves, and zeros behind them
numbers_none : (n : ℕ) (bs : List ℕ) (at : ℕ) → drop at bs ≡ [] → numbers_from n bs at ≡ replicate n 0
unfolding numbers_from
numbers_none zero bs at e = refl
numbers_none (suc n) bs at e =
    let z : or_zero at (number_at bs at) ≡ (0, at) = ap (λ l. or_zero at (limited at (groups l))) e in
    ap (λ p. p.0 ∷ numbers_from n bs p.1) z ∙ ap (λ l. 0 ∷ l) (numbers_none n bs at e)

pub numbers_coded : (n : ℕ) (bs : List ℕ) (at : ℕ) (vs : List ℕ) → Small vs → length vs ≤ n → drop at bs ≡ flat_map coded vs → numbers_from n bs at ≡ vs ++ replicate (n - length vs) 0
unfolding numbers_from
numbers_coded n bs at [] s h e = numbers_none n bs at e ∙ ap (λ m. replicate m 0) (omega arith)
numbers_coded zero bs at (v ∷ vs) s h e = absurd (omega arith)
numbers_coded (suc n) bs at (v ∷ vs) s h e =
    let z : or_zero at (number_at bs at) ≡ (v, at + length (coded v)) = ap (or_zero at) (number_coded bs at v (flat_map coded vs) s.0 e) in
    let m : n - length vs ≡ suc n - suc (length vs) = omega arith in
    ap (λ p. p.0 ∷ numbers_from n bs p.1) z
    ∙ ap (λ l. v ∷ l) (numbers_coded n bs (at + length (coded v)) vs s.1 (omega arith) (past bs at (coded v) (flat_map coded vs) e))
    ∙ ap (λ k. v ∷ (vs ++ replicate k 0)) m
