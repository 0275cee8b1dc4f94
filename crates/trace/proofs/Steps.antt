-- One turn of the loop over a body's fields. Assumes nothing.
use Rattle.std.proofs.Common.{◌≡◌, ℕ, suc, ◌+◌, ◌-◌, ◌<◌, List, Result, sym, ap, ◌∙◌, arith}
use Rattle.trace.specs.declared.faults.Fault.{Fault}
use Rattle.trace.specs.Faults.{after}
use Rattle.trace.specs.Records.{field_at, fields_at}

-- the first of the fields that are left, and the others
pub fields_more : (bs : List ℕ) (at next n i : ℕ) (r : Result (ℕ × ℕ) Fault) → i < n → r ≡ field_at bs at next → fields_at bs at next (n - i) ≡ after r (λ p. fields_at bs at p.1 (n - (i + 1)))
fields_more bs at next n i r h e =
    let s : n - i ≡ suc (n - (i + 1)) = omega arith in
    ap (fields_at bs at next) s ∙ ap (λ q. after q (λ p. fields_at bs at p.1 (n - (i + 1)))) (sym e)
