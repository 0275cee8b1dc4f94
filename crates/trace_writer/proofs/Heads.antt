-- A record where it was written. Assumes nothing.
use Rattle.std.proofs.Common.{◌≡◌, ℕ, ◌+◌, ◌-◌, ◌^◌, ◌<◌, ◌≤◌, true, false, ◌&&◌, ltb, leb, List, ◌++◌, length, take, drop, Some, Ok, refl, ap, ◌∙◌, append_assoc, arith, length-append}
use Rattle.std.proofs.lemmas.List.{drop-take, take_at}
use Rattle.std.proofs.lemmas.Bool.{cond-true, cond-false, le-leb}
use Rattle.std.proofs.lemmas.Bool.Decides.{nat_tests}
use Rattle.trace.specs.Faults.{after}
use Rattle.trace.specs.Records.{Entry, body_at, may_stand, head_at, record_at}
use Rattle.trace_writer.specs.Coding.{coded}
use Rattle.trace_writer.specs.Writing.{record_of}
use Rattle.trace_writer.proofs.Appending.{length_coded}
use Rattle.trace_writer.proofs.Fields.{past, room, field_then}

-- where the body of a record begins
abbrev pub body_from : ℕ → ℕ → List ℕ → ℕ
body_from at kind body = at + length (coded kind) + length (coded (length body))

module _ (bs : List ℕ) (at kind : ℕ) (body rest : List ℕ) (stands : drop at bs ≡ record_of kind body ++ rest) (known : kind < 2 ^ 32) (short : length body < 2 ^ 32) where
  kind_stands : drop at bs ≡ coded kind ++ (coded (length body) ++ (body ++ rest))
  kind_stands = stands ∙ append_assoc (coded kind) (coded (length body) ++ body) rest ∙ ap (λ l. coded kind ++ l) (append_assoc (coded (length body)) body rest)

  size_stands : drop (at + length (coded kind)) bs ≡ coded (length body) ++ (body ++ rest)
  size_stands = past bs at (coded kind) _ kind_stands

  body_stands : drop (body_from at kind body) bs ≡ body ++ rest
  body_stands = past bs (at + length (coded kind)) (coded (length body)) _ size_stands

  -- the body alone, in the list that ends with it
  pub body_alone : drop (body_from at kind body) (take (body_from at kind body + length body) bs) ≡ body
  body_alone = drop-take (body_from at kind body) (length body) bs ∙ ap (take (length body)) body_stands ∙ take_at body rest (length body) refl

  pub head_coded : may_stand kind at ≡ true → head_at bs at ≡ Ok (kind, body_from at kind body, body_from at kind body + length body)
  head_coded may =
      let held : length body ≤ length bs - body_from at kind body = omega (arith, room bs (body_from at kind body) body rest body_stands) in
      field_then bs at at kind _ _ known kind_stands
      ∙ cond-true (may_stand kind at) _ _ may
      ∙ field_then bs at (at + length (coded kind)) (length body) _ _ short size_stands
      ∙ cond-true (leb (length body) (length bs - body_from at kind body)) _ _ (le-leb _ _ held)

  -- a record by its body
  pub record_coded : may_stand kind at ≡ true → (e : Entry) → body_at kind (take (body_from at kind body + length body) bs) at (body_from at kind body) ≡ Ok e → record_at bs at ≡ Ok (Some (e, at + length (record_of kind body)))
  record_coded may e is =
      let more : at < length bs = omega (arith, room bs at (coded kind) _ kind_stands, length_coded kind) in
      let open-end : (ltb 0 at && leb (length bs) at) ≡ false = grind (arith, nat_tests) in
      let size : body_from at kind body + length body ≡ at + length (record_of kind body) = omega (arith, length-append (coded kind) (coded (length body) ++ body), length-append (coded (length body)) body) in
      cond-false (ltb 0 at && leb (length bs) at) _ _ open-end
      ∙ ap (λ r. after r (λ h. after (body_at h.0 (take h.2 bs) at h.1) (λ x. Ok (Some (x, h.2))))) (head_coded may)
      ∙ ap (λ r. after r (λ x. Ok (Some (x, body_from at kind body + length body)))) is
      ∙ ap (λ n. Ok (Some (e, n))) size
