-- The bodies of records where they were written. Assumes nothing.
use Rattle.std.proofs.Common.{◌≡◌, ℕ, ◌+◌, ◌-◌, eqb, List, [], ◌∷◌, ◌++◌, length, get_or, take, drop, Ok, sym, ap, ◌∙◌, append_assoc, append-nil, add-zero, arith}
use Rattle.std.specs.List.{flat_map}
use Rattle.std.proofs.lemmas.List.{get_or-drop, length-drop}
use Rattle.std.proofs.lemmas.Bool.{cond-true, eq-eqb}
use Rattle.ue.specs.declared.arrivals.Arrival.{Arrival}
use Rattle.ue.specs.declared.arrivals.SpsOutcome.{SpsOutcome}
use Rattle.harq.specs.declared.configs.Config.{Config}
use Rattle.trace.specs.Faults.{after}
use Rattle.trace.specs.Records.{configuration, assignment, sps, fields_at, ending, configuration_at, assignment_at, sps_at}
use Rattle.trace_writer.specs.Coding.{coded}
use Rattle.trace_writer.specs.Writing.{config_numbers, arrival_numbers, sps_numbers, config_body, arrival_body, sps_body}
use Rattle.trace_writer.specs.Laws.{Small}
use Rattle.trace_writer.proofs.Appending.{length_coded}
use Rattle.trace_writer.proofs.Fields.{past, room, field_then, fields_coded}

-- the offset after numbers
abbrev pub end_of : ℕ → List ℕ → ℕ
end_of next [] = next
end_of next (v ∷ vs) = end_of (next + length (coded v)) vs

-- what stands behind the first of some numbers
module _ (bs : List ℕ) (next v : ℕ) (vs rest : List ℕ) (e : drop next bs ≡ flat_map coded (v ∷ vs) ++ rest) where
  pub first_stands : drop next bs ≡ coded v ++ (flat_map coded vs ++ rest)
  first_stands = e ∙ append_assoc (coded v) (flat_map coded vs) rest

  pub others_stand : drop (next + length (coded v)) bs ≡ flat_map coded vs ++ rest
  others_stand = past bs next (coded v) (flat_map coded vs ++ rest) first_stands

pub sps_read : (bs : List ℕ) (at next : ℕ) (s : SpsOutcome) → Small (sps_numbers s) → drop next bs ≡ sps_body s → sps_at bs at next ≡ Ok (sps at s.entry.cell s.entry.configuration s.entry.slot s.outcome)
sps_read bs at next s small e =
    let out = s.outcome ∷ [] in
    let c = s.entry.cell in
    let k = s.entry.configuration in
    let t = s.entry.slot in
    let n1 = next + length (coded c) in
    let n2 = n1 + length (coded k) in
    let n3 = n2 + length (coded t) in
    let e1 = others_stand bs next c (k ∷ t ∷ []) out e in
    let e2 = others_stand bs n1 k (t ∷ []) out e1 in
    let e3 = others_stand bs n2 t [] out e2 in
    let one : length bs - n3 ≡ 1 = sym (length-drop n3 bs) ∙ ap length e3 in
    let last : get_or bs n3 0 ≡ s.outcome = ap (λ n. get_or bs n 0) (sym (add-zero n3)) ∙ sym (get_or-drop n3 bs 0 0) ∙ ap (λ l. get_or l 0 0) e3 in
    field_then bs at next c _ _ small.0 (first_stands bs next c (k ∷ t ∷ []) out e)
    ∙ field_then bs at n1 k _ _ small.1.0 (first_stands bs n1 k (t ∷ []) out e1)
    ∙ field_then bs at n2 t _ _ small.1.1.0 (first_stands bs n2 t [] out e2)
    ∙ cond-true (eqb (length bs - n3) 1) _ _ (eq-eqb (length bs - n3) 1 one)
    ∙ ap (λ o. Ok (sps at c k t o)) last

pub assignment_read : (bs : List ℕ) (at next : ℕ) (a : Arrival) → Small (arrival_numbers a) → length (take a.blocks a.outcomes) ≡ a.blocks → drop next bs ≡ arrival_body a → assignment_at bs at next ≡ Ok (assignment at a.cell a.occasion a.format a.field a.blocks (end_of next (arrival_numbers a)) (take a.blocks a.outcomes))
assignment_read bs at next a small long e =
    let out = take a.blocks a.outcomes in
    let n1 = next + length (coded a.cell) in
    let n2 = n1 + length (coded a.occasion) in
    let n3 = n2 + length (coded a.format) in
    let n4 = n3 + length (coded a.field) in
    let n5 = n4 + length (coded a.blocks) in
    let e1 = others_stand bs next a.cell (a.occasion ∷ a.format ∷ a.field ∷ a.blocks ∷ []) out e in
    let e2 = others_stand bs n1 a.occasion (a.format ∷ a.field ∷ a.blocks ∷ []) out e1 in
    let e3 = others_stand bs n2 a.format (a.field ∷ a.blocks ∷ []) out e2 in
    let e4 = others_stand bs n3 a.field (a.blocks ∷ []) out e3 in
    let e5 = others_stand bs n4 a.blocks [] out e4 in
    let left : length bs - n5 ≡ a.blocks = sym (length-drop n5 bs) ∙ ap length e5 ∙ long in
    field_then bs at next a.cell _ _ small.0 (first_stands bs next a.cell (a.occasion ∷ a.format ∷ a.field ∷ a.blocks ∷ []) out e)
    ∙ field_then bs at n1 a.occasion _ _ small.1.0 (first_stands bs n1 a.occasion (a.format ∷ a.field ∷ a.blocks ∷ []) out e1)
    ∙ field_then bs at n2 a.format _ _ small.1.1.0 (first_stands bs n2 a.format (a.field ∷ a.blocks ∷ []) out e2)
    ∙ field_then bs at n3 a.field _ _ small.1.1.1.0 (first_stands bs n3 a.field (a.blocks ∷ []) out e3)
    ∙ field_then bs at n4 a.blocks _ _ small.1.1.1.1.0 (first_stands bs n4 a.blocks [] out e4)
    ∙ cond-true (eqb (length bs - n5) a.blocks) _ _ (eq-eqb (length bs - n5) a.blocks left)
    ∙ ap (λ o. Ok (assignment at a.cell a.occasion a.format a.field a.blocks n5 o)) e5

pub configuration_read : (bs : List ℕ) (at next : ℕ) (g : Config) → Small (config_numbers g) → Small (take g.cells g.first) → length (take g.cells g.first) ≡ g.cells → drop next bs ≡ config_body g → configuration_at bs at next ≡ Ok (configuration at g.cells g.occasions g.width g.mode (end_of next (config_numbers g)) (flat_map coded (take g.cells g.first)))
configuration_read bs at next g small firsts long e =
    let vs = take g.cells g.first in
    let rest = flat_map coded vs in
    let n1 = next + length (coded g.cells) in
    let n2 = n1 + length (coded g.occasions) in
    let n3 = n2 + length (coded g.width) in
    let n4 = n3 + length (coded g.mode) in
    let e1 = others_stand bs next g.cells (g.occasions ∷ g.width ∷ g.mode ∷ []) rest e in
    let e2 = others_stand bs n1 g.occasions (g.width ∷ g.mode ∷ []) rest e1 in
    let e3 = others_stand bs n2 g.width (g.mode ∷ []) rest e2 in
    let e4 = others_stand bs n3 g.mode [] rest e3 in
    let held = room bs n3 (coded g.mode) rest (first_stands bs n3 g.mode [] rest e3) in
    let all : n4 + length rest ≡ length bs = omega (arith, held, length_coded g.mode) in
    let fields = ap (fields_at bs at n4) (sym long) ∙ fields_coded bs at n4 vs [] firsts (e4 ∙ sym (append-nil rest)) in
    field_then bs at next g.cells _ _ small.0 (first_stands bs next g.cells (g.occasions ∷ g.width ∷ g.mode ∷ []) rest e)
    ∙ field_then bs at n1 g.occasions _ _ small.1.0 (first_stands bs n1 g.occasions (g.width ∷ g.mode ∷ []) rest e1)
    ∙ field_then bs at n2 g.width _ _ small.1.1.0 (first_stands bs n2 g.width (g.mode ∷ []) rest e2)
    ∙ field_then bs at n3 g.mode _ _ small.1.1.1.0 (first_stands bs n3 g.mode [] rest e3)
    ∙ ap (λ r. after r (λ end. ending (eqb end (length bs)) at (configuration at g.cells g.occasions g.width g.mode n4 (drop n4 bs)))) fields
    ∙ cond-true (eqb (n4 + length rest) (length bs)) _ _ (eq-eqb (n4 + length rest) (length bs) all)
    ∙ ap (λ o. Ok (configuration at g.cells g.occasions g.width g.mode n4 o)) e4
