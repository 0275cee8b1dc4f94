-- The cards agree, by what both cards in one call answer and leave. Assumes nothing.
use Rattle.std.proofs.Common.{◌≡◌, ℕ, ◌-◌, ◌*◌, ◌≤◌, Bool, false, List, ◌++◌, length, take, replicate, Ok, Result, sym, refl, ap, ◌∙◌, subst, ap₂, arith}
use Rattle.std.proofs.lemmas.List.{length-append, length-replicate, take_at}
use Rattle.harq.specs.declared.refusals.Refusal.{Refusal}
use Rattle.sink.specs.Bits.{bits_of, bytes_of}
use Rattle.sink.proofs.Packing.{packed_unpacks}
use Rattle.ue.specs.Reports.{gained_by}
use Rattle.ue.proofs.Accepted.{accepted, length_report}
use Rattle.gnb.specs.declared.grants.GrantEntry.{GrantEntry}
use Rattle.gnb.specs.declared.marks.Mark.{Mark}
use Rattle.gnb.specs.Calls.{expected}
use Rattle.gnb.specs.Opening.{opened_by, fresh_batch}
use Rattle.gnb.specs.Readings.{answering, counted}
use Rattle.link.specs.declared.exchanges.Exchanged.{Exchanged}
use Rattle.agreement.specs.Exchanges.{Exchange, sps_list, all_arrived, reported, report_length, report_answered, batch_left, outcome_by}
use Rattle.agreement.specs.Agreement.{Premises, Hold, Agreement}
use Rattle.link.specs.Played.{is_expected, answers, bits_gained, table_marked, marks_marked, opening, if_opened, exchanged_by, exchanged, table_exchanged, marks_exchanged, outcome_of, Agreed, KeepsAgreement}
use Rattle.agreement.proofs.Left.{reading_none}
use Rattle.agreement.proofs.UeSide.{ue_side}
use Rattle.agreement.proofs.Cards.{outcome_with, report_made, answering_is, agreement_by}
use Rattle.link.proofs.Playing.{table_heard, marks_heard}

-- n bytes hold bits that are not too many
module _ (n : ℕ) (bits : List Bool) (few : length bits ≤ 8 * n) where
  abbrev filled : List Bool
  filled = bits ++ replicate (8 * n - length bits) false

  filled_long : length filled ≡ 8 * n
  filled_long = omega (arith, length-append bits (replicate (8 * n - length bits) false), length-replicate (8 * n - length bits) false)

  packed_hold : Hold (bytes_of n filled) bits
  packed_hold = ap (take (length bits)) (packed_unpacks n filled filled_long) ∙ take_at bits (replicate (8 * n - length bits) false) (length bits) refl

module _ (x : Exchange) (p : Premises x) where
  accepts : Ok (fresh_batch x.config (sps_list x)) ≡ opening x
  accepts = sym (ap (λ o. opened_by o x.config (sps_list x)) p.opened)

  few : length (reported x) ≤ 8 * 214
  few =
      let made = (ue_side x p).made in
      omega (arith, length_report x.config (all_arrived x) x.sps (length x.slots) x.room _ made, (accepted x.config (all_arrived x) x.sps (length x.slots) x.room _ made).short)

  -- bytes that hold the report
  abbrev bytes : List ℕ
  bytes = bytes_of 214 (reported x ++ replicate (8 * 214 - length (reported x)) false)

  hold : Hold bytes (reported x)
  hold = packed_hold 214 (reported x) few

  made : report_answered x ≡ Ok (report_length x)
  made = report_made x bytes p (ue_side x p) hold

  answers_so : answering (batch_left x) (length bytes) (report_length x) ≡ answers x
  answers_so = answering_is x bytes p (ue_side x p) hold ∙ sym (ap (is_expected (expected (batch_left x))) made)

  gained_so : take (length (bits_gained x)) (bits_of bytes) ≡ bits_gained x
  gained_so = subst (Hold bytes) (sym (ap (gained_by x.config (all_arrived x) x.sps) made)) hold

  -- what both cards in one call answer and leave is what comes out by their rules
  abbrev answer : Exchanged
  answer = record { expected = expected (batch_left x); report = report_answered x; counts = counted (batch_left x) (table_marked x) (marks_marked x) }

  outcome_so : outcome_by x bytes ≡ outcome_of answer (table_marked x) (marks_marked x)
  outcome_so =
      ap₂ (outcome_with x bytes (report_answered x)) (reading_none x p.opened (length bytes)) answers_so
      ∙ ap₂ (λ (t : List GrantEntry) (m : List Mark). record {
        expected = expected (batch_left x);
        report = report_answered x;
        reading = Ok (counted (batch_left x) t m);
        table = t;
        marks = m;
      }) (table_heard x _ accepts bytes gained_so) (marks_heard x _ accepts bytes gained_so)

  agreed : Agreed x (exchanged x) (table_exchanged x) (marks_exchanged x)
  agreed =
      subst (λ r. Agreed x (exchanged_by r x) (if_opened r (table_marked x) x.table) (if_opened r (marks_marked x) x.marks)) accepts
      (subst (Agreement x) outcome_so (agreement_by x bytes p (ue_side x p) hold))

-- The claim of both cards in one call.
pub keeps_agreement : (x : Exchange) (r : Result Exchanged Refusal) (table : List GrantEntry) (marks : List Mark) →
    r ≡ exchanged x → table ≡ table_exchanged x → marks ≡ marks_exchanged x → KeepsAgreement x r table marks
keeps_agreement x r table marks is left-table left-marks p =
    subst (λ (q : Result Exchanged Refusal). Agreed x q table marks) (sym is)
    (subst (λ (t : List GrantEntry). Agreed x (exchanged x) t marks) (sym left-table)
    (subst (Agreed x (exchanged x) (table_exchanged x)) (sym left-marks) (agreed x p)))
