-- The steps of an exchange, put together. Assumes nothing.
use Rattle.std.specs.List.{list_all}
use Rattle.std.proofs.Common.{◌≡◌, ℕ, ◌≤◌, true, false, List, map, length, take, Some, None, Ok, Err, Option, Result, sym, refl, ap, ◌∙◌, arith}
use Rattle.std.proofs.lemmas.Bool.{eqb-true, le-ltb, or_from, true≢false}
use Rattle.harq.specs.declared.configs.Config.{Config}
use Rattle.harq.specs.declared.refusals.Refusal.{Refusal}
use Rattle.harq.specs.declared.sps.SpsEntry.{SpsEntry}
use Rattle.harq.specs.Words.{onward}
use Rattle.sink.specs.Bits.{bits_of}
use Rattle.ue.specs.declared.declines.Decline.{Decline}
use Rattle.ue.specs.Checks.{judged, length_of}
use Rattle.ue.specs.Reports.{refusal_in, gained_by}
use Rattle.ue.proofs.Accepted.{length_report}
use Rattle.gnb.specs.declared.batches.BatchState.{BatchState}
use Rattle.gnb.specs.declared.grants.GrantEntry.{GrantEntry}
use Rattle.gnb.specs.declared.marks.Mark.{Mark}
use Rattle.gnb.specs.Calls.{expected}
use Rattle.gnb.specs.Opening.{opening_refused, opened_by, fresh_batch, marks_by}
use Rattle.gnb.specs.Sending.{batch_run, table_run}
use Rattle.gnb.specs.Sending.{assignment_in}
use Rattle.gnb.specs.Readings.{table_read, sps_read, too_short, has_place}
use Rattle.agreement.specs.Fates.{arrivals_of}
use Rattle.agreement.specs.Exchanges.{Exchange, sps_list, all_sent, all_arrived, batch_left, table_left, marks_left}
use Rattle.link.specs.Played.{is_expected, answers, bits_gained, table_marked, marks_marked, opening, if_opened}
use Rattle.gnb.proofs.Entries.{entries_fit, entries_placed}
use Rattle.agreement.proofs.Left.{left, sps_left, sps_lent, marks_many}
use Rattle.link.proofs.Heard.{table_same, sps_same}

-- an opening that was accepted: nothing declined it, and nothing is numbered
opened_fresh : (o : Option Refusal) (g : Config) (sps : List SpsEntry) (b : BatchState) → Ok b ≡ opened_by o g sps → (o ≡ None) × (b ≡ fresh_batch g sps)
opened_fresh None g sps b e = let is : b ≡ fresh_batch g sps = cc in (refl, is)
opened_fresh (Some y) g sps b e = let z : ◌≡◌ {A = ℕ} 0 1 = cc in absurd (omega arith)

-- an opening that was declined leaves the marks
declined_marks : (o : Option Refusal) (e : Refusal) (g : Config) (sps : List SpsEntry) (n : ℕ) (marks : List Mark) → Err e ≡ opened_by o g sps → marks_by o n marks ≡ marks
declined_marks None e g sps n marks is = let z : ◌≡◌ {A = ℕ} 0 1 = cc in absurd (omega arith)
declined_marks (Some y) e g sps n marks is = refl

pub marks_kept : (x : Exchange) (e : Refusal) → Err e ≡ opening x → marks_left x ≡ x.marks
marks_kept x e is = declined_marks (opening_refused x.config (sps_list x) (length x.marks)) e x.config (sps_list x) (length (sps_list x)) x.marks is

-- what is left, by opening
pub if_declined : {X : Type 0} (x : Exchange) (e : Refusal) → Err e ≡ opening x → (a b : X) → b ≡ if_opened (opening x) a b
if_declined x e is a b = ap (λ r. if_opened r a b) is

pub if_accepted : {X : Type 0} (x : Exchange) (s : BatchState) → Ok s ≡ opening x → (a b : X) → a ≡ if_opened (opening x) a b
if_accepted x s is a b = ap (λ r. if_opened r a b) is

-- a report by what the checks say of it: its bits are so many
module _ (x : Exchange) where
  gained_as : (r : Result ℕ Decline) → judged x.config (all_arrived x) x.sps (length x.slots) x.room ≡ r → (wanted : ℕ) →
      is_expected wanted (refusal_in (onward r (λ slots. Ok (length_of x.config slots (length x.sps))))) ≡ true →
      length (gained_by x.config (all_arrived x) x.sps (refusal_in (onward r (λ slots. Ok (length_of x.config slots (length x.sps)))))) ≡ wanted
  gained_as (Ok n) e wanted is = length_report x.config (all_arrived x) x.sps (length x.slots) x.room n e ∙ eqb-true _ wanted is
  gained_as (Err d) e wanted is = absurd (true≢false (sym is))

  -- a report that answers has as many bits as are expected
  pub gained_long : answers x ≡ true → length (bits_gained x) ≡ expected (batch_left x)
  gained_long = gained_as (judged x.config (all_arrived x) x.sps (length x.slots) x.room) refl (expected (batch_left x))

module _ (x : Exchange) (b : BatchState) (is : Ok b ≡ opening x) where
  abbrev fresh : BatchState
  fresh = fresh_batch x.config (sps_list x)

  both : (opening_refused x.config (sps_list x) (length x.marks) ≡ None) × (b ≡ fresh)
  both = opened_fresh (opening_refused x.config (sps_list x) (length x.marks)) x.config (sps_list x) b is

  pub unrefused : opening_refused x.config (sps_list x) (length x.marks) ≡ None
  unrefused = both.0

  -- what the calls leave
  pub batch_is : batch_run b x.table x.calls ≡ batch_left x
  batch_is = ap (λ (s : BatchState). batch_run s x.table x.calls) both.1

  pub table_is : table_run b x.table x.calls ≡ table_left x
  table_is = ap (λ (s : BatchState). table_run s x.table x.calls) both.1

  -- the table has an entry for each assignment, and each entry its place
  pub sent_fit : (batch_left x).numbered ≤ length (table_left x)
  sent_fit = entries_fit x.config (sps_list x) x.table x.calls (batch_left x) (table_left x) (left x unrefused)

  pub own : list_all (has_place (batch_left x).numbered) (take (batch_left x).numbered (table_left x)) ≡ true
  own = entries_placed x.config (sps_list x) x.table x.calls (batch_left x) (table_left x) (left x unrefused)

  -- the entries hold what was sent
  pub sent_held : (n : ℕ) → n ≡ (batch_left x).numbered → map assignment_in (take n (table_left x)) ≡ all_sent x
  sent_held n e = ap (λ (k : ℕ). map assignment_in (take k (table_left x))) e ∙ (left x unrefused).holds

  -- and what arrives of them is what the UE has
  pub arrived_is : (n : ℕ) (table : List GrantEntry) → n ≡ (batch_run b x.table x.calls).numbered → table ≡ table_run b x.table x.calls →
      arrivals_of x.fates (map assignment_in (take n table)) ≡ all_arrived x
  arrived_is n table e is-table =
      ap (λ (t : List GrantEntry). arrivals_of x.fates (map assignment_in (take n t))) (is-table ∙ table_is)
      ∙ ap (arrivals_of x.fates) (sent_held n (e ∙ ap (λ (s : BatchState). s.numbered) batch_is))

  -- what is lent is long enough
  pub lent : too_short (batch_left x) (length (table_left x)) (length (marks_left x)) ≡ false
  lent = or_from _ _ (le-ltb (length (table_left x)) (batch_left x).numbered sent_fit) (le-ltb (length (marks_left x)) (batch_left x).sps (omega (arith, sps_left x unrefused, sps_lent x unrefused, marks_many x unrefused)))

  -- reading bytes that hold the bits gained is reading these bits
  module _ (bytes : List ℕ) (holds : take (length (bits_gained x)) (bits_of bytes) ≡ bits_gained x) where
    pub table_heard : table_read (batch_left x) (answers x) (bits_of bytes) (table_left x) ≡ table_marked x
    table_heard = table_same (answers x) (bits_gained x) (bits_of bytes) (λ _. holds) (batch_left x) (gained_long x) (table_left x) own

    pub marks_heard : sps_read (batch_left x) (answers x) (bits_of bytes) (marks_left x) ≡ marks_marked x
    marks_heard = sps_same (answers x) (bits_gained x) (bits_of bytes) (λ _. holds) (batch_left x) (gained_long x) (marks_left x)
