-- What an exchange leaves at the gNB before it reads. Assumes nothing.
use Rattle.std.proofs.Common.{◌≡◌, ℕ, zero, suc, ◌+◌, ◌-◌, ◌*◌, ◌<◌, ◌≤◌, Bool, true, false, not, ◌&&◌, ltb, leb, List, [], ◌∷◌, ◌++◌, length, get_or, drop, replicate, is_some, Some, None, Option, ap, ◌∙◌, ap₂, arith}
use Rattle.std.proofs.lemmas.List.{length-append, length-replicate, length-drop, length-map}
use Rattle.std.proofs.lemmas.Bool.{and_parts, leb-true, ltb-false, not-false}
use Rattle.harq.specs.declared.configs.Config.{Config}
use Rattle.harq.specs.declared.refusals.Refusal.TheVariants as why
use Rattle.harq.specs.declared.sps.SpsEntry.{SpsEntry}
use Rattle.harq.specs.Words.{first_refusing}
use Rattle.harq.specs.Configs.{width_within, numbers_within, config_within, bits_per_place, blocks_within}
use Rattle.harq.specs.SpsLists.{unfit_from}
use Rattle.ue.specs.declared.arrivals.SpsOutcome.{SpsOutcome}
use Rattle.gnb.specs.declared.marks.Mark.{Mark}
use Rattle.gnb.specs.declared.marks.Mark.TheVariants.{Unanswered}
use Rattle.gnb.specs.Calls.{expected}
use Rattle.gnb.specs.Opening.{opening_refused, opened_by, fresh_batch, marks_by}
use Rattle.gnb.specs.Sending.{Assignment, Sent as Sent-by}
use Rattle.gnb.proofs.Accepted.{passes}
use Rattle.gnb.proofs.Order.{Sendable, InOrder, sent_in_order}
use Rattle.gnb.proofs.Sent.{sent_stands, number_at}
use Rattle.agreement.specs.Exchanges.{Exchange, sps_list, calls_accepted, all_sent, count_sent, assignment, batch_left, table_left, marks_left, reading_why}
use Rattle.agreement.specs.Losses.{Sent}
use Rattle.gnb.proofs.Entries.{entries_fit, entries_placed, reading_accepted}

-- a configuration within limits has a mode up to 2
mode_within : (g : Config) → config_within g ≡ true → g.mode ≤ 2
mode_within g is =
    let cells : Bool = leb 1 g.cells && leb g.cells 16 in
    let occasions : Bool = leb 1 g.occasions && leb g.occasions 32 in
    let rest : Bool = width_within g && leb g.mode 2 in
    let numbers = and_parts cells (occasions && rest) (and_parts (numbers_within g) _ is).0 in
    leb-true g.mode 2 (and_parts (width_within g) (leb g.mode 2) (and_parts occasions rest numbers.1).1).1

-- three checks that refuse nothing
three_pass : {X : Type 0} (a b c : Bool) (x y z : X) → first_refusing ((a, x) ∷ (b, y) ∷ (c, z) ∷ []) ≡ None → (a ≡ false) × (c ≡ false)
three_pass a b c x y z is =
    let p = passes a x (first_refusing ((b, y) ∷ (c, z) ∷ [])) is in
    let q = passes b y (first_refusing ((c, z) ∷ [])) p.1 in
    (p.0, (passes c z None q.1).0)

-- opening that is not declined: the configuration is within limits, and marks enough were lent
opening_tells : (g : Config) (sps : List SpsEntry) (marks : ℕ) → opening_refused g sps marks ≡ None → (config_within g ≡ true) × (length sps ≤ marks)
opening_tells g sps marks is =
    let p = three_pass (not (config_within g)) (is_some (unfit_from (λ e. e) (λ _. true) g 0 None sps)) (ltb marks (length sps)) why.Configuration why.Sps why.Table is in
    (not-false (config_within g) p.0, ltb-false marks (length sps) p.1)

-- each assignment in order is within limits
sendable_at : (g : Config) (last : Option (ℕ × ℕ)) (sent : List Assignment) (i : ℕ) (d : Assignment) → InOrder g last sent → i < length sent → Sendable g (get_or sent i d)
sendable_at g last [] i d all h = absurd (omega arith)
sendable_at g last (a ∷ sent) zero d all h = all.0
sendable_at g last (a ∷ sent) (suc i) d all h = sendable_at g (Some (a.occasion, a.cell)) sent i d all.2 (omega arith)

-- marks of which the first were cleared are as many
length_cleared : (n : ℕ) (marks : List Mark) → n ≤ length marks → length (replicate n Unanswered ++ drop n marks) ≡ length marks
length_cleared n marks h = omega (arith, length-append (replicate n Unanswered) (drop n marks), length-replicate n Unanswered, length-drop n marks)

module _ (x : Exchange) (is : opening_refused x.config (sps_list x) (length x.marks) ≡ None) where
  -- what the calls left
  pub left : Sent-by x.config (sps_list x) x.table x.calls (batch_left x) (table_left x)
  left =
      sent_stands x.config (sps_list x) (length x.marks) (fresh_batch x.config (sps_list x)) x.table x.calls
      (ap (λ o. opened_by o x.config (sps_list x)) is)

  -- the gNB's SPS entries are those of the exchange
  sps_many : length (sps_list x) ≡ length x.sps
  sps_many = length-map x.sps (λ (s : SpsOutcome). s.entry)

  pub sps_left : (batch_left x).sps ≡ length x.sps
  sps_left = left.listed ∙ sps_many

  -- marks enough were lent
  pub sps_lent : length x.sps ≤ length x.marks
  sps_lent = omega (arith, (opening_tells x.config (sps_list x) (length x.marks) is).1, sps_many)

  -- the mode is up to 2
  pub mode_left : x.config.mode ≤ 2
  mode_left = mode_within x.config (opening_tells x.config (sps_list x) (length x.marks) is).0

  -- opening left as many marks
  pub marks_many : length (marks_left x) ≡ length x.marks
  marks_many =
      ap (λ o. length (marks_by o (length (sps_list x)) x.marks)) is
      ∙ length_cleared (length (sps_list x)) x.marks (omega (arith, sps_lent, sps_many))

  -- a place for each assignment, and a bit for each SPS entry
  pub expects : expected (batch_left x) ≡ bits_per_place x.config * count_sent x + length x.sps
  expects =
      ap₂ (λ (g : Config) (n : ℕ). bits_per_place g * n + (batch_left x).sps) left.config left.many
      ∙ ap (λ n. bits_per_place x.config * count_sent x + n) sps_left

  -- reading is not declined
  pub reading_none : (bytes : ℕ) → reading_why x bytes ≡ None
  reading_none bytes =
      reading_accepted (batch_left x) (table_left x) (length x.marks) bytes _
      (entries_fit x.config (sps_list x) x.table x.calls (batch_left x) (table_left x) left)
      (omega (arith, sps_left, sps_lent))
      (entries_placed x.config (sps_list x) x.table x.calls (batch_left x) (table_left x) left)

-- the assignment of number k: its number, and its block count within limits
module _ (x : Exchange) (k : ℕ) (s : Sent x k) where
  pub number_is : (assignment x k).number ≡ k
  number_is = number_at x.config (calls_accepted x) (k - 1) _ (omega (arith, s.0, s.1)) ∙ omega (arith, s.0)

  pub sized_is : blocks_within x.config (assignment x k).blocks ≡ true
  sized_is =
      (sendable_at x.config None (all_sent x) (k - 1) _ (sent_in_order x.config (sps_list x) (length x.table) x.calls) (omega (arith, s.0, s.1))).sized
