-- What a list of calls leaves at a freshly opened gNB. Assumes nothing.
use Rattle.std.proofs.Common.{◌≡◌, ℕ, ◌+◌, ◌<◌, ◌≤◌, true, false, List, ◌++◌, map, length, get_or, take, drop, is_some, Some, None, Ok, Option, sym, refl, ap, ◌∙◌, subst, subst₂, mul-le-mul, arith}
use Rattle.std.proofs.lemmas.List.{take_at, drop_at, get_or-map}
use Rattle.std.proofs.lemmas.Bool.{leb-true, and_parts, not-false}
use Rattle.std.proofs.lemmas.Bool.Decides.{nat_tests}
use Rattle.harq.specs.declared.configs.Config.{Config}
use Rattle.harq.specs.declared.refusals.Refusal.{Refusal}
use Rattle.harq.specs.declared.sps.SpsEntry.{SpsEntry}
use Rattle.harq.specs.Words.{counting_from}
use Rattle.harq.specs.Configs.{config_within, bits_per_place}
use Rattle.harq.specs.SpsLists.{unfit_from}
use Rattle.harq.proofs.Rows.{get_or_counting_from}
use Rattle.harq.proofs.SpsWalk.{fit_few}
use Rattle.gnb.specs.declared.batches.BatchState.{BatchState}
use Rattle.gnb.specs.declared.grants.GrantEntry.{GrantEntry}
use Rattle.gnb.specs.Calls.{expected}
use Rattle.gnb.specs.Opening.{opening_refused, opened, opened_by, fresh_batch}
use Rattle.gnb.specs.Sending.{Call, Assignment, accepted_calls, numbered_from, batch_run, table_run, assignment_in, Sent, SentStands}
use Rattle.gnb.proofs.Accepted.{passes, AllTaken, accepted_taken}
use Rattle.gnb.proofs.Runs.{after_calls, table_after_calls, run_accepted, numbers_from, entries_from, held_from, length_entries_from, unmarked_from, numbered_after, granted_after, config_after, sps_after, table_after_is, few_after, sound_after, length_table_after_calls}

-- the limits of an opened batch
pub record Opened (g : Config) (sps : List SpsEntry) (b : BatchState) : Type 0 where
  pub is : b ≡ fresh_batch g sps
  pub cells : g.cells ≤ 16
  pub occasions : g.occasions ≤ 32
  pub listed : length sps ≤ 64

none_there : {X : Type 0} (o : Option X) → is_some o ≡ false → o ≡ None
none_there None e = refl
none_there (Some x) e = let z : ◌≡◌ {A = ℕ} 0 1 = cc in absurd (omega arith)

within_limits : (g : Config) → config_within g ≡ true → (g.cells ≤ 16) × (g.occasions ≤ 32)
within_limits g e =
    let numbers = and_parts _ _ (and_parts _ _ e).0 in
    let occasions = and_parts _ _ (and_parts _ _ numbers.1).0 in
    (leb-true g.cells 16 (and_parts _ _ numbers.0).1, leb-true g.occasions 32 occasions.1)

opening_passes : (g : Config) (sps : List SpsEntry) (marks : ℕ) → opening_refused g sps marks ≡ None →
    (config_within g ≡ true) × (unfit_from (λ e. e) (λ _. true) g 0 None sps ≡ None)
opening_passes g sps marks e =
    let p = passes _ _ _ e in
    (not-false _ p.0, none_there _ (passes _ _ _ p.1).0)

pub opened_within : (g : Config) (sps : List SpsEntry) (marks : ℕ) (b : BatchState) → opened g sps marks ≡ Ok b → Opened g sps b
opened_within g sps marks b is = go (opening_refused g sps marks) refl is
  where
    go : (o : Option Refusal) → opening_refused g sps marks ≡ o → opened_by o g sps ≡ Ok b → Opened g sps b
    go None none ok =
        let p = opening_passes g sps marks none in
        let limits = within_limits g p.0 in
        record {
          is = let e : fresh_batch g sps ≡ b = cc in sym e;
          cells = limits.0;
          occasions = limits.1;
          listed = omega (arith, fit_few (λ e. e) (λ _. true) g sps 0 None (omega arith) p.1);
        }
    go (Some e) some ok = let z : ◌≡◌ {A = ℕ} 0 1 = cc in absurd (omega arith)

two_bits : (g : Config) → bits_per_place g ≤ 2
two_bits g = grind (arith, nat_tests)

module _ (g : Config) (sps : List SpsEntry) (table : List GrantEntry) (calls : List Call) where
  -- the accepted calls, and the state and the table that they leave
  abbrev pub accepted : List Call
  accepted = accepted_calls (fresh_batch g sps) (length table) calls

  abbrev pub batch_left : BatchState
  batch_left = after_calls (fresh_batch g sps) accepted

  abbrev pub table_left : List GrantEntry
  table_left = table_after_calls (fresh_batch g sps) table accepted

  all_taken : AllTaken (fresh_batch g sps) (length table) accepted
  all_taken = accepted_taken (fresh_batch g sps) (length table) calls

  many : batch_left.numbered ≡ length (numbered_from g 0 accepted)
  many = omega (arith, numbered_after (fresh_batch g sps) accepted)

  long : length (entries_from g 0 accepted) ≡ batch_left.numbered
  long = length_entries_from g 0 accepted ∙ sym many

  splits : table_left ≡ entries_from g 0 accepted ++ drop batch_left.numbered table
  splits = table_after_is (fresh_batch g sps) table accepted all_taken

  front : take batch_left.numbered table_left ≡ entries_from g 0 accepted
  front = ap (take batch_left.numbered) splits ∙ take_at (entries_from g 0 accepted) (drop batch_left.numbered table) batch_left.numbered long

  short : g.cells ≤ 16 → g.occasions ≤ 32 → length sps ≤ 64 → expected batch_left ≤ 1088
  short cells occasions listed =
      let sound = sound_after (fresh_batch g sps) (length table) accepted all_taken cells (omega arith, omega arith) in
      let small : batch_left.numbered ≤ 512 = omega (arith, sound.0, sound.1) in
      omega (arith, mul-le-mul (two_bits batch_left.config) small, sps_after (fresh_batch g sps) accepted)

  pub sent_left : g.cells ≤ 16 → g.occasions ≤ 32 → length sps ≤ 64 → Sent g sps table calls batch_left table_left
  sent_left cells occasions listed = record {
    many = many;
    numbers = numbers_from g 0 accepted ∙ ap (counting_from 1) (sym many);
    holds = ap (map assignment_in) front ∙ held_from g 0 accepted;
    open_marks = ap (map (λ (e : GrantEntry). e.marks)) front ∙ unmarked_from g 0 accepted;
    others = ap (drop batch_left.numbered) splits ∙ drop_at (entries_from g 0 accepted) (drop batch_left.numbered table) batch_left.numbered long;
    long = length_table_after_calls (fresh_batch g sps) table accepted all_taken;
    blocks = omega (arith, granted_after (fresh_batch g sps) accepted);
    few = omega (arith, few_after (fresh_batch g sps) (length table) accepted all_taken);
    short = short cells occasions listed;
    config = config_after (fresh_batch g sps) accepted;
    listed = sps_after (fresh_batch g sps) accepted;
  }

pub sent_stands : SentStands
sent_stands g sps marks b table calls is =
    let o = opened_within g sps marks b is in
    let run = run_accepted (fresh_batch g sps) table calls in
    subst (λ (s : BatchState). Sent g sps table calls (batch_run s table calls) (table_run s table calls)) (sym o.is)
    (subst₂ (Sent g sps table calls) (sym run.0) (sym run.1) (sent_left g sps table calls o.cells o.occasions o.listed))

-- the number at index i is i + 1
pub number_at : (g : Config) (cs : List Call) (i : ℕ) (d : Assignment) → i < length (numbered_from g 0 cs) → (get_or (numbered_from g 0 cs) i d).number ≡ i + 1
number_at g cs i d h =
    sym (get_or-map (λ (a : Assignment). a.number) (numbered_from g 0 cs) i d 0 h)
    ∙ ap (λ (l : List ℕ). get_or l i 0) (numbers_from g 0 cs)
    ∙ get_or_counting_from 1 (length (numbered_from g 0 cs)) i 0 h ∙ omega arith
