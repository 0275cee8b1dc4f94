-- The entries of the grant table that numbering leaves. Assumes nothing.
use Rattle.std.proofs.Common.{◌≡◌, ℕ, zero, suc, ◌+◌, ◌<◌, ◌≤◌, Bool, true, ◌&&◌, leb, List, [], ◌∷◌, map, length, get_or, take, None, sym, refl, ap, ◌∙◌, arith}
use Rattle.std.proofs.lemmas.Simd.{map-map}
use Rattle.std.proofs.lemmas.List.{length-map, length-take, get_or-take, get_or-map}
use Rattle.std.proofs.lemmas.Bool.{le-leb, le-ltb, and_from, and_right, or_from, not_from_true, cond-false}
use Rattle.harq.specs.declared.configs.Config.{Config}
use Rattle.harq.specs.declared.sps.SpsEntry.{SpsEntry}
use Rattle.harq.specs.Words.{every, counting_from}
use Rattle.harq.proofs.Rows.{get_or_counting_from}
use Rattle.gnb.specs.declared.batches.BatchState.{BatchState}
use Rattle.gnb.specs.declared.grants.GrantEntry.{GrantEntry}
use Rattle.gnb.specs.declared.marks.Marks.{Marks}
use Rattle.gnb.specs.Marks.{unanswered}
use Rattle.gnb.specs.Sending.{Call, batch_run, table_run}
use Rattle.gnb.specs.Sending.{Assignment, sent, assignment_in, Sent, OwnPlaces}
use Rattle.gnb.specs.Readings.{answering, has_place, reading_refused}
use Rattle.gnb.proofs.Sent.{sent_stands}

-- a test of what is made of each element
every_map : {X Y : Type 0} (test : Y → Bool) (f : X → Y) (xs : List X) → every (λ x. test (f x)) xs ≡ every test (map f xs)
every_map test f [] = refl
every_map test f (x ∷ xs) = ap (λ b. test (f x) && b) (every_map test f xs)

-- counted numbers lie within 1..n
counted_within : (n a m : ℕ) → 1 ≤ a → a + m ≤ n + 1 → every (λ k. leb 1 k && leb k n) (counting_from a m) ≡ true
counted_within n a zero low high = refl
counted_within n a (suc m) low high =
    and_from _ _ (and_from _ _ (le-leb 1 a low) (le-leb a n (omega arith))) (counted_within n (a + 1) m (omega arith) (omega arith))

-- what a list of calls leaves at the gNB
module _ (g : Config) (sps : List SpsEntry) (table : List GrantEntry) (calls : List Call) (b : BatchState) (after : List GrantEntry) (s : Sent g sps table calls b after) where
  -- the entries' own numbers are counted from 1
  pub entry_numbers : map (λ (e : GrantEntry). e.number) (take b.numbered after) ≡ counting_from 1 b.numbered
  entry_numbers =
      sym (map-map (λ (a : Assignment). a.number) assignment_in (take b.numbered after))
      ∙ ap (map (λ (a : Assignment). a.number)) s.holds ∙ s.numbers

  -- so each has a place
  pub entries_placed : every (has_place b.numbered) (take b.numbered after) ≡ true
  entries_placed =
      every_map (λ k. leb 1 k && leb k b.numbered) (λ (e : GrantEntry). e.number) (take b.numbered after)
      ∙ ap (every (λ k. leb 1 k && leb k b.numbered)) entry_numbers
      ∙ counted_within b.numbered 1 b.numbered (omega arith) (omega arith)

  -- there are as many entries as were numbered
  entries_many : length (take b.numbered after) ≡ b.numbered
  entries_many = sym (length-map (take b.numbered after) assignment_in) ∙ ap length s.holds ∙ sym s.many

  -- the number of an entry, and its marks
  pub entry_number : (i : ℕ) (d : GrantEntry) → i < b.numbered → (get_or after i d).number ≡ i + 1
  entry_number i d h =
      ap (λ (e : GrantEntry). e.number) (sym (get_or-take b.numbered after i d h))
      ∙ sym (get_or-map (λ (e : GrantEntry). e.number) (take b.numbered after) i d 0 (omega (arith, entries_many)))
      ∙ ap (λ (l : List ℕ). get_or l i 0) entry_numbers ∙ get_or_counting_from 1 b.numbered i 0 h ∙ omega arith

  pub entry_blank : (i : ℕ) (d : GrantEntry) (none : Assignment) → i < b.numbered → (get_or after i d).marks ≡ unanswered (get_or (sent g sps (length table) calls) i none).blocks
  entry_blank i d none h =
      let blank : Marks = unanswered 0 in
      ap (λ (e : GrantEntry). e.marks) (sym (get_or-take b.numbered after i d h))
      ∙ sym (get_or-map (λ (e : GrantEntry). e.marks) (take b.numbered after) i d blank (omega (arith, entries_many)))
      ∙ ap (λ (l : List Marks). get_or l i blank) s.open_marks
      ∙ get_or-map (λ (a : Assignment). unanswered a.blocks) (sent g sps (length table) calls) i none blank (omega (arith, s.many))

  -- the table has an entry for each
  pub entries_fit : b.numbered ≤ length after
  entries_fit = omega (arith, entries_many, length-take b.numbered after)

-- The card's own table never has an entry whose place is past the report.
pub own_places : OwnPlaces
own_places g sps marks b table calls is =
    entries_placed g sps table calls (batch_run b table calls) (table_run b table calls) (sent_stands g sps marks b table calls is)

-- Reading is not declined, where what is lent is long enough and each entry has a place.
pub reading_accepted : (b : BatchState) (table : List GrantEntry) (marks bytes long : ℕ) → b.numbered ≤ length table → b.sps ≤ marks →
    every (has_place b.numbered) (take b.numbered table) ≡ true → reading_refused b table marks bytes long ≡ None
reading_accepted b table marks bytes long fits lent placed =
    cond-false _ _ _ (or_from _ _ (le-ltb (length table) b.numbered fits) (le-ltb marks b.sps lent))
    ∙ cond-false _ _ _ (and_right (answering b bytes long) _ (not_from_true _ placed))
