-- Reading bytes that hold a report is reading its bits. Assumes nothing.
use Rattle.std.specs.List.{list_all}
use Rattle.std.proofs.Common.{◌≡◌, ℕ, zero, suc, ◌+◌, ◌-◌, ◌*◌, ◌<◌, ◌≤◌, Bool, true, false, leb, List, [], ◌∷◌, length, get_or, take, sym, refl, ap, ◌∙◌, ap₂, mul-le-mul_left, mul-add, arith}
use Rattle.std.proofs.lemmas.List.{get_or-take}
use Rattle.std.proofs.lemmas.Bool.{and_parts, leb-true}
use Rattle.harq.specs.declared.configs.Config.{Config}
use Rattle.harq.specs.Configs.{bits_per_place}
use Rattle.gnb.specs.declared.batches.BatchState.{BatchState}
use Rattle.gnb.specs.declared.grants.GrantEntry.{GrantEntry}
use Rattle.gnb.specs.declared.marks.Mark.{Mark}
use Rattle.gnb.specs.declared.marks.Marks.{Marks}
use Rattle.gnb.specs.declared.marks.Marks.TheVariants.{One, Two}
use Rattle.gnb.specs.Calls.{expected}
use Rattle.gnb.specs.Readings.{mark_by, block_bit, marks_by, entry_read, firsts, table_read, sps_read, has_place}
use Rattle.agreement.proofs.Marking.{bit_within}

-- the first elements made anew in two ways that are alike on them
firsts_same : {X : Type 0} (f h : ℕ → X → X) (test : X → Bool) (top : ℕ) → ((i : ℕ) (x : X) → i < top → test x ≡ true → f i x ≡ h i x) →
    (k n : ℕ) (xs : List X) → k + n ≤ top → list_all test (take n xs) ≡ true → firsts f k n xs ≡ firsts h k n xs
firsts_same f h test top alike k zero xs le all = refl
firsts_same f h test top alike k (suc n) [] le all = refl
firsts_same f h test top alike k (suc n) (x ∷ xs) le all =
    let p = and_parts (test x) (list_all test (take n xs)) all in
    ap₂ ◌∷◌ (alike k x (omega arith) p.0) (firsts_same f h test top alike (k + 1) n xs (omega arith) p.1)

every_any : {X : Type 0} (xs : List X) → list_all (λ _. true) xs ≡ true
every_any [] = refl
every_any (x ∷ xs) = every_any xs

-- by a bit that both lists have, or where the report does not answer, the mark is the same
module _ (answers : Bool) (bits all : List Bool) (held : answers ≡ true → take (length bits) all ≡ bits) where
  mark_same_by : (a : Bool) → (a ≡ true → take (length bits) all ≡ bits) → (p : ℕ) → (a ≡ true → p < length bits) → mark_by a all p ≡ mark_by a bits p
  mark_same_by false is p h = refl
  mark_same_by true is p h =
      ap (λ (b : Bool). mark_by true (b ∷ []) 0) (sym (get_or-take (length bits) all p false (h refl)) ∙ ap (λ (l : List Bool). get_or l p false) (is refl))

  mark_same : (p : ℕ) → (answers ≡ true → p < length bits) → mark_by answers all p ≡ mark_by answers bits p
  mark_same = mark_same_by answers held

  marks_same : (g : Config) (k : ℕ) (m : Marks) → ((d : ℕ) → d < 2 → answers ≡ true → block_bit g k d < length bits) →
      marks_by g answers all k m ≡ marks_by g answers bits k m
  marks_same g k (One a) h = ap One (mark_same (block_bit g k 0) (h 0 (omega arith)))
  marks_same g k (Two a b) h = ap₂ Two (mark_same (block_bit g k 0) (h 0 (omega arith))) (mark_same (block_bit g k 1) (h 1 (omega arith)))

  -- where a report that answers has the expected length
  module _ (b : BatchState) (long : answers ≡ true → length bits ≡ expected b) where
    bit_below : (k d : ℕ) → 0 < k → k ≤ b.numbered → d < 2 → answers ≡ true → block_bit b.config k d < length bits
    bit_below k d some le h is =
        let w = bits_per_place b.config in
        let next : k - 1 + 1 ≤ b.numbered = omega arith in
        omega (arith, bit_within b.config 2 d h, long is, mul-le-mul_left w next, mul-add w (k - 1) 1)

    entry_same : (e : GrantEntry) → has_place b.numbered e ≡ true → entry_read b.config answers all e ≡ entry_read b.config answers bits e
    entry_same e placed =
        let p = and_parts (leb 1 e.number) (leb e.number b.numbered) placed in
        let some = leb-true 1 e.number p.0 in
        let le = leb-true e.number b.numbered p.1 in
        ap (λ (m : Marks). record { cell = e.cell; occasion = e.occasion; format = e.format; blocks = e.blocks; number = e.number; field = e.field; marks = m })
        (marks_same b.config e.number e.marks (λ d h is. bit_below e.number d (omega arith) le h is))

    -- the table is marked alike
    pub table_same : (table : List GrantEntry) → list_all (has_place b.numbered) (take b.numbered table) ≡ true →
        table_read b answers all table ≡ table_read b answers bits table
    table_same table placed =
        firsts_same (λ _ e. entry_read b.config answers all e) (λ _ e. entry_read b.config answers bits e) (has_place b.numbered) b.numbered
        (λ _ e _ h. entry_same e h) 0 b.numbered table (omega arith) placed

    -- and so are the SPS entries
    pub sps_same : (marks : List Mark) → sps_read b answers all marks ≡ sps_read b answers bits marks
    sps_same marks =
        let start = bits_per_place b.config * b.numbered in
        firsts_same (λ i _. mark_by answers all (start + i)) (λ i _. mark_by answers bits (start + i)) (λ _. true) b.sps
        (λ i _ h _. mark_same (start + i) (λ is. omega (arith, long is))) 0 b.sps marks (omega arith) (every_any (take b.sps marks))
