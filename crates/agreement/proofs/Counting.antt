-- Counting the marks that reading leaves. Assumes nothing.
use Rattle.std.proofs.Common.{◌≡◌, ℕ, ◌+◌, Bool, List, [], ◌∷◌, map, length, take, sym, refl, ap, ◌∙◌, arith}
use Rattle.std.proofs.lemmas.List.{length-append}
use Rattle.std.proofs.lemmas.Simd.{map-map}
use Rattle.gnb.specs.declared.batches.BatchState.{BatchState}
use Rattle.gnb.specs.declared.grants.GrantEntry.{GrantEntry}
use Rattle.gnb.specs.declared.marks.Mark.{Mark}
use Rattle.gnb.specs.declared.marks.Mark.TheVariants.{Negative, Delivered, Unanswered}
use Rattle.gnb.specs.declared.marks.Marks.{Marks}
use Rattle.gnb.specs.Marks.{answered_blocks, unanswered}
use Rattle.gnb.specs.Sending.{Assignment, assignment_in, blocks_sent}
use Rattle.gnb.specs.Readings.{entry_read, table_read, marks_in, entry_marks, how_often}
use Rattle.gnb.proofs.Firsts.{take_firsts}
use Rattle.agreement.proofs.Marking.{size_read, size_unanswered}

-- every mark is one of the three
pub how_often_all : (ms : List Mark) → how_often Delivered ms + how_often Negative ms + how_often Unanswered ms ≡ length ms
how_often_all [] = refl
how_often_all (Negative ∷ ms) = omega (arith, how_often_all ms)
how_often_all (Delivered ∷ ms) = omega (arith, how_often_all ms)
how_often_all (Unanswered ∷ ms) = omega (arith, how_often_all ms)

-- equal at each element
map_same : {X Y : Type 0} (f g : X → Y) → ((x : X) → f x ≡ g x) → (xs : List X) → map f xs ≡ map g xs
map_same f g same [] = refl
map_same {X} {Y} f g same (x ∷ xs) = ap (λ (y : Y). y ∷ map f xs) (same x) ∙ ap (λ (l : List Y). g x ∷ l) (map_same f g same xs)

-- how many marks an entry has
abbrev pub size : GrantEntry → ℕ
size e = length (marks_in e.marks)

-- as many marks as blocks were sent, where each entry has as many as its assignment
pub length_entry_marks : (es : List GrantEntry) (sent : List Assignment) → map size es ≡ map (λ (a : Assignment). answered_blocks a.blocks) sent →
    length (entry_marks es) ≡ blocks_sent sent
length_entry_marks [] [] is = refl
length_entry_marks [] (a ∷ sent) is = let z : ◌≡◌ {A = ℕ} 0 1 = cc in absurd (omega arith)
length_entry_marks (e ∷ es) [] is = let z : ◌≡◌ {A = ℕ} 0 1 = cc in absurd (omega arith)
length_entry_marks (e ∷ es) (a ∷ sent) is =
    let here : size e ≡ answered_blocks a.blocks = cc in
    let rest : map size es ≡ map (λ (a : Assignment). answered_blocks a.blocks) sent = cc in
    omega (arith, length-append (marks_in e.marks) (entry_marks es), length_entry_marks es sent rest)

-- a table that has been read
module _ (b : BatchState) (answers : Bool) (bits : List Bool) (table : List GrantEntry) where
  -- its grants, each marked anew
  pub read_entries : take b.numbered (table_read b answers bits table) ≡ map (entry_read b.config answers bits) (take b.numbered table)
  read_entries = take_firsts (entry_read b.config answers bits) 0 b.numbered table

  -- it holds the same assignments
  pub read_holds : map assignment_in (take b.numbered (table_read b answers bits table)) ≡ map assignment_in (take b.numbered table)
  read_holds = ap (map assignment_in) read_entries ∙ map-map assignment_in (entry_read b.config answers bits) (take b.numbered table)

  -- and a mark for each block of each
  pub read_sizes : (sent : List Assignment) → map (λ (e : GrantEntry). e.marks) (take b.numbered table) ≡ map (λ (a : Assignment). unanswered a.blocks) sent →
      map size (take b.numbered (table_read b answers bits table)) ≡ map (λ (a : Assignment). answered_blocks a.blocks) sent
  read_sizes sent is =
      let es = take b.numbered table in
      let many : Marks → ℕ = λ m. length (marks_in m) in
      ap (map size) read_entries
      ∙ map-map size (entry_read b.config answers bits) es
      ∙ map_same (λ e. size (entry_read b.config answers bits e)) size (λ e. size_read b.config answers bits e.number e.marks) es
      ∙ sym (map-map many (λ (e : GrantEntry). e.marks) es)
      ∙ ap (map many) is
      ∙ map-map many (λ (a : Assignment). unanswered a.blocks) sent
      ∙ map_same (λ a. many (unanswered a.blocks)) (λ a. answered_blocks a.blocks) (λ a. size_unanswered a.blocks) sent
