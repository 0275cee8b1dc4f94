-- The first elements of a list, each made anew by its place; a bit past the end. Assumes nothing.
use Rattle.std.proofs.Common.{◌≡◌, ℕ, zero, suc, ◌+◌, ◌*◌, ◌<◌, Bool, true, false, cond, List, [], ◌∷◌, ◌++◌, map, ltb, length, get_or, take, drop, set, Some, None, is_some, unwrap_or, sym, refl, ap₂, Bor, ap, ◌∙◌, arith}
use Rattle.std.proofs.lemmas.List.{get_or_past}
use Rattle.std.proofs.lemmas.Bool.{ltb-false}
use Rattle.sink.specs.Bits.{bits_of, bit_read}
use Rattle.sink.proofs.Packing.{length_bits}
use Rattle.harq.specs.declared.configs.Config.{Config}
use Rattle.gnb.specs.declared.batches.BatchState.{BatchState}
use Rattle.gnb.specs.declared.grants.GrantEntry.{GrantEntry}
use Rattle.gnb.specs.declared.marks.Mark.{Mark}
use Rattle.gnb.specs.declared.marks.Marks.{Marks}
use Rattle.gnb.specs.declared.marks.Marks.TheVariants.{One, Two}
use Rattle.gnb.specs.Readings.{bits_heard, marks_by, entry_read, firsts, table_read, sps_read}

module _ {X : Type 0} (f : ℕ → X → X) where
  -- the element behind them is as it was
  pub firsts_at : (k n : ℕ) (xs : List X) (d : X) → get_or (firsts f k n xs) n d ≡ get_or xs n d
  firsts_at k zero xs d = refl
  firsts_at k (suc n) [] d = refl
  firsts_at k (suc n) (x ∷ xs) d = firsts_at (k + 1) n xs d

  pub length_firsts : (k n : ℕ) (xs : List X) → length (firsts f k n xs) ≡ length xs
  length_firsts k zero xs = refl
  length_firsts k (suc n) [] = refl
  length_firsts k (suc n) (x ∷ xs) = ap suc (length_firsts (k + 1) n xs)

  -- one of the first elements
  pub get_or_firsts : (k n : ℕ) (xs : List X) (i : ℕ) (d : X) → i < n → i < length xs → get_or (firsts f k n xs) i d ≡ f (k + i) (get_or xs i d)
  get_or_firsts k zero xs i d h l = absurd (omega arith)
  get_or_firsts k (suc n) [] i d h l = absurd (omega arith)
  get_or_firsts k (suc n) (x ∷ xs) zero d h l = let e : k ≡ k + 0 = omega arith in ap (λ (m : ℕ). f m x) e
  get_or_firsts k (suc n) (x ∷ xs) (suc i) d h l =
      let e : (k + 1) + i ≡ k + suc i = omega arith in
      get_or_firsts (k + 1) n xs i d (omega arith) (omega arith) ∙ ap (λ (m : ℕ). f m (get_or xs i d)) e

  -- one more made anew
  firsts_more : (k n : ℕ) (xs : List X) (d : X) → n < length xs → set (firsts f k n xs) n (f (k + n) (get_or xs n d)) ≡ firsts f k (n + 1) xs
  firsts_more k n [] d h = absurd (omega arith)
  firsts_more k zero (x ∷ xs) d h = let z : k + 0 ≡ k = omega arith in ap (λ (m : ℕ). f m x ∷ xs) z
  firsts_more k (suc n) (x ∷ xs) d h =
      let z : k + suc n ≡ (k + 1) + n = omega arith in
      let more : suc (n + 1) ≡ suc n + 1 = omega arith in
      ap (λ (m : ℕ). f k x ∷ set (firsts f (k + 1) n xs) n (f m (get_or xs n d))) z
      ∙ ap (λ (l : List X). f k x ∷ l) (firsts_more (k + 1) n xs d (omega arith))
      ∙ ap (λ (m : ℕ). firsts f k m (x ∷ xs)) more

  -- a turn of a loop that makes the element at n anew
  pub firsts_turn : (n : ℕ) (xs t : List X) (v d : X) → t ≡ firsts f 0 n xs → n < length xs → v ≡ f n (get_or t n d) → set t n v ≡ firsts f 0 (n + 1) xs
  firsts_turn n xs t v d is h made =
      ap (λ (l : List X). set l n v) is
      ∙ ap (set (firsts f 0 n xs) n) (made ∙ ap (λ (l : List X). f n (get_or l n d)) is ∙ ap (f n) (firsts_at 0 n xs d))
      ∙ (let z : n ≡ 0 + n = omega arith in ap (λ (m : ℕ). set (firsts f 0 n xs) n (f m (get_or xs n d))) z)
      ∙ firsts_more 0 n xs d h

  -- the first elements by themselves, and those behind them
  pub firsts_front : (k n : ℕ) (xs : List X) → firsts f k (length (take n xs)) (take n xs) ++ drop n xs ≡ firsts f k n xs
  firsts_front k zero xs = refl
  firsts_front k (suc n) [] = refl
  firsts_front k (suc n) (x ∷ xs) = ap (λ (l : List X). f k x ∷ l) (firsts_front (k + 1) n xs)

  pub take_front : (k n : ℕ) (xs : List X) → take n (firsts f k n xs) ≡ firsts f k (length (take n xs)) (take n xs)
  take_front k zero xs = refl
  take_front k (suc n) [] = refl
  take_front k (suc n) (x ∷ xs) = ap (λ (l : List X). f k x ∷ l) (take_front (k + 1) n xs)

-- all of the first elements, where the place does not count
pub take_firsts : {X : Type 0} (f : X → X) (k n : ℕ) (xs : List X) → take n (firsts (λ _ x. f x) k n xs) ≡ map f (take n xs)
take_firsts f k zero xs = refl
take_firsts f k (suc n) [] = refl
take_firsts f k (suc n) (x ∷ xs) = ap (λ l. f x ∷ l) (take_firsts f (k + 1) n xs)

-- a bit past the bytes is read as no ACK
pub bit_or_none : (bytes : List ℕ) (i : ℕ) → unwrap_or (bit_read bytes i) false ≡ get_or (bits_of bytes) i false
bit_or_none bytes i = go (ltb i (8 * length bytes)) refl
  where
    go : (b : Bool) → ltb i (8 * length bytes) ≡ b → unwrap_or (cond b (Some (get_or (bits_of bytes) i false)) None) false ≡ get_or (bits_of bytes) i false
    go true is = refl
    go false is = sym (get_or_past (bits_of bytes) i false (omega (arith, length_bits bytes, ltb-false i (8 * length bytes) is)))

-- where no report answers, its bits don't count
firsts_same : {X : Type 0} (f g : ℕ → X → X) → ((k : ℕ) (x : X) → f k x ≡ g k x) → (k n : ℕ) (xs : List X) → firsts f k n xs ≡ firsts g k n xs
firsts_same f g same k zero xs = refl
firsts_same f g same k (suc n) [] = refl
firsts_same {X} f g same k (suc n) (x ∷ xs) = ap₂ (λ (y : X) (l : List X). y ∷ l) (same k x) (firsts_same f g same (k + 1) n xs)

unanswered_marks : (g : Config) (bits more : List Bool) (k : ℕ) (m : Marks) → marks_by g false bits k m ≡ marks_by g false more k m
unanswered_marks g bits more k (One a) = refl
unanswered_marks g bits more k (Two a b) = refl

unanswered_entry : (g : Config) (bits more : List Bool) (e : GrantEntry) → entry_read g false bits e ≡ entry_read g false more e
unanswered_entry g bits more e =
    ap (λ (m : Marks). record { cell = e.cell; occasion = e.occasion; format = e.format; blocks = e.blocks; number = e.number; field = e.field; marks = m }) (unanswered_marks g bits more e.number e.marks)

-- what is heard of a report that answers or doesn't
pub table_heard : (b : BatchState) (answers : Bool) (bytes : Bor (List ℕ)) (t : List GrantEntry) →
    table_read b (is_some (cond answers (Some bytes) None)) (bits_heard (cond answers (Some bytes) None)) t ≡ table_read b answers (bits_of bytes.now) t
table_heard b true bytes t = refl
table_heard b false bytes t =
    firsts_same (λ _ e. entry_read b.config false [] e) (λ _ e. entry_read b.config false (bits_of bytes.now) e) (λ _ e. unanswered_entry b.config [] (bits_of bytes.now) e) 0 b.numbered t

pub sps_heard : (b : BatchState) (answers : Bool) (bytes : Bor (List ℕ)) (m : List Mark) →
    sps_read b (is_some (cond answers (Some bytes) None)) (bits_heard (cond answers (Some bytes) None)) m ≡ sps_read b answers (bits_of bytes.now) m
sps_heard b true bytes m = refl
sps_heard b false bytes m = refl
