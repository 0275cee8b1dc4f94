-- A block's mark, by its bit. Assumes nothing.
use Rattle.std.proofs.Common.{◌≡◌, ℕ, zero, suc, ◌<◌, ◌≤◌, Bool, true, false, cond, eqb, ltb, ◌⊎◌, ◌↔◌, List, length, get_or, Decides, sym, refl, ◌∙◌, inl, inr, arith}
use Rattle.std.proofs.lemmas.Bool.{eqb-true, eq-eqb, and_parts, and_from, or_cases, leb-true, ltb-true, both_ways, cases_Bool}
use Rattle.std.proofs.lemmas.Bool.Decides.{nat_tests as tells}
use Rattle.harq.specs.declared.configs.Config.{Config}
use Rattle.harq.specs.Configs.{bits_per_place, blocks_within}
use Rattle.ue.specs.declared.slots.Slot.{Slot}
use Rattle.ue.specs.declared.slots.Slot.TheVariants as slot
use Rattle.ue.specs.Slots.{place_bits}
use Rattle.gnb.specs.declared.marks.Mark.{Mark}
use Rattle.gnb.specs.declared.marks.Mark.TheVariants.{Negative, Delivered, Unanswered}
use Rattle.gnb.specs.declared.marks.Marks.{Marks}
use Rattle.gnb.specs.declared.marks.Marks.TheVariants.{One, Two}
use Rattle.gnb.specs.Marks.{answered_blocks, unanswered}
use Rattle.gnb.specs.Readings.{mark_by, block_bit, marks_by, marks_in}

-- the numbers up to 2
upto_two : (P : ℕ → Type 0) → P 0 → P 1 → P 2 → (n : ℕ) → n ≤ 2 → P n
upto_two P a b c zero h = a
upto_two P a b c (suc zero) h = b
upto_two P a b c (suc (suc zero)) h = c
upto_two P a b c (suc (suc (suc n))) h = absurd (omega arith)

-- block d of that many decoded, with these outcomes; and where blocks are bundled every block
abbrev pub BlockCame : ℕ → List ℕ → ℕ → Type 0
BlockCame blocks outcomes d = (blocks ≡ 0) ⊎ (get_or outcomes d 0 ≡ 1)

abbrev pub Came : ℕ → ℕ → List ℕ → ℕ → Type 0
Came mode blocks outcomes d = BlockCame blocks outcomes d × (mode ≡ 2 → (e : ℕ) → e < answered_blocks blocks → BlockCame blocks outcomes e)

-- the outcomes that an arrival brought
abbrev pub slot_by : ℕ → List ℕ → Slot
slot_by blocks outcomes =
    cond (eqb blocks 0) (slot.One true) (cond (eqb blocks 1) (slot.One (eqb (get_or outcomes 0 0) 1)) (slot.Two (eqb (get_or outcomes 0 0) 1) (eqb (get_or outcomes 1 0) 1)))

-- the bit of block d among those of its place
abbrev pub own_bit : ℕ → ℕ → List ℕ → ℕ → Bool
own_bit mode blocks outcomes d = get_or (place_bits mode (slot_by blocks outcomes)) (cond (eqb mode 1) d 0) false

-- one bit in every mode
one_bit : (x : Bool) (mode : ℕ) → mode ≤ 2 → get_or (place_bits mode (slot.One x)) (cond (eqb mode 1) 0 0) false ≡ x
one_bit x = upto_two (λ mode. get_or (place_bits mode (slot.One x)) (cond (eqb mode 1) 0 0) false ≡ x) refl refl refl

-- of none, and of one block
none_tells : (mode d : ℕ) (o : List ℕ) → mode ≤ 2 → d < 1 → Decides (own_bit mode 0 o d) (Came mode 0 o d)
none_tells mode zero o m h = (λ _. (inl refl, λ _ e l. inl refl), λ _. one_bit true mode m)
none_tells mode (suc d) o m h = absurd (omega arith)

only_block : (o : List ℕ) (e : ℕ) → e < 1 → get_or o 0 0 ≡ 1 → BlockCame 1 o e
only_block o zero h is = inr is
only_block o (suc e) h is = absurd (omega arith)

not_none : (o : List ℕ) (b d : ℕ) → 0 < b → BlockCame b o d → get_or o d 0 ≡ 1
not_none o b d h (inl e) = absurd (omega arith)
not_none o b d h (inr e) = e

one_tells : (mode d : ℕ) (o : List ℕ) → mode ≤ 2 → d < 1 → Decides (own_bit mode 1 o d) (Came mode 1 o d)
one_tells mode zero o m h =
    let same = one_bit (eqb (get_or o 0 0) 1) mode m in (
      λ bit. let is : get_or o 0 0 ≡ 1 = eqb-true (get_or o 0 0) 1 (sym same ∙ bit) in (inr is, λ _ e l. only_block o e l is),
      λ came. same ∙ eq-eqb (get_or o 0 0) 1 (not_none o 1 0 (omega arith) came.0),
    )
one_tells mode (suc d) o m h = absurd (omega arith)

-- of two blocks with a bit each
each_tells : (d : ℕ) (o : List ℕ) → d < 2 → Decides (own_bit 1 2 o d) (Came 1 2 o d)
each_tells zero o h =
    (λ bit. (inr (eqb-true (get_or o 0 0) 1 bit), λ m. absurd (omega arith)), λ came. eq-eqb (get_or o 0 0) 1 (not_none o 2 0 (omega arith) came.0))
each_tells (suc zero) o h =
    (λ bit. (inr (eqb-true (get_or o 1 0) 1 bit), λ m. absurd (omega arith)), λ came. eq-eqb (get_or o 1 0) 1 (not_none o 2 1 (omega arith) came.0))
each_tells (suc (suc d)) o h = absurd (omega arith)

-- of two blocks in one bit
both_blocks : (o : List ℕ) (e : ℕ) → e < 2 → get_or o 0 0 ≡ 1 → get_or o 1 0 ≡ 1 → BlockCame 2 o e
both_blocks o zero h p q = inr p
both_blocks o (suc zero) h p q = inr q
both_blocks o (suc (suc e)) h p q = absurd (omega arith)

both_tell : (d : ℕ) (o : List ℕ) → d < 2 → Decides (own_bit 2 2 o d) (Came 2 2 o d)
both_tell d o h =
    let part : (e : ℕ) → e < 2 → Came 2 2 o d → eqb (get_or o e 0) 1 ≡ true = λ e l came. eq-eqb (get_or o e 0) 1 (not_none o 2 e (omega arith) (came.1 refl e l)) in (
      λ bit.
          let parts = and_parts _ _ bit in
          let p = eqb-true (get_or o 0 0) 1 parts.0 in
          let q = eqb-true (get_or o 1 0) 1 parts.1 in
          (both_blocks o d h p q, λ _ e l. both_blocks o e l p q),
      λ came. and_from _ _ (part 0 (omega arith) came) (part 1 (omega arith) came),
    )

two_tell : (d : ℕ) (o : List ℕ) (mode : ℕ) → mode ≤ 2 → 0 < mode → d < 2 → Decides (own_bit mode 2 o d) (Came mode 2 o d)
two_tell d o =
    upto_two (λ mode. 0 < mode → d < 2 → Decides (own_bit mode 2 o d) (Came mode 2 o d)) (λ z. absurd (omega arith)) (λ _. each_tells d o) (λ _. both_tell d o)

-- the mode has that block count
mode_has : (g : Config) (b : ℕ) → blocks_within g b ≡ true → (b ≤ 2) × ((b ≤ 1) ⊎ (0 < g.mode))
mode_has g b is =
    let parts = and_parts _ _ is in
    (leb-true b 2 parts.0, elim (or_cases _ _ parts.1) [ inl few ↦ inl (leb-true b 1 few) | inr on ↦ inr (ltb-true 0 g.mode on) ])

-- the bit of a block says whether it decoded
pub own_tells : (g : Config) (b d : ℕ) (o : List ℕ) → g.mode ≤ 2 → blocks_within g b ≡ true → d < answered_blocks b → Decides (own_bit g.mode b o d) (Came g.mode b o d)
own_tells g b d o m has =
    let h = mode_has g b has in
    upto_two (λ b. (b ≤ 1) ⊎ (0 < g.mode) → d < answered_blocks b → Decides (own_bit g.mode b o d) (Came g.mode b o d))
    (λ _. none_tells g.mode d o m) (λ _. one_tells g.mode d o m)
    (λ on. two_tell d o g.mode m (omega arith))
    b h.0 h.1

-- a block's bit lies in its place
pub bit_within : (g : Config) (b d : ℕ) → d < answered_blocks b → cond (eqb g.mode 1) d 0 < bits_per_place g
bit_within g b d h = grind (arith, tells)

-- what a mark by a bit says
delivered_by : (answers bit : Bool) → (cond answers (cond bit Delivered Negative) Unanswered ≡ Delivered) ↔ ((answers ≡ true) × (bit ≡ true))
delivered_by true true = (λ _. (refl, refl), λ _. refl)
delivered_by true false = (λ e. let z : ◌≡◌ {A = ℕ} 0 1 = cc in absurd (omega arith), λ e. let z : ◌≡◌ {A = ℕ} 0 1 = cc in absurd (omega arith))
delivered_by false bit = (λ e. let z : ◌≡◌ {A = ℕ} 0 1 = cc in absurd (omega arith), λ e. let z : ◌≡◌ {A = ℕ} 0 1 = cc in absurd (omega arith))

unanswered_by : (answers bit : Bool) → (cond answers (cond bit Delivered Negative) Unanswered ≡ Unanswered) ↔ (answers ≡ false)
unanswered_by true true = (λ e. let z : ◌≡◌ {A = ℕ} 0 1 = cc in absurd (omega arith), λ e. let z : ◌≡◌ {A = ℕ} 0 1 = cc in absurd (omega arith))
unanswered_by true false = (λ e. let z : ◌≡◌ {A = ℕ} 0 1 = cc in absurd (omega arith), λ e. let z : ◌≡◌ {A = ℕ} 0 1 = cc in absurd (omega arith))
unanswered_by false bit = (λ _. refl, λ _. refl)

-- so it is delivered where the report answers and the bit holds, and unanswered where it does not answer
module _ {E : Type 0} (m : Mark) (answers bit : Bool) (is : m ≡ cond answers (cond bit Delivered Negative) Unanswered) (equal : Decides answers E) where
  pub mark_delivered : {D : Type 0} → (E → Decides bit D) → (m ≡ Delivered) ↔ (E × D)
  mark_delivered tells = (
    λ e.
        let both = (delivered_by answers bit).0 (sym is ∙ e) in
        let same = equal.0 both.0 in
        (same, (tells same).0 both.1),
    λ both. is ∙ (delivered_by answers bit).1 (equal.1 both.0, (tells both.0).1 both.1),
  )

  pub mark_unanswered : (m ≡ Unanswered) ↔ (E → ⊥)
  mark_unanswered = (
    λ e same. both_ways answers ((unanswered_by answers bit).0 (sym is ∙ e)) (equal.1 same),
    λ differ. is ∙ (unanswered_by answers bit).1 (elim (cases_Bool answers) [ inl t ↦ absurd (differ (equal.0 t)) | inr f ↦ f ]),
  )

-- the mark of block d in an entry that has been read
few_mark : (g : Config) (answers : Bool) (bits : List Bool) (k : ℕ) (few : Bool) (d : ℕ) → d < cond few 1 2 →
    get_or (marks_in (marks_by g answers bits k (cond few (One Unanswered) (Two Unanswered Unanswered)))) d Negative ≡ mark_by answers bits (block_bit g k d)
few_mark g answers bits k true zero h = refl
few_mark g answers bits k true (suc d) h = absurd (omega arith)
few_mark g answers bits k false zero h = refl
few_mark g answers bits k false (suc zero) h = refl
few_mark g answers bits k false (suc (suc d)) h = absurd (omega arith)

pub block_mark : (g : Config) (answers : Bool) (bits : List Bool) (k b d : ℕ) → d < answered_blocks b →
    get_or (marks_in (marks_by g answers bits k (unanswered b))) d Negative ≡ mark_by answers bits (block_bit g k d)
block_mark g answers bits k b d h = few_mark g answers bits k (ltb b 2) d h

-- reading keeps how many marks an entry has
pub size_read : (g : Config) (answers : Bool) (bits : List Bool) (k : ℕ) (m : Marks) → length (marks_in (marks_by g answers bits k m)) ≡ length (marks_in m)
size_read g answers bits k (One m) = refl
size_read g answers bits k (Two m n) = refl

-- as many as its blocks
pub size_unanswered : (b : ℕ) → length (marks_in (unanswered b)) ≡ answered_blocks b
size_unanswered b = elim (ltb b 2) as (λ few. length (marks_in (cond few (One Unanswered) (Two Unanswered Unanswered))) ≡ cond few 1 2) [ true ↦ refl | false ↦ refl ]
