-- Counting marks. Assumes nothing.
use Rattle.std.proofs.Common.{◌≡◌, ℕ, ◌+◌, ◌≤◌, List, [], ◌∷◌, ◌++◌, length, refl, ap, arith}
use Rattle.harq.specs.Words.{all_of}
use Rattle.gnb.specs.declared.counts.Counts.{Counts}
use Rattle.gnb.specs.declared.marks.Mark.{Mark}
use Rattle.gnb.specs.declared.marks.Mark.TheVariants.{Negative, Delivered, Unanswered}
use Rattle.gnb.specs.declared.marks.Marks.{Marks}
use Rattle.gnb.specs.declared.marks.Marks.TheVariants.{One, Two}
use Rattle.gnb.specs.Readings.{marks_in, how_often, with_marks, marked}

pub often_append : (m : Mark) (xs ys : List Mark) → how_often m (xs ++ ys) ≡ how_often m xs + how_often m ys
often_append m [] ys = omega arith
often_append m (x ∷ xs) ys = omega (arith, often_append m xs ys)

-- counts with the same granted, by their three numbers
counts_are : (granted d d' n n' u u' : ℕ) → d ≡ d' → n ≡ n' → u ≡ u' →
    ◌≡◌ {A = Counts} (record { granted = granted; delivered = d; negative = n; unanswered = u }) (record { granted = granted; delivered = d'; negative = n'; unanswered = u' })
counts_are granted d d' n n' u u' p q r = cc

-- marks counted one list after the other
pub with_more : (c : Counts) (xs ys : List Mark) → with_marks (with_marks c xs) ys ≡ with_marks c (xs ++ ys)
with_more c xs ys =
    counts_are c.granted _ _ _ _ _ _
    (omega (arith, often_append Delivered xs ys)) (omega (arith, often_append Negative xs ys)) (omega (arith, often_append Unanswered xs ys))

-- each mark is one of the three
pub marked_one : (c : Counts) (m : Mark) → marked (with_marks c (m ∷ [])) ≡ marked c + 1
marked_one c Negative = omega arith
marked_one c Delivered = omega arith
marked_one c Unanswered = omega arith

pub marked_more : (c : Counts) (xs : List Mark) → marked (with_marks c xs) ≡ marked c + length xs
marked_more c [] = omega arith
marked_more c (x ∷ xs) =
    omega (arith, ap marked (with_more c (x ∷ []) xs), marked_more (with_marks c (x ∷ [])) xs, marked_one c x)

pub marks_few : (m : Marks) → length (marks_in m) ≤ 2
marks_few (One a) = omega arith
marks_few (Two a b) = omega arith

pub marks_alone : (marks : List Mark) → all_of (λ m. marks_in (One m)) marks ≡ marks
marks_alone [] = refl
marks_alone (m ∷ marks) = ap (λ (l : List Mark). m ∷ l) (marks_alone marks)
