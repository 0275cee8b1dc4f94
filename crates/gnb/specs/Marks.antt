-- Marks of blocks. Assumes nothing.
use Rattle.std.specs.Prelude.{ℕ, Bool, cond, List, nat_lt, codes}
use Rattle.gnb.specs.declared.marks.Mark.{Mark}
use Rattle.gnb.specs.declared.marks.Mark.TheVariants.{Negative, Delivered, Unanswered}
use Rattle.gnb.specs.declared.marks.Marks.{Marks}
use Rattle.gnb.specs.declared.marks.Marks.TheVariants.{One, Two}

-- the number of each mark
abbrev pub mark_number : Mark → ℕ
mark_number Negative = 0
mark_number Delivered = 1
mark_number Unanswered = 2

-- the name of each mark
abbrev pub mark_name : Mark → List ℕ
mark_name Negative = codes "negative"
mark_name Delivered = codes "delivered"
mark_name Unanswered = codes "unanswered"

-- the mark by the bit of a block
abbrev pub mark_of_bit : Bool → Mark
mark_of_bit bit = cond bit Delivered Negative

-- the marks of an entry that no grant has filled
abbrev pub blank : Marks
blank = One Negative

-- the blocks of an assignment that are answered: an SPS release or a dormancy message (none) counts as one
abbrev pub answered_blocks : ℕ → ℕ
answered_blocks blocks = cond (nat_lt blocks 2) 1 2

-- the marks of an assignment that has not been answered
abbrev pub unanswered : ℕ → Marks
unanswered blocks = cond (nat_lt blocks 2) (One Unanswered) (Two Unanswered Unanswered)
