-- What holds of the fields of every layout. Assumes nothing.
use Rattle.std.specs.Prelude.{◌≡◌, ℕ, ◌^◌, ◌<◌, ◌≤◌, true, false, cond, is_some, Some, None, Option}
use Rattle.std.specs.Option.{unwrap_or}
use Rattle.dai.specs.declared.Layout.{Layout}
use Rattle.dai.specs.Values.{value}
use Rattle.dai.specs.Fields.{width, span, has_total, field_of, coded, reading}

-- a value of the span
abbrev pub Within : ℕ → ℕ → Type 0
Within span v = (1 ≤ v) × (v ≤ span)

-- a total is there exactly where the layout has one, and is a value of the span
abbrev pub TotalWithin : Layout → Option ℕ → Type 0
TotalWithin l None = has_total l ≡ false
TotalWithin l (Some t) = (has_total l ≡ true) × Within (span l) t

-- the counter, with the total if the layout has one
abbrev pub told : Layout → ℕ → ℕ → ℕ × Option ℕ
told l counter total = (counter, cond (has_total l) (Some total) None)

-- values that are coded are read back
abbrev pub ValuesReturn : Type 0
ValuesReturn =
    (l : Layout) (v t : ℕ) → Within (span l) v → Within (span l) t → reading l (field_of l v t) ≡ Some (told l v t)

-- of an assignment, the values of its numbers are read back
abbrev pub NumbersReturn : Type 0
NumbersReturn =
    (l : Layout) (number numbered : ℕ) →
    reading l (coded l number numbered) ≡ Some (told l (value (span l) number) (value (span l) numbered))

-- what is read are values of the span
abbrev pub ValuesRead : Type 0
ValuesRead =
    (l : Layout) (f v : ℕ) (o : Option ℕ) → reading l f ≡ Some (v, o) → Within (span l) v × TotalWithin l o

-- what is read is coded back to the field, with any total where there is none
abbrev pub FieldsReturn : Type 0
FieldsReturn =
    (l : Layout) (f v : ℕ) (o : Option ℕ) → reading l f ≡ Some (v, o) → (t : ℕ) → field_of l v (unwrap_or o t) ≡ f

-- a field is accepted exactly when it is below 2 ^ width
abbrev pub AcceptedBelow : Type 0
AcceptedBelow =
    (l : Layout) (f : ℕ) →
    (is_some (reading l f) ≡ true → f < 2 ^ width l) × (f < 2 ^ width l → is_some (reading l f) ≡ true)
