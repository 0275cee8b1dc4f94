-- Words for lists and answers; some are the library's by other names. Assumes nothing.
use Rattle.std.specs.Prelude.{flat_map, Bool, cond, List, [], ◌∷◌, Some, None, Ok, Err, Option, Result}
pub use Rattle.std.specs.List.{list_all as every, filter as those, range_with_len as counting_from}
use Rattle.std.specs.Option.{option_and_then}
pub use Rattle.std.specs.Option.{option_or as or_else}

-- what f gives at each element, one behind the other
abbrev pub all_of : {X Y : Type 0} → (X → List Y) → List X → List Y
all_of = flat_map

-- the last element, or d where there is none
abbrev pub last_or : {X : Type 0} → X → List X → X
last_or d [] = d
last_or d (x ∷ xs) = last_or x xs

-- go on with what is there
abbrev pub with_some : {X Y : Type 0} → Option X → (X → Option Y) → Option Y
with_some o f = option_and_then f o

-- go on with what was answered, or pass the refusal up
abbrev pub onward : {X Y E : Type 0} → Result X E → (X → Result Y E) → Result Y E
onward (Ok x) f = f x
onward (Err e) f = Err e

-- checks that refuse where they hold: the first of them counts
abbrev pub first_refusing : {E : Type 0} → List (Bool × E) → Option E
first_refusing [] = None
first_refusing (c ∷ cs) = cond c.0 (Some c.1) (first_refusing cs)
