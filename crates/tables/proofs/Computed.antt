-- A table is computed: a test finds the rows that do not hold, and where there are none, every row holds. Assumes nothing.
use Rattle.std.proofs.Common.{◌≡◌, ℕ, Bool, true, false, cond, ◌&&◌, T, eqb, List, [], ◌∷◌, Some, None, Option, refl, ap, arith, eqb→eq}
use Prim.Native.String.{String}
use lib.Text.{eqt, eqt→eq}
use Rattle.ue.specs.declared.declines.Part.{Part}
use Rattle.ue.specs.declared.declines.Part.TheVariants.{Configuration, Arrival, Sps, Whole}
use Rattle.tables.specs.Rows.{Row, Holds, Told, Reported, Declined}

-- the rows in which something else came, with what came, by a test for the same
abbrev pub wrong_by : {X : Type 0} → (X → X → Bool) → List (Row X) → List (String × X)
wrong_by same [] = []
wrong_by same (r ∷ rows) = cond (same r.came r.due) (wrong_by same rows) ((r.shows, r.came) ∷ wrong_by same rows)

-- a test holds of what is the same alone
abbrev Tells : {X : Type 0} → (X → X → Bool) → Type 0
Tells {X} same = (a b : X) → T (same a b) → a ≡ b

step : {X : Type 0} → (r : Row X) (rest : List (String × X)) (b : Bool) → (T b → r.came ≡ r.due) →
    cond b rest ((r.shows, r.came) ∷ rest) ≡ [] → (r.came ≡ r.due) × (rest ≡ [])
step r rest true same h = (same tt, h)
step r rest false same h = let z : ◌≡◌ {A = ℕ} 0 1 = cc in absurd (omega (arith, z))

holds_by : {X : Type 0} → (same : X → X → Bool) → Tells same → (rows : List (Row X)) → wrong_by same rows ≡ [] → Holds rows
holds_by same tells [] h = tt
holds_by same tells (r ∷ rows) h =
    let s = step r (wrong_by same rows) (same r.came r.due) (tells r.came r.due) h in
    (s.0, holds_by same tells rows s.1)

both : (a b : Bool) → T (a && b) → T a × T b
both true b t = (tt, t)
both false b t = absurd t

-- the same list
abbrev pub same_list : {X : Type 0} → (X → X → Bool) → List X → List X → Bool
same_list same [] [] = true
same_list same [] (y ∷ ys) = false
same_list same (x ∷ xs) [] = false
same_list same (x ∷ xs) (y ∷ ys) = same x y && same_list same xs ys

list_tells : {X : Type 0} → (same : X → X → Bool) → Tells same → Tells (same_list same)
list_tells same tells [] [] t = refl
list_tells same tells [] (y ∷ ys) t = absurd t
list_tells same tells (x ∷ xs) [] t = absurd t
list_tells same tells (x ∷ xs) (y ∷ ys) t =
    let s = both (same x y) (same_list same xs ys) t in
    let first = tells x y s.0 in
    let others = list_tells same tells xs ys s.1 in cc

-- the same answer, or none both times
abbrev pub same_option : {X : Type 0} → (X → X → Bool) → Option X → Option X → Bool
same_option same None None = true
same_option same None (Some y) = false
same_option same (Some x) None = false
same_option same (Some x) (Some y) = same x y

option_tells : {X : Type 0} → (same : X → X → Bool) → Tells same → Tells (same_option same)
option_tells same tells None None t = refl
option_tells same tells None (Some y) t = absurd t
option_tells same tells (Some x) None t = absurd t
option_tells same tells (Some x) (Some y) t = ap Some (tells x y t)

-- the same counter and total
abbrev pub same_reading : ℕ × Option ℕ → ℕ × Option ℕ → Bool
same_reading r s = eqb r.0 s.0 && same_option eqb r.1 s.1

reading_tells : Tells same_reading
reading_tells (c, t) (d, u) h =
    let s = both (eqb c d) (same_option eqb t u) h in
    let counters = eqb→eq c d s.0 in
    let totals = option_tells eqb eqb→eq t u s.1 in cc

-- the same part of the input
abbrev pub same_part : Part → Part → Bool
same_part Configuration Configuration = true
same_part Configuration (Arrival j) = false
same_part Configuration (Sps j) = false
same_part Configuration Whole = false
same_part (Arrival i) Configuration = false
same_part (Arrival i) (Arrival j) = eqb i j
same_part (Arrival i) (Sps j) = false
same_part (Arrival i) Whole = false
same_part (Sps i) Configuration = false
same_part (Sps i) (Arrival j) = false
same_part (Sps i) (Sps j) = eqb i j
same_part (Sps i) Whole = false
same_part Whole Configuration = false
same_part Whole (Arrival j) = false
same_part Whole (Sps j) = false
same_part Whole Whole = true

part_tells : Tells same_part
part_tells Configuration Configuration t = refl
part_tells Configuration (Arrival j) t = absurd t
part_tells Configuration (Sps j) t = absurd t
part_tells Configuration Whole t = absurd t
part_tells (Arrival i) Configuration t = absurd t
part_tells (Arrival i) (Arrival j) t = ap Arrival (eqb→eq i j t)
part_tells (Arrival i) (Sps j) t = absurd t
part_tells (Arrival i) Whole t = absurd t
part_tells (Sps i) Configuration t = absurd t
part_tells (Sps i) (Arrival j) t = absurd t
part_tells (Sps i) (Sps j) t = ap Sps (eqb→eq i j t)
part_tells (Sps i) Whole t = absurd t
part_tells Whole Configuration t = absurd t
part_tells Whole (Arrival j) t = absurd t
part_tells Whole (Sps j) t = absurd t
part_tells Whole Whole t = refl

-- the same is told of a batch
abbrev pub same_told : Told → Told → Bool
same_told (Reported n bits) (Reported m others) = eqb n m && eqt bits others
same_told (Reported n bits) (Declined m part) = false
same_told (Declined n part) (Reported m bits) = false
same_told (Declined n part) (Declined m other) = eqb n m && same_part part other

told_tells : Tells same_told
told_tells (Reported n bits) (Reported m others) t =
    let s = both (eqb n m) (eqt bits others) t in
    let lengths = eqb→eq n m s.0 in
    let texts = eqt→eq bits others s.1 in cc
told_tells (Reported n bits) (Declined m part) t = absurd t
told_tells (Declined n part) (Reported m bits) t = absurd t
told_tells (Declined n part) (Declined m other) t =
    let s = both (eqb n m) (same_part part other) t in
    let numbers = eqb→eq n m s.0 in
    let parts = part_tells part other s.1 in cc

-- tables of batches, of texts, of lists of numbers, of lists of readings
pub batches_hold : (rows : List (Row Told)) → wrong_by same_told rows ≡ [] → Holds rows
batches_hold = holds_by same_told told_tells

pub texts_hold : (rows : List (Row String)) → wrong_by eqt rows ≡ [] → Holds rows
texts_hold = holds_by eqt eqt→eq

pub numbers_hold : (rows : List (Row (List ℕ))) → wrong_by (same_list eqb) rows ≡ [] → Holds rows
numbers_hold = holds_by (same_list eqb) (list_tells eqb eqb→eq)

pub readings_hold : (rows : List (Row (List (Option (ℕ × Option ℕ))))) → wrong_by (same_list (same_option same_reading)) rows ≡ [] → Holds rows
readings_hold = holds_by (same_list (same_option same_reading)) (list_tells (same_option same_reading) (option_tells same_reading reading_tells))
