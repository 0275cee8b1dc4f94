-- What becomes of the assignments on the air. Assumes nothing.
use Rattle.std.specs.Prelude.{ℕ, ◌-◌, false, cond, List, [], ◌∷◌, slice_index, slice_index_or}
use Rattle.ue.specs.declared.arrivals.Arrival.{Arrival}
use Rattle.gnb.specs.Sending.{Assignment}
use Rattle.agreement.specs.declared.fates.Fate.{Fate}

-- lost on the air
abbrev pub lost : Fate
lost = record { arrived = false; outcomes = 0 ∷ 0 ∷ [] }

-- the fate of number k, counted from 1; past the list all is lost
abbrev pub fate_of : List Fate → ℕ → Fate
fate_of fates k = slice_index_or fates (k - 1) lost

-- the outcome of block d (0 or 1)
abbrev pub outcome : Fate → ℕ → ℕ
outcome f d = slice_index f.outcomes d

-- an assignment arrives unaltered, with the outcomes of its blocks
abbrev pub arrival_of : Assignment → Fate → Arrival
arrival_of a f = record {
  cell = a.cell;
  occasion = a.occasion;
  format = a.format;
  field = a.field;
  blocks = a.blocks;
  outcomes = f.outcomes;
}

-- those that arrive, in order
abbrev pub arrivals_of : List Fate → List Assignment → List Arrival
arrivals_of fates [] = []
arrivals_of fates (a ∷ rest) =
    cond (fate_of fates a.number).arrived
    (arrival_of a (fate_of fates a.number) ∷ arrivals_of fates rest)
    (arrivals_of fates rest)
