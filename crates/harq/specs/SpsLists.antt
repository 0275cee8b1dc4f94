-- The SPS list: at most 64 entries, within limits, strictly rising by cell, configuration and slot. Assumes nothing.
use Rattle.std.specs.Prelude.{ℕ, ◌+◌, Bool, true, cond, ◌&&◌, ◌||◌, List, [], ◌∷◌, Some, None, Option, ◌==◌, nat_le, nat_lt}
use Rattle.harq.specs.declared.configs.Config.{Config}
use Rattle.harq.specs.declared.sps.SpsEntry.{SpsEntry}

-- the limits of an entry
abbrev pub entry_within : Config → SpsEntry → Bool
entry_within g e = nat_lt e.cell g.cells && (nat_le e.configuration 7 && nat_le e.slot 255)

-- an entry is above the one before it
abbrev pub entry_above : Option SpsEntry → SpsEntry → Bool
entry_above None e = true
entry_above (Some p) e =
    nat_lt p.cell e.cell ||
    (p.cell == e.cell &&
    (nat_lt p.configuration e.configuration || (p.configuration == e.configuration && nat_lt p.slot e.slot)))

-- the entry at that index of a list may stand behind `previous`
abbrev pub entry_fits : Config → ℕ → Option SpsEntry → SpsEntry → Bool
entry_fits g index previous e = nat_lt index 64 && (entry_within g e && entry_above previous e)

-- The index of the first element of a list that does not fit, or none. `listed` is the entry of an element, and `sound` holds where what
-- comes with it is within limits.
abbrev pub unfit_from : {X : Type 0} → (X → SpsEntry) → (X → Bool) → Config → ℕ → Option SpsEntry → List X → Option ℕ
unfit_from listed sound g index previous [] = None
unfit_from listed sound g index previous (x ∷ xs) =
    cond (entry_fits g index previous (listed x) && sound x)
    (unfit_from listed sound g (index + 1) (Some (listed x)) xs)
    (Some index)
