-- Entries of the grant table, by number. Assumes nothing.
use Rattle.std.specs.Prelude.{ℕ, ◌-◌, cond, ◌&&◌, List, [], ◌∷◌, drop, Some, None, Option, nat_le}
use Rattle.gnb.specs.declared.grants.GrantEntry.{GrantEntry}

-- the front of a list
abbrev pub front : {X : Type 0} → List X → Option X
front [] = None
front (x ∷ xs) = Some x

-- the entry of number k among n: at place k - 1; none outside 1..n or the table
abbrev pub entry_at : ℕ → List GrantEntry → ℕ → Option GrantEntry
entry_at n table k = cond (nat_le 1 k && nat_le k n) (front (drop (k - 1) table)) None
