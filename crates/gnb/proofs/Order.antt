-- The assignments of accepted calls are within limits, and rise by occasion and then cell. Assumes nothing.
use Rattle.std.proofs.Common.{◌≡◌, ℕ, ◌+◌, ◌<◌, ◌≤◌, true, ◌⊎◌, List, [], ◌∷◌, ◌++◌, length, is_some, Some, None, Option, refl, inl, inr, arith}
use Rattle.harq.specs.declared.configs.Config.{Config}
use Rattle.harq.specs.declared.sps.SpsEntry.{SpsEntry}
use Rattle.harq.specs.Configs.{counts, layout_of, blocks_within}
use Rattle.gnb.specs.declared.batches.BatchState.{BatchState}
use Rattle.gnb.specs.declared.grants.Grant.{Grant}
use Rattle.gnb.specs.Limits.{next_occasion}
use Rattle.gnb.specs.Opening.{fresh_batch}
use Rattle.gnb.specs.Sending.{Call, Assignment, assignments, numbered_from, sent}
use Rattle.gnb.proofs.Accepted.{AllGranted, after_call, AllTaken, accepted_taken}

-- the limits of an assignment that is sent
pub record Sendable (g : Config) (a : Assignment) : Type 0 where
  pub below : a.cell < g.cells
  pub within : a.occasion < g.occasions
  pub counted : counts g a.cell a.occasion ≡ true
  pub laid : is_some (layout_of g a.format) ≡ true
  pub sized : blocks_within g a.blocks ≡ true

-- a pair (occasion, cell) above the last one
abbrev pub Above : Option (ℕ × ℕ) → ℕ → ℕ → Type 0
Above None occasion cell = Unit {0}
Above (Some p) occasion cell = (p.0 < occasion) ⊎ ((p.0 ≡ occasion) × (p.1 < cell))

-- each within limits and above the one before it
abbrev pub InOrder : Config → Option (ℕ × ℕ) → List Assignment → Type 0
InOrder g last [] = Unit {0}
InOrder g last (a ∷ rest) = Sendable g a × Above last a.occasion a.cell × InOrder g (Some (a.occasion, a.cell)) rest

-- the last one has an occasion below that
abbrev pub Earlier : Option (ℕ × ℕ) → ℕ → Type 0
Earlier None occasion = Unit {0}
Earlier (Some p) occasion = p.0 < occasion

above_higher : (last : Option (ℕ × ℕ)) (m low cell : ℕ) → low ≤ cell → Above last m low → Above last m cell
above_higher None m low cell le h = tt
above_higher (Some p) m low cell le (inl h) = inl h
above_higher (Some p) m low cell le (inr h) = inr (h.0, omega (arith, h.1))

above_earlier : (last : Option (ℕ × ℕ)) (m cell : ℕ) → Above last m cell → Earlier last (m + 1)
above_earlier None m cell h = tt
above_earlier (Some p) m cell (inl h) = omega arith
above_earlier (Some p) m cell (inr h) = omega (arith, h.0)

earlier_above : (last : Option (ℕ × ℕ)) (next m cell : ℕ) → next ≤ m → Earlier last next → Above last m cell
earlier_above None next m cell le h = tt
earlier_above (Some p) next m cell le h = inl (omega arith)

call_in_order : (g : Config) (m lowest total n : ℕ) (last : Option (ℕ × ℕ)) (gs : List Grant) (rest : List Assignment) → m < g.occasions →
    AllGranted g m lowest gs → Above last m lowest → ((l : Option (ℕ × ℕ)) → Earlier l (m + 1) → InOrder g l rest) →
    InOrder g last (assignments g m total n gs ++ rest)
call_in_order g m lowest total n last [] rest within all above on = on last (above_earlier last m lowest above)
call_in_order g m lowest total n last (a ∷ gs) rest within all above on = (
  record { below = all.0.below; within = within; counted = all.0.counted; laid = all.0.laid; sized = all.0.sized },
  above_higher last m lowest a.cell all.0.above above,
  call_in_order g m (a.cell + 1) total (n + 1) (Some (m, a.cell)) gs rest within all.1 (inr (refl, omega arith)) on,
)

pub calls_in_order : (b : BatchState) (table : ℕ) (last : Option (ℕ × ℕ)) (cs : List Call) → AllTaken b table cs → Earlier last (next_occasion b.last) →
    InOrder b.config last (numbered_from b.config b.numbered cs)
calls_in_order b table last [] all earlier = tt
calls_in_order b table last (c ∷ cs) all earlier =
    let n = b.numbered + length c.grants in
    call_in_order b.config c.occasion 0 n b.numbered last c.grants (numbered_from b.config n cs) all.0.within all.0.each
    (earlier_above last (next_occasion b.last) c.occasion 0 all.0.later earlier) (λ l e. calls_in_order (after_call b c) table l cs all.1 e)

pub sent_in_order : (g : Config) (sps : List SpsEntry) (table : ℕ) (calls : List Call) → InOrder g None (sent g sps table calls)
sent_in_order g sps table calls = calls_in_order (fresh_batch g sps) table None _ (accepted_taken (fresh_batch g sps) table calls) tt
