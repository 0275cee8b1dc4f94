-- What is known of accepted calls and of their grants. Assumes nothing.
use Rattle.std.proofs.Common.{◌≡◌, ℕ, ◌+◌, ◌<◌, ◌≤◌, Bool, true, false, cond, List, [], ◌∷◌, map, length, is_some, Some, None, Option, refl, arith}
use Rattle.std.specs.List.{AllByRecursion}
use Rattle.std.proofs.lemmas.Bool.{ltb-false, leb-false, not-false}
use Rattle.harq.specs.declared.configs.Config.{Config}
use Rattle.harq.specs.declared.refusals.Refusal.{Refusal}
use Rattle.harq.specs.Words.{or_else}
use Rattle.harq.specs.Configs.{counts, layout_of, blocks_within}
use Rattle.harq.specs.PlacingLaws.{Rising}
use Rattle.gnb.specs.declared.batches.BatchState.{BatchState}
use Rattle.gnb.specs.declared.grants.Grant.{Grant}
use Rattle.gnb.specs.Limits.{next_occasion}
use Rattle.gnb.specs.Calls.{grant_refused, grants_refused, call_refused, batch_by}
use Rattle.gnb.specs.Sending.{Call, accepted_calls}

-- a check that does not refuse does not hold, and the next one does not refuse either
pub passes : {X : Type 0} (b : Bool) (x : X) (o : Option X) → cond b (Some x) o ≡ None → (b ≡ false) × (o ≡ None)
passes true x o e = let z : ◌≡◌ {A = ℕ} 0 1 = cc in absurd (omega arith)
passes false x o e = (refl, e)

pub neither : {X : Type 0} (o p : Option X) → or_else o p ≡ None → (o ≡ None) × (p ≡ None)
neither None p e = (refl, e)
neither (Some x) p e = let z : ◌≡◌ {A = ℕ} 0 1 = cc in absurd (omega arith)

-- an accepted grant, where `lowest` is the lowest cell that may come
pub record Granted (g : Config) (occasion lowest : ℕ) (a : Grant) : Type 0 where
  pub below : a.cell < g.cells
  pub above : lowest ≤ a.cell
  pub counted : counts g a.cell occasion ≡ true
  pub laid : is_some (layout_of g a.format) ≡ true
  pub sized : blocks_within g a.blocks ≡ true

pub granted : (g : Config) (m lowest : ℕ) (a : Grant) → grant_refused g m lowest a ≡ None → Granted g m lowest a
granted g m lowest a e =
    let p = passes _ _ _ e in
    let q = passes _ _ _ p.1 in
    let r = passes _ _ _ q.1 in
    let s = passes _ _ _ r.1 in
    let t = passes _ _ _ s.1 in
    record {
      below = leb-false g.cells a.cell p.0;
      above = ltb-false a.cell lowest q.0;
      counted = not-false _ r.0;
      laid = not-false _ s.0;
      sized = not-false _ t.0;
    }

-- the grants of a call that is accepted: each by itself, cells rising
abbrev pub AllGranted : Config → ℕ → ℕ → List Grant → Type 0
AllGranted g m lowest [] = Unit {0}
AllGranted g m lowest (a ∷ rest) = Granted g m lowest a × AllGranted g m (a.cell + 1) rest

pub all_granted : (g : Config) (m lowest : ℕ) (gs : List Grant) → grants_refused g m lowest gs ≡ None → AllGranted g m lowest gs
all_granted g m lowest [] e = tt
all_granted g m lowest (a ∷ rest) e =
    let p = neither _ _ e in
    (granted g m lowest a p.0, all_granted g m (a.cell + 1) rest p.1)

-- the lowest cell can be lower
pub granted_lower : (g : Config) (m low lowest : ℕ) (a : Grant) → low ≤ lowest → Granted g m lowest a → Granted g m low a
granted_lower g m low lowest a le h = record { below = h.below; above = omega (arith, h.above); counted = h.counted; laid = h.laid; sized = h.sized }

-- each by itself
pub each_granted : (g : Config) (m low lowest : ℕ) (gs : List Grant) → low ≤ lowest → AllGranted g m lowest gs → AllByRecursion (Granted g m low) gs
each_granted g m low lowest [] le h = tt
each_granted g m low lowest (a ∷ rest) le h =
    (granted_lower g m low lowest a le h.0, each_granted g m low (a.cell + 1) rest (omega (arith, h.0.above)) h.1)

-- at most one for each cell
pub granted_few : (g : Config) (m lowest : ℕ) (gs : List Grant) → lowest ≤ g.cells → AllGranted g m lowest gs → lowest + length gs ≤ g.cells
granted_few g m lowest [] le h = omega arith
granted_few g m lowest (a ∷ rest) le h =
    omega (arith, h.0.above, granted_few g m (a.cell + 1) rest (omega (arith, h.0.below)) h.1)

-- a call that is accepted, with a grant table of that length
pub record Taken (b : BatchState) (table : ℕ) (c : Call) : Type 0 where
  pub later : next_occasion b.last ≤ c.occasion
  pub within : c.occasion < b.config.occasions
  pub each : AllGranted b.config c.occasion 0 c.grants
  pub few : length c.grants ≤ b.config.cells
  pub space : b.numbered + length c.grants ≤ table

pub taken : (b : BatchState) (table : ℕ) (c : Call) → call_refused b table c.occasion c.grants ≡ None → Taken b table c
taken b table c e =
    let p = neither _ _ e in
    let q = neither _ _ p.1 in
    let early = passes _ _ _ p.0 in
    let late = passes _ _ _ early.1 in
    let each = all_granted b.config c.occasion 0 c.grants q.0 in
    record {
      later = ltb-false c.occasion (next_occasion b.last) late.0;
      within = leb-false b.config.occasions c.occasion early.0;
      each = each;
      few = omega (arith, granted_few b.config c.occasion 0 c.grants (omega arith) each);
      space = ltb-false table (b.numbered + length c.grants) (passes _ _ _ q.1).0;
    }

-- the state after an accepted call
abbrev pub after_call : BatchState → Call → BatchState
after_call b c = batch_by None b c.occasion c.grants

-- calls that are accepted one after the other
abbrev pub AllTaken : BatchState → ℕ → List Call → Type 0
AllTaken b table [] = Unit {0}
AllTaken b table (c ∷ cs) = Taken b table c × AllTaken (after_call b c) table cs

-- one call of a list, by its refusal
pub by_refusal : (P : Option Refusal → List Call → Type 0) (b : BatchState) (table : ℕ) (c : Call) (cs : List Call) →
    (call_refused b table c.occasion c.grants ≡ None → P None (c ∷ accepted_calls (after_call b c) table cs)) →
    ((e : Refusal) → call_refused b table c.occasion c.grants ≡ Some e → P (Some e) (accepted_calls b table cs)) →
    P (call_refused b table c.occasion c.grants) (accepted_calls b table (c ∷ cs))
by_refusal P b table c cs accepts refuses = go (call_refused b table c.occasion c.grants) refl
  where
    go : (o : Option Refusal) → call_refused b table c.occasion c.grants ≡ o →
        P o (elim o [ None ↦ c ∷ accepted_calls (after_call b c) table cs | Some e ↦ accepted_calls b table cs ])
    go None is = accepts is
    go (Some e) is = refuses e is

pub accepted_taken : (b : BatchState) (table : ℕ) (calls : List Call) → AllTaken b table (accepted_calls b table calls)
accepted_taken b table [] = tt
accepted_taken b table (c ∷ cs) =
    by_refusal (λ _ accepted. AllTaken b table accepted) b table c cs
    (λ is. (taken b table c is, accepted_taken (after_call b c) table cs)) (λ e is. accepted_taken b table cs)

-- the occasions of accepted calls rise strictly
pub occasions_rise : (b : BatchState) (table : ℕ) (cs : List Call) → AllTaken b table cs → Rising (next_occasion b.last) (map (λ (c : Call). c.occasion) cs)
occasions_rise b table [] all = tt
occasions_rise b table (c ∷ cs) all = (all.0.later, occasions_rise (after_call b c) table cs all.1)
