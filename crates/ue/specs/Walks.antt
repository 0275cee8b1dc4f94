-- How the arrivals are judged in one pass. Assumes nothing.
use Rattle.std.specs.Prelude.{ℕ, ◌+◌, ◌*◌, ◌<◌, ◌≤◌, Bool, true, cond, ◌&&◌, ◌||◌, List, [], ◌∷◌, Some, None, Ok, Err, Option, Result, ◌==◌, nat_lt}
use Rattle.std.specs.Coded.{×_prop, Unit-prop, le_prop}
use Rattle.std.proofs.Common.{ap}
use Rattle.harq.specs.declared.configs.Config.{Config}
use Rattle.harq.specs.declared.refusals.Refusal.{Refusal}
use Rattle.harq.specs.declared.refusals.Refusal.TheVariants as why
use Rattle.harq.specs.Words.{onward}
use Rattle.harq.specs.Configs.{span, in_range}
use Rattle.harq.specs.Placers.{fresh, advanced, slots_at}
use Rattle.ue.specs.declared.arrivals.Arrival.{Arrival}
use Rattle.ue.specs.declared.walks.Known.{Known}
use Rattle.ue.specs.declared.walks.Walk.{Walk}
use Rattle.ue.specs.declared.declines.Decline.{Decline}
use Rattle.ue.specs.declared.declines.Part.TheVariants as part
use Rattle.ue.specs.Batches.{dai_of, counting, brought}

-- before the first arrival
abbrev pub start : Config → Walk
start g = record { last = None; known = None; placer = fresh (span g) }

-- the pair (occasion, cell) is above the last
abbrev pub above : Option (ℕ × ℕ) → Arrival → Bool
above None a = true
above (Some p) a = nat_lt p.0 a.occasion || (p.0 == a.occasion && nat_lt p.1 a.cell)

-- the total that is known of an occasion
abbrev pub known_total : Option Known → ℕ → Option ℕ
known_total None occasion = None
known_total (Some k) occasion = cond (k.occasion == occasion) k.total None

-- the total of an occasion with one arrival more; none where the two differ
abbrev pub joined : Option ℕ → Option ℕ → Option (Option ℕ)
joined None t = Some t
joined (Some u) None = Some (Some u)
joined (Some u) (Some t) = cond (u == t) (Some (Some u)) None

-- behind an arrival that does not count
abbrev pub passed : Walk → Arrival → Walk
passed s a = record { last = Some (a.occasion, a.cell); known = s.known; placer = s.placer }

-- behind an arrival that counts, with the counter v, its occasion having the total t
abbrev pub tallied : Walk → Arrival → ℕ → Option ℕ → Walk
tallied s a v t = record {
  last = Some (a.occasion, a.cell);
  known = Some (record { occasion = a.occasion; total = t });
  placer = advanced s.placer v;
}

abbrev pub totalled : Walk → Arrival → ℕ → Option (Option ℕ) → Result Walk Refusal
totalled s a v None = Err why.Totals
totalled s a v (Some t) = Ok (tallied s a v t)

abbrev pub step_read : Config → Walk → Arrival → Option (ℕ × Option ℕ) → Result Walk Refusal
step_read g s a None = Err why.Field
step_read g s a (Some r) =
    cond (brought g a)
    (cond (counting g a) (totalled s a r.0 (joined (known_total s.known a.occasion) r.1)) (Ok (passed s a)))
    (Err why.Blocks)

-- one arrival
abbrev pub step : Config → Walk → Arrival → Result Walk Refusal
step g s a =
    cond (in_range g a.cell a.occasion)
    (cond (above s.last a) (step_read g s a (dai_of g a)) (Err why.Order))
    (Err why.Range)

-- the arrival at index i is the one refused
abbrev pub blamed : {X : Type 0} → ℕ → Result X Refusal → Result X Decline
blamed i (Ok x) = Ok x
blamed i (Err e) = Err (record { refusal = e; part = part.Arrival i })

-- the walk over what is left, from index i on
abbrev pub walk_from : Config → Walk → ℕ → List Arrival → Result Walk Decline
walk_from g s i [] = Ok s
walk_from g s i (a ∷ rest) = onward (blamed i (step g s a)) (λ t. walk_from g t (i + 1) rest)

-- the slot count at the end of a walk
abbrev pub slots_after : Walk → ℕ
slots_after s = elim s.known [
  | None ↦ 0
  | Some k ↦ elim k.total [ None ↦ slots_at s.placer s.placer.previous | Some t ↦ slots_at s.placer t ]
]

-- how far the order has come, as a number
abbrev pub reach : Option (ℕ × ℕ) → ℕ
reach None = 0
reach (Some p) = p.0 * 16 + p.1 + 1

abbrev pub CellFits : Option (ℕ × ℕ) → Type 0
CellFits None = Unit {0}
CellFits (Some p) = p.1 < 16

-- what keeps the numbers small: the order rises below 32 x 16
pub record Sound (g : Config) (s : Walk) : Type 0 where
  pub cells : g.cells ≤ 16
  pub occasions : g.occasions ≤ 32
  pub turns : s.placer.turns ≤ reach s.last
  pub span : s.placer.span ≤ 4
  pub last : reach s.last ≤ 512
  pub cell : CellFits s.last

cell_fits_prop : (last : Option (ℕ × ℕ)) → IsProp (CellFits last)
cell_fits_prop None = Unit-prop
cell_fits_prop (Some p) = le_prop

abbrev Facts : Config → Walk → Type 0
Facts g s = (g.cells ≤ 16) × ((g.occasions ≤ 32) × ((s.placer.turns ≤ reach s.last) × ((s.placer.span ≤ 4) × ((reach s.last ≤ 512) × CellFits s.last))))

abbrev facts_of : (g : Config) (s : Walk) → Sound g s → Facts g s
facts_of g s x = (x.cells, (x.occasions, (x.turns, (x.span, (x.last, x.cell)))))

abbrev of_facts : (g : Config) (s : Walk) → Facts g s → Sound g s
of_facts g s f = record { cells = f.0; occasions = f.1.0; turns = f.1.1.0; span = f.1.1.1.0; last = f.1.1.1.1.0; cell = f.1.1.1.1.1 }

facts_prop : (g : Config) (s : Walk) → IsProp (Facts g s)
facts_prop g s = ×_prop le_prop (×_prop le_prop (×_prop le_prop (×_prop le_prop (×_prop le_prop (cell_fits_prop s.last)))))

-- one proof of it is as good as another
pub sound_prop : (g : Config) (s : Walk) → IsProp (Sound g s)
sound_prop g s = λ x y. ap (of_facts g s) (facts_prop g s (facts_of g s x) (facts_of g s y))
