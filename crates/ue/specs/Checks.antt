-- The checks of a report, in their order. Assumes nothing.
use Rattle.std.specs.Prelude.{ℕ, ◌+◌, ◌*◌, Bool, true, false, cond, not, ◌&&◌, ◌||◌, List, [], ◌∷◌, ◌++◌, length, is_some, Some, None, Ok, Err, Option, Result, ◌==◌, nat_le, nat_lt}
use Rattle.harq.specs.declared.configs.Config.{Config}
use Rattle.harq.specs.declared.refusals.Refusal.{Refusal}
use Rattle.harq.specs.declared.refusals.Refusal.TheVariants as why
use Rattle.harq.specs.Words.{last_or, onward, first_refusing}
use Rattle.harq.specs.Configs.{config_within, bits_per_place, in_range}
use Rattle.harq.specs.SpsLists.{unfit_from}
use Rattle.ue.specs.declared.arrivals.Arrival.{Arrival}
use Rattle.ue.specs.declared.arrivals.SpsOutcome.{SpsOutcome}
use Rattle.ue.specs.declared.declines.Decline.{Decline}
use Rattle.ue.specs.declared.declines.Part.TheVariants as part
use Rattle.ue.specs.Batches.{dai_of, total, counting, brought, counted, total_at, slots_in}

-- the last of the arrivals before
abbrev pub last_of : List Arrival → Option Arrival
last_of [] = None
last_of (a ∷ rest) = Some (last_or a rest)

-- an arrival is above the one before it, by occasion and then cell
abbrev pub rises_above : Option Arrival → Arrival → Bool
rises_above None a = true
rises_above (Some p) a = nat_lt p.occasion a.occasion || (p.occasion == a.occasion && nat_lt p.cell a.cell)

-- two totals that differ
abbrev pub differ : Option ℕ → Option ℕ → Bool
differ None t = false
differ (Some s) None = false
differ (Some s) (Some t) = not (s == t)

-- the total of an arrival that counts is not that of its occasion
abbrev pub total_differs : Config → List Arrival → Arrival → Bool
total_differs g earlier a = counting g a && differ (total_at g a.occasion (counted g earlier)) (total g a)

-- why an arrival is refused behind `earlier` ones
abbrev pub arrival_refused : Config → List Arrival → Arrival → Option Refusal
arrival_refused g earlier a =
    first_refusing (
    (not (in_range g a.cell a.occasion), why.Range)
    ∷ (not (rises_above (last_of earlier) a), why.Order)
    ∷ (not (is_some (dai_of g a)), why.Field)
    ∷ (not (brought g a), why.Blocks)
    ∷ (total_differs g earlier a, why.Totals)
    ∷ [])

-- the first arrival that is refused, by its index, and why
abbrev pub first_refused : Config → List Arrival → List Arrival → Option (ℕ × Refusal)
first_refused g earlier [] = None
first_refused g earlier (a ∷ rest) =
    elim (arrival_refused g earlier a) [ Some e ↦ Some (length earlier, e) | None ↦ first_refused g (earlier ++ (a ∷ [])) rest ]

-- the configuration is judged
abbrev pub config_judged : Config → Result (Unit {0}) Decline
config_judged g = cond (config_within g) (Ok tt) (Err (record { refusal = why.Configuration; part = part.Configuration }))

-- the slot count, or the arrival that is refused
abbrev pub slots_or : ℕ → Option (ℕ × Refusal) → Result ℕ Decline
slots_or n None = Ok n
slots_or n (Some p) = Err (record { refusal = p.1; part = part.Arrival p.0 })

-- the arrivals are judged in turn
abbrev pub arrivals_judged : Config → List Arrival → Result ℕ Decline
arrivals_judged g arrivals = slots_or (slots_in g arrivals) (first_refused g [] arrivals)

-- no entry, or the one that does not fit
abbrev pub fit_or : Option ℕ → Result (Unit {0}) Decline
fit_or None = Ok tt
fit_or (Some i) = Err (record { refusal = why.Sps; part = part.Sps i })

-- the SPS list is judged: its limits and order, and each outcome 0 or 1
abbrev pub sps_judged : Config → List SpsOutcome → Result (Unit {0}) Decline
sps_judged g sps = fit_or (unfit_from (λ s. s.entry) (λ s. nat_le s.outcome 1) g 0 None sps)

-- the whole is refused
abbrev pub whole : Refusal → Result (Unit {0}) Decline
whole e = Err (record { refusal = e; part = part.Whole })

-- how long a report of that many slots and SPS entries is
abbrev pub length_of : Config → ℕ → ℕ → ℕ
length_of g slots sps = bits_per_place g * slots + sps

-- the whole is judged: at most 1,706 bits, slots enough, room enough
abbrev pub size_judged : Config → ℕ → ℕ → ℕ → ℕ → Result (Unit {0}) Decline
size_judged g slots sps lent room =
    cond (nat_lt 1706 (length_of g slots sps)) (whole why.Length)
    (cond (nat_lt lent slots) (whole why.Table)
    (cond (nat_lt room (length_of g slots sps)) (whole why.Room) (Ok tt)))

-- all checks in their order: the slot count, or the first that refuses
abbrev pub judged : Config → List Arrival → List SpsOutcome → ℕ → ℕ → Result ℕ Decline
judged g arrivals sps lent room =
    onward (config_judged g) (λ _.
    onward (arrivals_judged g arrivals) (λ slots.
    onward (sps_judged g sps) (λ _.
    onward (size_judged g slots (length sps) lent room) (λ _. Ok slots))))
