-- The longest run of losses, number by number. Assumes nothing.
use Rattle.std.proofs.Common.{◌≡◌, ℕ, zero, suc, ◌+◌, ◌-◌, ◌<◌, ◌≤◌, max, Bool, true, false, cond, ◌⊎◌, List, [], ◌∷◌, map, length, get_or, drop, sym, refl, ap, ◌∙◌, subst, inl, inr, ⊎_elim, arith}
use Rattle.std.proofs.lemmas.List.{at_drop_more, at_drop_all, get_or-map, length-map}
use Rattle.std.proofs.lemmas.Bool.{cases_lt, lt-ltb, le-ltb}
use Rattle.harq.specs.Losses.{LostRun, longest_after, longest}
use Rattle.scenario.specs.declared.losses.Run.{Run}
use Rattle.scenario.specs.declared.playing.Sent.{Sent}
use Rattle.scenario.specs.Arrived.{arrived}
use Rattle.scenario.specs.Runs.{run_after, longer}

lost_le : (lost : ℕ) (bs : List Bool) → lost ≤ longest_after lost bs
lost_le lost [] = omega arith
lost_le lost (true ∷ bs) = omega arith
lost_le lost (false ∷ bs) = omega (arith, lost_le (lost + 1) bs)

-- what the loop keeps: the best run so far and the run that ends here are lost, and with what is to come they give the longest
pub record Walked (arrived : List Bool) (i : ℕ) (best run : Run) : Type 0 where
  pub all : max best.long (longest_after run.long (drop i arrived)) ≡ longest arrived
  pub here : run.before + run.long ≡ i
  pub run_lost : LostRun arrived run.before run.long
  pub best_lost : LostRun arrived best.before best.long
  pub less : run.long ≤ best.long

no_run : (arrived : List Bool) (start : ℕ) → LostRun arrived start 0
no_run arrived start k above upto = absurd (omega arith)

any_default : (bs : List Bool) (i : ℕ) → i < length bs → get_or bs i true ≡ get_or bs i false
any_default [] i lt = absurd (omega arith)
any_default (b ∷ bs) zero lt = refl
any_default (b ∷ bs) (suc i) lt = any_default bs i (omega arith)

-- one or the other
longer_cases : (best run : Run) → ((longer best run ≡ run) × (best.long < run.long)) ⊎ ((longer best run ≡ best) × (run.long ≤ best.long))
longer_cases best run =
    ⊎_elim
    (λ h. inl (ap (λ (b : Bool). cond b run best) (lt-ltb best.long run.long h), h))
    (λ h. inr (ap (λ (b : Bool). cond b run best) (le-ltb best.long run.long h), h))
    (cases_lt best.long run.long)

module _ (arrived : List Bool) (i : ℕ) (best run : Run) (lt : i < length arrived) (w : Walked arrived i best run) where
  -- the best run is the longer one of it and the next
  settle : (next : Run) → max best.long (longest_after run.long (drop i arrived)) ≡ max (max best.long next.long) (longest_after next.long (drop (i + 1) arrived)) →
      next.before + next.long ≡ i + 1 → LostRun arrived next.before next.long → Walked arrived (i + 1) (longer best next) next
  settle next e at lost =
      ⊎_elim
      (λ h. subst (λ (b : Run). Walked arrived (i + 1) b next) (sym h.0)
      (record { all = omega (arith, e, w.all, h.1); here = at; run_lost = lost; best_lost = lost; less = omega arith }))
      (λ h. subst (λ (b : Run). Walked arrived (i + 1) b next) (sym h.0)
      (record { all = omega (arith, e, w.all, h.1); here = at; run_lost = lost; best_lost = w.best_lost; less = h.1 }))
      (longer_cases best next)

  met : get_or arrived i false ≡ true → Walked arrived (i + 1) (longer best (run_after run true)) (run_after run true)
  met e =
      let on = at_drop_more (longest_after run.long) arrived i false lt ∙ ap (λ (b : Bool). longest_after run.long (b ∷ drop (i + 1) arrived)) e in
      settle (run_after run true) (omega (arith, on, w.less)) (omega (arith, w.here)) (no_run arrived (run.before + run.long + 1))

  missed : get_or arrived i false ≡ false → Walked arrived (i + 1) (longer best (run_after run false)) (run_after run false)
  missed e =
      let on = at_drop_more (longest_after run.long) arrived i false lt ∙ ap (λ (b : Bool). longest_after run.long (b ∷ drop (i + 1) arrived)) e in
      settle (run_after run false) (omega (arith, on, w.less, lost_le (run.long + 1) (drop (i + 1) arrived))) (omega (arith, w.here))
      (λ k above upto.
      ⊎_elim
      (λ below. w.run_lost k above (omega arith))
      (λ not-below.
      let same : k - 1 ≡ i = omega (arith, w.here) in
      ap (λ (n : ℕ). get_or arrived n true) same ∙ any_default arrived i lt ∙ e)
      (cases_lt k (run.before + run.long + 1)))

  pub walked_next : (b : Bool) → get_or arrived i false ≡ b → Walked arrived (i + 1) (longer best (run_after run b)) (run_after run b)
  walked_next true e = met e
  walked_next false e = missed e

-- one assignment more
pub walked_more : (sent : List Sent) (i : ℕ) (d : Sent) (best run next longest-yet : Run) → i < length sent → Walked (map arrived sent) i best run →
    next ≡ run_after run (get_or sent i d).fate.arrived → longest-yet ≡ longer best next → Walked (map arrived sent) (i + 1) longest-yet next
walked_more sent i d best run next longest-yet lt w is chosen =
    rw (chosen, is)
    (walked_next (map arrived sent) i best run (omega (arith, lt, length-map sent arrived)) w (get_or sent i d).fate.arrived (get_or-map arrived sent i d false lt))
