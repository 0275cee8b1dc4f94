-- What the UE makes of what arrived, against what was sent. Assumes nothing.
use Rattle.std.proofs.Common.{◌≡◌, ℕ, ◌-◌, ◌≤◌, Bool, ◌⊎◌, ◌↔◌, List, map, length, Ok}
use Rattle.harq.specs.Losses.{numbers}
use Rattle.ue.specs.Batches.{counted, slots_in}
use Rattle.ue.specs.Checks.{judged}
use Rattle.ue.specs.Reports.{places_of}
use Rattle.gnb.specs.Sending.{Assignment}
use Rattle.agreement.specs.Exchanges.{Exchange, all_sent, count_sent, fate, all_arrived}
use Rattle.agreement.specs.Losses.{RunsShort, NothingSent, LastArrived, TotalInLastUsed}

-- for each number from 1 on, whether it arrived
abbrev pub flags : Exchange → List Bool
flags x = map (λ (a : Assignment). (fate x a.number).arrived) (all_sent x)

-- how many slots the report has
abbrev pub slots_made : Exchange → ℕ
slots_made x = slots_in x.config (all_arrived x)

pub record UeSide (x : Exchange) : Type 0 where
  -- the report is not declined
  pub made : judged x.config (all_arrived x) x.sps (length x.slots) x.room ≡ Ok (slots_made x)
  -- every arrival counts
  pub whole : counted x.config (all_arrived x) ≡ all_arrived x
  -- never more slots than assignments, and as many exactly where the cards agree
  pub within : slots_made x ≤ count_sent x
  pub lengths : (slots_made x ≡ count_sent x) ↔ (NothingSent x ⊎ (RunsShort x × (LastArrived x ⊎ TotalInLastUsed x)))
  -- then each arrival is placed by its own number
  pub exact : slots_made x ≡ count_sent x → places_of x.config (all_arrived x) ≡ map (λ k. k - 1) (numbers 0 (flags x))
