-- Numbering calls made one by one: what a call keeps.
use Rattle.std.proofs.Common.{◌≡◌, ℕ, ◌≤◌, true, false, not, ltb, List, [], ◌∷◌, length, is_some, Some, None, Ok, Option, refl, ap, arith}
use Rattle.std.proofs.lemmas.Bool.{le-ltb, ltb-false, or_from}
use Rattle.harq.specs.declared.configs.Config.{Config}
use Rattle.harq.specs.declared.refusals.Refusal.{Refusal}
use Rattle.harq.specs.declared.refusals.Refusal.TheVariants as why
use Rattle.harq.specs.declared.sps.SpsEntry.{SpsEntry}
use Rattle.harq.specs.Configs.{config_within}
use Rattle.harq.specs.SpsLists.{unfit_from}
use Rattle.harq.specs.Words.{first_refusing}
use Rattle.gnb.specs.declared.batches.BatchState.{BatchState}
use Rattle.gnb.specs.declared.grants.Grant.{Grant}
use Rattle.gnb.specs.Calls.{call_refused, batch_by, batch_after}
use Rattle.gnb.specs.Opening.{opening_refused, opened_by, opened, fresh_batch}
use Rattle.gnb.specs.Readings.{too_short}
use Rattle.gnb.proofs.Accepted.{passes, taken}

module _ (b : BatchState) (table occasion : ℕ) (grants : List Grant) where
  -- the table has space for what is numbered
  pub numbered_fits : b.numbered ≤ table → (batch_after b table occasion grants).numbered ≤ table
  numbered_fits fits =
      go (call_refused b table occasion grants) refl
    where
      go : (o : Option Refusal) → call_refused b table occasion grants ≡ o → (batch_by o b occasion grants).numbered ≤ table
      go None is = (taken b table (record { occasion = occasion; grants = grants }) is).space
      go (Some e) is = fits

  -- the SPS entries stay
  pub sps_stays : (batch_after b table occasion grants).sps ≡ b.sps
  sps_stays =
      go (call_refused b table occasion grants)
    where
      go : (o : Option Refusal) → (batch_by o b occasion grants).sps ≡ b.sps
      go None = refl
      go (Some e) = refl

-- an opening that was accepted left nothing numbered, and there are marks for the SPS entries
opened_by_none : (o : Option Refusal) (g : Config) (sps : List SpsEntry) (b : BatchState) → Ok b ≡ opened_by o g sps → (o ≡ None) × (b ≡ fresh_batch g sps)
opened_by_none None g sps b e = let is : b ≡ fresh_batch g sps = cc in (refl, is)
opened_by_none (Some y) g sps b e = let z : ◌≡◌ {A = ℕ} 0 1 = cc in absurd (omega arith)

module _ (g : Config) (sps : List SpsEntry) (marks : ℕ) (b : BatchState) (is : Ok b ≡ opened g sps marks) where
  pub fresh : b ≡ fresh_batch g sps
  fresh = (opened_by_none (opening_refused g sps marks) g sps b is).1

  pub none_numbered : b.numbered ≡ 0
  none_numbered = ap (λ (s : BatchState). s.numbered) (opened_by_none (opening_refused g sps marks) g sps b is).1

  pub sps_lent : b.sps ≤ marks
  sps_lent =
      let p = opened_by_none (opening_refused g sps marks) g sps b is in
      let unfit = is_some (unfit_from (λ e. e) (λ _. true) g 0 None sps) in
      let many = ap (λ (s : BatchState). s.sps) p.1 in
      let first = passes (not (config_within g)) why.Configuration (first_refusing ((unfit, why.Sps) ∷ (ltb marks (length sps), why.Table) ∷ [])) p.0 in
      let second = passes unfit why.Sps (first_refusing ((ltb marks (length sps), why.Table) ∷ [])) first.1 in
      let third = passes (ltb marks (length sps)) why.Table None second.1 in
      let lent : length sps ≤ marks = ltb-false marks (length sps) third.0 in
      omega (arith, many, lent)

-- table and marks are long enough
pub long_enough : (b : BatchState) (table marks : ℕ) → b.numbered ≤ table → b.sps ≤ marks → too_short b table marks ≡ false
long_enough b table marks fits lent = or_from _ _ (le-ltb table b.numbered fits) (le-ltb marks b.sps lent)
