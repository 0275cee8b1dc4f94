-- What the bits that the gNB reads tell of each number and SPS entry, where the report has a slot for each assignment. Assumes nothing.
use Rattle.std.proofs.Common.{◌≡◌, ℕ, ◌+◌, ◌-◌, ◌*◌, ◌<◌, Bool, true, false, cond, eqb, List, length, get_or, None, Decides, sym, refl, ap, ◌∙◌, arith}
use Rattle.std.proofs.lemmas.Nat.{mul-add-lt}
use Rattle.std.proofs.lemmas.Bool.{both_ways, eqb-true, eq-eqb}
use Rattle.harq.specs.Configs.{bits_per_place}
use Rattle.sink.specs.Bits.{bits_of}
use Rattle.ue.specs.Clause.{bit_of, ReportFor}
use Rattle.ue.proofs.Clause.{report_stands}
use Rattle.gnb.specs.Opening.{opening_refused}
use Rattle.gnb.specs.Readings.{block_bit}
use Rattle.agreement.specs.declared.fates.Fate.{Fate}
use Rattle.agreement.specs.Fates.{fate_of}
use Rattle.agreement.specs.Exchanges.{Exchange, sps_list, all_sent, count_sent, assignment, fate, all_arrived, reported}
use Rattle.agreement.specs.Losses.{Sent, Arrived, HasBlock, Decoded}
use Rattle.agreement.specs.Agreement.{Hold, sps_outcome}
use Rattle.agreement.proofs.Sides.{slots_made, UeSide}
use Rattle.agreement.proofs.Bits.{bit_arrived, bit_lost, sps_bit_at, held_bit}
use Rattle.agreement.proofs.Marking.{own_bit, own_tells, bit_within}
use Rattle.agreement.proofs.Left.{mode_left, number_is, sized_is}

module _ (x : Exchange) (bytes : List ℕ) (opened : opening_refused x.config (sps_list x) (length x.marks) ≡ None) (u : UeSide x) (holds : Hold bytes (reported x))
    (equal : slots_made x ≡ count_sent x) where
  -- the report is that of the clause
  report : ReportFor x.config (all_arrived x) x.sps (reported x)
  report = report_stands x.config (all_arrived x) x.sps (length x.slots) x.room (slots_made x) u.made

  -- the bit that the gNB reads of block d of number k
  abbrev bit_read : ℕ → ℕ → Bool
  bit_read k d = get_or (bits_of bytes) (block_bit x.config k d) false

  -- it is one of the report, at the place of that number
  bit_is : (k d : ℕ) → HasBlock x k d → bit_read k d ≡ bit_of x.config (reported x) (k - 1) (cond (eqb x.config.mode 1) d 0)
  bit_is k d has =
      let g = x.config in
      let c : ℕ = cond (eqb g.mode 1) d 0 in
      let below : k - 1 < slots_made x = omega (arith, has.0.0, has.0.1) in
      held_bit bytes (reported x) holds (block_bit g k d)
      (omega (arith, report.long, mul-add-lt (k - 1) (bits_per_place g) c (slots_made x) below (bit_within g (assignment x k).blocks d has.1)))

  -- the fate of number k
  fate_is : (k : ℕ) → Sent x k → fate_of x.fates (assignment x k).number ≡ fate x k
  fate_is k s = ap (fate_of x.fates) (number_is x k s)

  -- of a number that arrived it says the own outcome
  came_bit : (k d : ℕ) → HasBlock x k d → (fate x k).arrived ≡ true → bit_read k d ≡ own_bit x.config.mode (assignment x k).blocks (fate x k).outcomes d
  came_bit k d has came =
      let g = x.config in
      bit_is k d has
      ∙ bit_arrived g x.fates (all_sent x) x.sps (reported x) report u.whole (u.exact equal) equal (k - 1) _ (omega (arith, has.0.0, has.0.1))
      _ (bit_within g (assignment x k).blocks d has.1) (ap (λ (f : Fate). f.arrived) (fate_is k has.0) ∙ came)
      ∙ ap (λ (f : Fate). own_bit g.mode (assignment x k).blocks f.outcomes d) (fate_is k has.0)

  -- of one that was lost NACK
  lost_bit : (k d : ℕ) → HasBlock x k d → (fate x k).arrived ≡ false → bit_read k d ≡ false
  lost_bit k d has lost =
      let g = x.config in
      bit_is k d has
      ∙ bit_lost g x.fates (all_sent x) x.sps (reported x) report u.whole (u.exact equal) equal (k - 1) _ (omega (arith, has.0.0, has.0.1))
      _ (bit_within g (assignment x k).blocks d has.1) (ap (λ (f : Fate). f.arrived) (fate_is k has.0) ∙ lost)

  -- so it says whether the number arrived and the block decoded
  pub bit_tells : (k d : ℕ) → HasBlock x k d → Decides (get_or (bits_of bytes) (block_bit x.config k d) false) (Arrived x k × Decoded x k d)
  bit_tells k d has = go (fate x k).arrived refl
    where
      go : (v : Bool) → (fate x k).arrived ≡ v → Decides (bit_read k d) (Arrived x k × Decoded x k d)
      go true came =
          let own = own_tells x.config (assignment x k).blocks d (fate x k).outcomes (mode_left x opened) (sized_is x k has.0) has.1 in
          let is = came_bit k d has came in
          (λ bit. let c = own.0 (sym is ∙ bit) in ((has.0, came), (c.0, λ m e h. c.1 m e h.1)), λ both. is ∙ own.1 (both.1.0, λ m e l. both.1.1 m e (has.0, l)))
      go false lost = (λ bit. absurd (both_ways _ (lost_bit k d has lost) bit), λ both. absurd (both_ways _ lost both.0.1))

  -- the bit of SPS entry i says its outcome
  sps_bit_is : (i : ℕ) → i < length x.sps → get_or (bits_of bytes) (bits_per_place x.config * count_sent x + i) false ≡ eqb (sps_outcome x i) 1
  sps_bit_is i h =
      ap (λ n. get_or (bits_of bytes) (bits_per_place x.config * n + i) false) (sym equal)
      ∙ held_bit bytes (reported x) holds (bits_per_place x.config * slots_made x + i) (omega (arith, report.long))
      ∙ sps_bit_at x.config (all_arrived x) x.sps i h

  pub sps_bit_tells : (i : ℕ) → i < length x.sps → Decides (get_or (bits_of bytes) (bits_per_place x.config * count_sent x + i) false) (sps_outcome x i ≡ 1)
  sps_bit_tells i h =
      (λ bit. eqb-true (sps_outcome x i) 1 (sym (sps_bit_is i h) ∙ bit), λ one. sps_bit_is i h ∙ eq-eqb (sps_outcome x i) 1 one)
