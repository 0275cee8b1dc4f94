-- Bits that a sink took on some way, packed as the report has them. Assumes nothing.
use Rattle.std.proofs.Common.{◌≡◌, ℕ, ◌≤◌, Bool, List, [], ◌∷◌, length, take, drop, refl, ap, ◌∙◌, arith}
use Rattle.std.proofs.lemmas.List.{take_at}
use Rattle.sink.specs.Bits.{bits_of}
use Rattle.sink.specs.Ends.{capacity}
use Rattle.sink.specs.Sink.{accepted}
use Rattle.sink.specs.Written.{written}
use Rattle.sink.proofs.Laws.{all_gained_room}
use Rattle.sink.proofs.Packing.{length_bits}
use Rattle.sink.proofs.Writing.{written_over}
use Rattle.agreement.specs.Agreement.{Hold}

no_bits : (bits : List Bool) → length bits ≡ 0 → bits ≡ []
no_bits [] e = refl
no_bits (b ∷ bits) e = absurd (omega arith)

module _ (aired : List Bool → List Bool) (same_length : (bits : List Bool) → length (aired bits) ≡ length bits) (undoes : (bits : List Bool) → aired (aired bits) ≡ bits) where
  pub aired_none : aired [] ≡ []
  aired_none = no_bits (aired []) (same_length [])

  -- what was recorded of a report is packed as the report has it
  pub packed_heard : (zeros bytes : List ℕ) (recorded bits : List Bool) → recorded ≡ aired bits → length zeros ≡ 214 → length bits ≤ 1712 →
      bits_of bytes ≡ written (bits_of zeros) 0 (accepted (capacity (length zeros)) (aired recorded)) → Hold bytes bits
  packed_heard zeros bytes recorded bits took long few packed =
      let back : accepted (capacity (length zeros)) (aired recorded) ≡ bits =
      ap (λ (l : List Bool). accepted (capacity (length zeros)) (aired l)) took ∙ ap (accepted (capacity (length zeros))) (undoes bits)
      ∙ all_gained_room (capacity (length zeros)) [] bits (omega (arith, long, few))
      in
      ap (take (length bits)) (packed ∙ ap (written (bits_of zeros) 0) back ∙ written_over (bits_of zeros) bits (omega (arith, length_bits zeros)))
      ∙ take_at bits (drop (length bits) (bits_of zeros)) (length bits) refl
