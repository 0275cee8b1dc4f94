-- A value is within its span, and a field below 2 ^ 32.
use Rattle.std.proofs.Common.{◌≡◌, ℕ, ◌+◌, ◌-◌, ◌*◌, ◌^◌, ◌<◌, mul_comm, arith}
use Rattle.std.proofs.lemmas.Nat.{mod_below, pow_pos, pow_below}
use Rattle.std.proofs.Math.Nat.{mul-le-mul_left, mul-suc}
use Rattle.dai.specs.Parts.{number_code, counter_part}
use Rattle.dai.specs.Values.{value}
use Rattle.dai.specs.Laws.{Within}

pub value_within : (span number : ℕ) → 0 < span → Within span (value span number)
value_within span number some = let least = mod_below (number - 1) span some in (omega arith, omega arith)

-- in a field of whole bits a code is below the span
pub code_below : (bits span unit number : ℕ) → span * unit ≡ 2 ^ bits → number_code span number < span
code_below bits span unit number whole =
    let some : 0 < span = grind (arith, whole, pow_pos bits) in
    let value = value_within span number some in
    omega arith

-- the counter's part leaves place below it
pub part_below : (bits span unit number : ℕ) → span * unit ≡ 2 ^ bits → bits < 32 → counter_part span unit number + unit < 2 ^ 32
part_below bits span unit number whole narrow =
    let code = number_code span number in
    let least = mul-le-mul_left unit (code_below bits span unit number whole) in
    omega (arith, least, mul-suc unit code, mul_comm unit span, whole, pow_below bits 32 narrow)
