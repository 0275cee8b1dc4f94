-- The line that is printed for a trace, byte for byte. Assumes nothing.
use Rattle.std.specs.Prelude.{◌≡◌, ℕ, Bool, true, cond, ◌||◌, List, ◌++◌, map, codes, decimal, ◌==◌}
use Rattle.harq.specs.Refusals.{number_of}
use Rattle.harq.specs.Words.{every}
use Rattle.trace.specs.declared.faults.Fault.{Fault}
use Rattle.trace.specs.Faults.{layer_number}

-- three numbers behind the word
abbrev pub fault_text : ℕ → ℕ → ℕ → List ℕ
fault_text refusal layer offset = codes "fault " ++ (decimal refusal ++ (codes " " ++ (decimal layer ++ (codes " " ++ decimal offset))))

-- a fault: its refusal, its layer, its offset
abbrev pub fault_bytes : Fault → List ℕ
fault_bytes f = fault_text (number_of f.refusal) (layer_number f.layer) f.offset

-- a byte is shown as `1` or as `0`
abbrev pub shown_digit : ℕ → ℕ
shown_digit b = cond (b == 49) 49 48

-- what stands before the digits
abbrev pub report_head : ℕ → List ℕ
report_head length = decimal length ++ codes " "

-- a report: its length and its digits, or `0` alone
abbrev pub report_bytes : ℕ → List ℕ → List ℕ
report_bytes length digits = cond (length == 0) (codes "0") (report_head length ++ digits)

-- `0` and `1`
abbrev pub is_digit : ℕ → Bool
is_digit b = b == 48 || b == 49

-- digits are shown as they are
abbrev pub DigitsShown : Type 0
DigitsShown = (ds : List ℕ) → every is_digit ds ≡ true → map shown_digit ds ≡ ds
