-- The digits of a report in its line. Assumes nothing.
use Rattle.std.proofs.Common.{◌≡◌, ℕ, ◌-◌, ◌≤◌, Bool, true, false, List, [], ◌∷◌, map, length, take, drop, Ok, refl, ap, ◌∙◌, arith}
use Rattle.std.proofs.lemmas.List.{length-map, take_at}
use Rattle.sink.specs.Digits.{digit}
use Rattle.sink.specs.Written.{written}
use Rattle.sink.proofs.Writing.{written_over}
use Rattle.ue.specs.Reports.{report_bits, report_answer}
use Rattle.ue.proofs.Reporting.{answered}
use Rattle.trace.specs.Answers.{line_by, batch_line}
use Rattle.trace.specs.Batches.{Contents}
use Rattle.trace.specs.Lines.{shown_digit, report_bytes}

shown_digits : (bits : List Bool) → map shown_digit (map digit bits) ≡ map digit bits
shown_digits [] = refl
shown_digits (true ∷ bits) = ap (λ l. 49 ∷ l) (shown_digits bits)
shown_digits (false ∷ bits) = ap (λ l. 48 ∷ l) (shown_digits bits)

-- bits that were written from the front are shown
front_shown : (bits : List Bool) (ds ds' : List ℕ) (n : ℕ) → n ≡ length bits → n ≤ length ds → ds' ≡ written ds 0 (map digit bits) →
    map shown_digit (take (n - 0) ds') ≡ map digit bits
front_shown bits ds ds' n long room is =
    let size = length-map bits digit in
    ap (λ l. map shown_digit (take (n - 0) l)) (is ∙ written_over ds (map digit bits) (omega arith))
    ∙ ap (map shown_digit) (take_at (map digit bits) (drop (length (map digit bits)) ds) (n - 0) (omega arith))
    ∙ shown_digits bits

-- the line of an accepted report
pub line_shown : (c : Contents) (end n : ℕ) (ds ds' : List ℕ) → Ok n ≡ report_answer c.config c.arrivals c.sps 1706 (length ds) → length ds ≡ 1706 →
    ds' ≡ written ds 0 (map digit (report_bits c.config c.arrivals c.sps)) →
    report_bytes n (map shown_digit (take (n - 0) ds')) ≡ batch_line c end
line_shown c end n ds ds' is size wrote =
    let a = answered c.config c.arrivals c.sps 1706 (length ds) n is in
    ap (report_bytes n) (front_shown (report_bits c.config c.arrivals c.sps) ds ds' n a.long a.fits wrote)
    ∙ ap (line_by c end) (is ∙ ap (report_answer c.config c.arrivals c.sps 1706) size)
