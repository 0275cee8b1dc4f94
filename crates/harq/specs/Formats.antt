-- The DCI formats: their numbers and their names. Assumes nothing.
use Rattle.std.specs.Prelude.{ℕ, List, codes, cond, Ok, Err, Result, ◌==◌}
use Rattle.harq.specs.declared.formats.Format.{Format}
use Rattle.harq.specs.declared.formats.Format.TheVariants.{OneZero, OneOne, OneTwo}
use Rattle.harq.specs.declared.formats.UnknownFormat.{UnknownFormat}

-- the number by which a format is told
abbrev pub format_number : Format → ℕ
format_number OneZero = 0
format_number OneOne = 1
format_number OneTwo = 2

-- the format of a number
abbrev pub format_numbered : ℕ → Result Format UnknownFormat
format_numbered n = cond (n == 0) (Ok OneZero) (cond (n == 1) (Ok OneOne) (cond (n == 2) (Ok OneTwo) (Err (record {}))))

-- a format's name
abbrev pub format_name : Format → List ℕ
format_name OneZero = codes "1_0"
format_name OneOne = codes "1_1"
format_name OneTwo = codes "1_2"
