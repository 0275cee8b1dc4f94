-- The modes: their numbers and their names. Assumes nothing.
use Rattle.std.specs.Prelude.{ℕ, List, codes, cond, Ok, Err, Result, ◌==◌}
use Rattle.harq.specs.declared.modes.Mode.{Mode}
use Rattle.harq.specs.declared.modes.Mode.TheVariants.{OneBlock, TwoBlocks, Bundled}
use Rattle.harq.specs.declared.modes.UnknownMode.{UnknownMode}

-- the number by which a mode is told
abbrev pub mode_number : Mode → ℕ
mode_number OneBlock = 0
mode_number TwoBlocks = 1
mode_number Bundled = 2

-- the mode of a number
abbrev pub mode_numbered : ℕ → Result Mode UnknownMode
mode_numbered n = cond (n == 0) (Ok OneBlock) (cond (n == 1) (Ok TwoBlocks) (cond (n == 2) (Ok Bundled) (Err (record {}))))

-- a mode's name
abbrev pub mode_name : Mode → List ℕ
mode_name OneBlock = codes "one block"
mode_name TwoBlocks = codes "two blocks"
mode_name Bundled = codes "two blocks bundled"
