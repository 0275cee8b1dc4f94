-- Runs of losses, number by number. Assumes nothing.
use Rattle.std.specs.Prelude.{◌+◌, Bool, true, false, cond, nat_lt}
use Rattle.scenario.specs.declared.losses.Run.{Run}

-- the run of losses that ends with the next number
abbrev pub run_after : Run → Bool → Run
run_after r true = record { before = r.before + r.long + 1; long = 0 }
run_after r false = record { before = r.before; long = r.long + 1 }

-- the longer of two, the first where they are equally long
abbrev pub longer : Run → Run → Run
longer best run = cond (nat_lt best.long run.long) run best
