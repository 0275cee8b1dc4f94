-- The kinds of records and their numbers. Assumes nothing.
use Rattle.std.specs.Prelude.{ℕ, cond, Ok, Err, Result, ◌==◌}
use Rattle.trace.specs.declared.kinds.Kind.{Kind}
use Rattle.trace.specs.declared.kinds.Kind.TheVariants.{Configuration, Assignment, Sps}
use Rattle.trace.specs.declared.kinds.UnknownKind.{UnknownKind}

abbrev pub kind_number : Kind → ℕ
kind_number Configuration = 1
kind_number Assignment = 2
kind_number Sps = 3

-- the kind of a number, if it is one
abbrev pub kind_numbered : ℕ → Result Kind UnknownKind
kind_numbered n = cond (n == 1) (Ok Configuration) (cond (n == 2) (Ok Assignment) (cond (n == 3) (Ok Sps) (Err (record {}))))
