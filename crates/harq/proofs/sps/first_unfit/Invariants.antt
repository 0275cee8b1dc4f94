use Rattle.std.proofs.Common.{◌≡◌, drop, None}
use Rattle.harq.specs.SpsLists.{unfit_from}
use Rattle.harq.proofs.sps.first_unfit.Given as goal

abbrev pub invariant-loop-i : goal.invariant-loop-i
invariant-loop-i g l =
    unfit_from g.L.SpsListed.listed g.L.SpsListed.sound l.config l.i l.previous (drop l.i l.list)
    ≡ unfit_from g.L.SpsListed.listed g.L.SpsListed.sound l.config 0 None l.list
