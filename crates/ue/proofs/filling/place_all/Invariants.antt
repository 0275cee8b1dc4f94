use Rattle.std.proofs.Common.{◌≡◌, drop}
use Rattle.harq.specs.Configs.{span}
use Rattle.harq.specs.Placers.{fresh}
use Rattle.ue.specs.Fillings.{placed_by}
use Rattle.ue.proofs.filling.place_all.Given as goal

abbrev pub invariant-loop-a : goal.invariant-loop-a
invariant-loop-a l = placed_by l.config l.placer (drop l.a-index l.arrivals) l.slots ≡ placed_by l.config (fresh (span l.config)) l.arrivals l.initial.slots
