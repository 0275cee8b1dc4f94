use Rattle.std.proofs.Common.{leb, None, sym, arith}
use Rattle.harq.proofs.SpsWalk.{fit_few}
use Rattle.ue.proofs.checks.check_sps.Goals as goal

pub returns-clause-few : goal.returns-clause-few
returns-clause-few c = omega (arith, fit_few (λ s. s.entry) (λ s. leb s.outcome 1) c.args.config.now c.args.sps.now 0 None (omega arith) (sym c.in_default.ensures))
