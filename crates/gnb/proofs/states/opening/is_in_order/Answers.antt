use Rattle.std.proofs.Common.{true, None, arith, rules}
use Rattle.harq.proofs.SpsWalk.{fit_few}
use Rattle.gnb.proofs.states.opening.is_in_order.Goals as goal

pub returns-clause-few : goal.returns-clause-few
returns-clause-few c = λ is. omega (arith, fit_few (λ e. e) (λ _. true) c.args.config.now c.args.sps.now 0 None (omega arith) (search rules))
