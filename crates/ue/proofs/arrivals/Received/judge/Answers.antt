use Rattle.std.proofs.Common.{rules}
use Rattle.ue.proofs.Few.{walk_counts}
use Rattle.ue.proofs.arrivals.Received.judge.Goals as goal

pub returns-in_err-through-clause-is : goal.returns-in_err-through-clause-is
returns-in_err-through-clause-is c = let counts = walk_counts c.args.self.now.config.now c.args.self.now.arrivals.now in search rules

pub returns-in_err-check_sps-clause-is : goal.returns-in_err-check_sps-clause-is
returns-in_err-check_sps-clause-is c = let counts = walk_counts c.args.self.now.config.now c.args.self.now.arrivals.now in search rules

pub returns-in_err-check_size-clause-is : goal.returns-in_err-check_size-clause-is
returns-in_err-check_size-clause-is c = let counts = walk_counts c.args.self.now.config.now c.args.self.now.arrivals.now in search rules

pub returns-clause-is : goal.returns-clause-is
returns-clause-is c = let counts = walk_counts c.args.self.now.config.now c.args.self.now.arrivals.now in search rules
