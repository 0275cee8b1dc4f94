use Rattle.std.proofs.Common.{refl, rules}
use Rattle.ue.specs.Reports.{gained_by}
use Rattle.ue.proofs.Gaining.{gains_below}
use Rattle.ue.proofs.arrivals.Received.report_inverted.Goals as goal

pub returns-clause-gains : goal.returns-clause-gains
returns-clause-gains g c =
    let before = c.new-inverter.result.below in
    let after = c.report.new.sink.below.now in
    let bits = gained_by c.args.self.now.config.now c.args.self.now.arrivals.now c.args.self.now.sps.now c.report.result in
    let gains =
    gains_below g.S.BitSink.taken g.S.BitSink.room g.S.BitSink.took before.now after bits c.report.ensures.gains.list c.report.ensures.gains.left
    (λ first more t. (c.report.ensures.gains.on (record { below = record { ref_ptr = before.ref_ptr; ghost_name = before.ghost_name; now = first } }) more (refl, t)).1)
    in
    search rules
