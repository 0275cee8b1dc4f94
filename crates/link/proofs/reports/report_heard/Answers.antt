use Rattle.std.proofs.Common.{◌≡◌, ◌≤◌, Bool, true, List, ◌++◌, length, replicate, IfOk, sym, refl, ap, ◌∙◌, subst, arith, rules}
use Rattle.std.proofs.lemmas.List.{length-replicate}
use Rattle.sink.specs.Gains.{Gains}
use Rattle.ue.specs.Reports.{gained_by}
use Rattle.link.proofs.Layers.{packed_heard}
use Rattle.link.proofs.Bounds.{answered_few, gained_few, held_by}
use Rattle.link.proofs.reports.report_heard.Goals as goal

pub returns : goal.returns
returns g c =
    let aired = g.W.Way.aired in
    let way = g.met.W.Way in
    let before = c.new-recorder.result in
    let after = c.report-report.new.sink in
    let reported = c.report-report.ensures in
    let bits = gained_by c.args.received.now.config.now c.args.received.now.arrivals.now c.args.received.now.sps.now c.report-report.result in
    let few : length bits ≤ 1706 =
    subst (λ r. length (gained_by c.args.received.now.config.now c.args.received.now.arrivals.now c.args.received.now.sps.now r) ≤ 1706) (sym reported.answer)
    (gained_few c.args.received.now.config.now c.args.received.now.arrivals.now c.args.received.now.sps.now (length c.args.slots.now) _)
    in
    let empty = c.new-recorder.ensures.empty in
    let recorded : after.bits.items ≡ aired bits =
    reported.took.1 (omega (arith, way.same_length bits, few, ap length empty)) ∙ ap (λ (l : List Bool). l ++ aired bits) empty
    in
    let gains : Gains g.S.BitSink.taken g.S.BitSink.room g.S.BitSink.took before.below.now (aired bits) after.below.now = record {
      list = reported.gains.list;
      left = reported.gains.left;
      on = λ first more t.
          (reported.gains.on
          (record { below = record { ref_ptr = before.below.ref_ptr; ghost_name = before.below.ghost_name; now = first }; bits = record { items = replicate 1713 true } }) more
          ((refl, t), λ small. absurd (omega (arith, length-replicate 1713 true)))).0.1;
    } in
    let long : length c.pack.new.bytes ≡ 214 = search rules in
    record {
      reported = record {
        answer = search rules;
        slots = search rules;
        gains = search rules;
        took = search rules;
        kept = search rules;
      };
      heard = packed_heard aired way.same_length way.undoes _ _ c.bits.result.now bits (c.bits.ensures ∙ recorded) refl (omega (arith, few)) c.pack.ensures.bytes;
      held = held_by _ _ long (subst (λ r. IfOk r (λ n. n ≤ 1706)) (sym reported.answer) (answered_few c.args.received.now.config.now c.args.received.now.arrivals.now c.args.received.now.sps.now (length c.args.slots.now) _));
    }
