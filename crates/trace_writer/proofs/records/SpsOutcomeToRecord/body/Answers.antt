use Rattle.std.proofs.Common.{[], ◌∷◌, vec_items, refl, arith}
use Rattle.std.proofs.lemmas.Slice.{pushed}
use Rattle.trace_writer.specs.Writing.{sps_numbers}
use Rattle.trace_writer.proofs.Appending.{body_is, body_short}
use Rattle.trace_writer.proofs.records.SpsOutcomeToRecord.body.Goals as goal

pub returns : goal.returns
returns c =
    let s = c.args.self.now in
    let out = s.outcome ∷ [] in
    let none = vec_items c.new-body.result in
    let numbers = vec_items c.write_numbers.new.out in
    let items = vec_items c.push.new.self in
    let e = body_is none numbers items (sps_numbers s) out c.new-body.ensures.items _ c.in_ok-write_numbers.ensures c.sps_numbers.ensures (pushed out refl c.in_ok-push.was c.push.ensures.items) in
    record { value = e; short = body_short none numbers items (sps_numbers s) out _ c.push.new.self.ok.0 e (omega arith) }
