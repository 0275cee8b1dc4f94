use Rattle.std.proofs.Common.{◌++◌, length, take, vec_items, ap, ◌∙◌, arith}
use Rattle.trace_writer.specs.Writing.{arrival_numbers}
use Rattle.trace_writer.proofs.Appending.{body_is, body_short}
use Rattle.trace_writer.proofs.records.ArrivalToRecord.body.Goals as goal

pub returns : goal.returns
returns c =
    let a = c.args.self.now in
    let out = take a.blocks a.outcomes in
    let none = vec_items c.new-body.result in
    let numbers = vec_items c.write_numbers.new.out in
    let items = vec_items c.extend_from_slice.new.self in
    let e = body_is none numbers items (arrival_numbers a) out c.new-body.ensures.items _ c.in_ok-write_numbers.ensures c.arrival_numbers.ensures (c.in_ok-extend_from_slice.ensures.items ∙ ap (λ l. numbers ++ l) c.up_to.ensures.value) in
    let few = ap length c.up_to.ensures.value in
    record { value = e; short = body_short none numbers items (arrival_numbers a) out _ c.extend_from_slice.new.self.ok.0 e (omega arith) }
