use Rattle.std.proofs.Common.{◌++◌, length, take, vec_items, ap, ◌∙◌, arith}
use Rattle.std.specs.List.{flat_map}
use Rattle.trace_writer.specs.Coding.{coded}
use Rattle.trace_writer.specs.Writing.{config_numbers}
use Rattle.trace_writer.proofs.Appending.{length_numbers, body_is, body_short}
use Rattle.trace_writer.proofs.records.ConfigToRecord.body.Goals as goal

pub returns : goal.returns
returns c =
    let k = c.args.self.now in
    let rest = flat_map coded (take k.cells k.first) in
    let none = vec_items c.new-body.result in
    let numbers = vec_items c.write_numbers.new.out in
    let items = vec_items c.write_numbers-2.new.out in
    let e = body_is none numbers items (config_numbers k) rest c.new-body.ensures.items _ c.in_ok-write_numbers.ensures c.config_numbers.ensures (c.in_ok-write_numbers-2.ensures ∙ ap (λ l. numbers ++ flat_map coded l) c.up_to.ensures.value) in
    let few = ap length c.up_to.ensures.value in
    record { value = e; short = body_short none numbers items (config_numbers k) rest _ c.write_numbers-2.new.out.ok.0 e (omega (arith, length_numbers (take k.cells k.first))) }
