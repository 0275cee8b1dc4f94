use Rattle.std.proofs.Common.{ap, ◌∙◌}
use Rattle.trace.specs.Records.{field_at}
use Rattle.trace.proofs.Steps.{fields_more}
use Rattle.trace.proofs.readers.Reader.skip.Goals as goal

pub loop-field-preserved : goal.loop-field-preserved
loop-field-preserved c =
    let was = c.args.self.now in
    let l = c.loop-field in
    let n = c.in_ok-field.ensures in
    let e = n.value ∙ ap (λ b. field_at b.now l.self.at l.self.next) l.invariant.0 ∙ ap (λ a. field_at was.bytes.now a l.self.next) l.invariant.1 in
    (n.bytes ∙ l.invariant.0, n.at ∙ l.invariant.1, l.invariant.2 ∙ fields_more was.bytes.now was.at l.self.next c.args.count l._field _ c.loop-field-test.true e)
