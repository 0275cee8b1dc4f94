use Rattle.std.proofs.Common.{◌-◌, ◌<◌, map, length, refl, ap, ◌∙◌, arith, rules}
use Rattle.std.proofs.lemmas.List.{map_push}
use Rattle.sink.specs.Digits.{digit}
use Rattle.sink.proofs.Laws.{gained_room}
use Rattle.sink.proofs.Writing.{laid_push}
use Rattle.sink.proofs.digits.TextBitsBitSink.put.Goals as goal

pub returns-clause-on : goal.returns-clause-on
returns-clause-on c first bits t =
    let s = c.args.self.now in
    let b = c.args.bit in
    let some : 0 < length s.bytes.now - s.used = omega (arith, c.room_left.ensures.room) in
    laid_push _ _ _ _ _ _ _ _ _ _ (digit b) t refl (search rules) (ap (map digit) (gained_room _ bits b some) ∙ map_push digit bits b)
