use Rattle.std.proofs.Common.{◌<◌, refl, arith, rules}
use Rattle.std.proofs.lemmas.List.{take_more_set}
use Rattle.sink.specs.Ends.{packed_room}
use Rattle.sink.proofs.Laws.{gained_room}
use Rattle.sink.proofs.Writing.{laid_push}
use Rattle.sink.proofs.Packing.{length_bits}
use Rattle.sink.proofs.packed.PackedBitsBitSink.put.Goals as goal

pub returns-clause-list : goal.returns-clause-list
returns-clause-list c =
    let l = length_bits c.args.self.now.bytes.now in
    search (rules, take_more_set, gained_room)

pub returns-clause-on : goal.returns-clause-on
returns-clause-on c first bits t =
    let some : 0 < packed_room c.args.self.now = omega (arith, c.room_left.ensures.room) in
    laid_push _ _ _ _ _ _ _ _ _ _ c.args.bit t refl c.set_bit.ensures.bits (gained_room _ bits c.args.bit some)
