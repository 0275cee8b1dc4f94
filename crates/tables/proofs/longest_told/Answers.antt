use Rattle.std.proofs.Common.{refl}
use Rattle.tables.specs.Longest as table
use Rattle.tables.proofs.Computed.{batches_hold}
use Rattle.tables.proofs.longest_told.Goals as goal

one : table.OneBlockTold
one = batches_hold table.one_block refl

two : table.TwoBlocksTold
two = batches_hold table.two_blocks refl

order : table.LengthOrderTold
order = batches_hold table.length_order refl

pub returns : goal.returns
returns c = record { one = one; two = two; order = order }
