use Rattle.std.proofs.Common.{refl}
use Rattle.tables.specs.PlaceBits as table
use Rattle.tables.proofs.Computed.{batches_hold}
use Rattle.tables.proofs.bits_told.Goals as goal

places : table.PlacesTold
places = batches_hold table.places refl

sps : table.SpsTold
sps = batches_hold table.receptions refl

pub returns : goal.returns
returns c = record { places = places; sps = sps }
