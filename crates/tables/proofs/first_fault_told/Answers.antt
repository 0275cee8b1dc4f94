use Rattle.std.proofs.Common.{refl}
use Rattle.tables.specs.FirstFaults as table
use Rattle.tables.proofs.Computed.{batches_hold}
use Rattle.tables.proofs.first_fault_told.Goals as goal

first : table.FirstTold
first = batches_hold table.faults refl

pub returns : goal.returns
returns c = first
