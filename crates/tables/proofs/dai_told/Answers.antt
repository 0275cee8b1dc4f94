use Rattle.std.proofs.Common.{refl}
use Rattle.tables.specs.Dai as table
use Rattle.tables.proofs.Computed.{numbers_hold, readings_hold}
use Rattle.tables.proofs.dai_told.Goals as goal

numbers : table.NumbersTold
numbers = numbers_hold table.numbers refl

fields : table.FieldsRead
fields = readings_hold table.readings refl

pub returns : goal.returns
returns c = record { numbers = numbers; fields = fields }
