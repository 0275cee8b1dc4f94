use Rattle.std.proofs.Common.{refl}
use Rattle.tables.specs.Exchanged as both
use Rattle.tables.specs.Worked as table
use Rattle.tables.proofs.Computed.{numbers_hold, batches_hold, texts_hold}
use Rattle.tables.proofs.worked_batches.Goals as goal

fields : table.FieldsWorked
fields = numbers_hold table.fields refl

reports : table.BatchesWorked
reports = batches_hold table.batches refl

slots : table.SlotsWorked
slots = texts_hold table.slots refl

exchanges : both.ExchangesWorked
exchanges = texts_hold both.exchanges refl

counts : both.CountsWorked
counts = numbers_hold both.counts refl

pub returns : goal.returns
returns c = record { fields = fields; reports = reports; slots = slots; exchanges = exchanges; counts = counts }
