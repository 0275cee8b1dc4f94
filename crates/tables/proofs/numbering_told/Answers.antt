use Rattle.std.proofs.Common.{refl}
use Rattle.tables.specs.Numbered as table
use Rattle.tables.proofs.Computed.{numbers_hold}
use Rattle.tables.proofs.numbering_told.Goals as goal

openings : table.OpeningsTold
openings = numbers_hold table.openings refl

calls : table.CallsTold
calls = numbers_hold table.calls_answered refl

reasons : table.ReasonsTold
reasons = numbers_hold table.reasons refl

sending : table.SendingTold
sending = numbers_hold table.sending refl

pub returns : goal.returns
returns c = record { openings = openings; calls = calls; reasons = reasons; sending = sending }
