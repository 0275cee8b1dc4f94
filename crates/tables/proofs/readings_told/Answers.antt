use Rattle.std.proofs.Common.{refl}
use Rattle.tables.specs.Settled as table
use Rattle.tables.proofs.Computed.{numbers_hold}
use Rattle.tables.proofs.readings_told.Goals as goal

marked : table.MarkedTold
marked = numbers_hold table.marked refl

answers : table.AnswersTold
answers = numbers_hold table.answers refl

refusals : table.RefusalsTold
refusals = numbers_hold table.refusals refl

pub returns : goal.returns
returns c = record { marked = marked; answers = answers; refusals = refusals }
