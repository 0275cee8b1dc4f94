use Rattle.std.proofs.Common.{refl}
use Rattle.tables.specs.Refused as table
use Rattle.tables.proofs.Computed.{batches_hold}
use Rattle.tables.proofs.refusals_told.Goals as goal

numbers : table.RefusalsNumbered
numbers = refl

configurations : table.ConfigurationsJudged
configurations = batches_hold table.configurations refl

arrivals : table.ArrivalsJudged
arrivals = batches_hold table.arrivals refl

fields : table.FieldsJudged
fields = batches_hold table.fields refl

blocks : table.BlocksJudged
blocks = batches_hold table.block_counts refl

totals : table.TotalsJudged
totals = batches_hold table.totals refl

uncounted : table.UncountedJudged
uncounted = batches_hold table.uncounted refl

sps : table.SpsJudged
sps = batches_hold table.receptions refl

whole : table.WholeJudged
whole = batches_hold table.wholes refl

pub returns : goal.returns
returns c = record { numbers = numbers; configurations = configurations; arrivals = arrivals; fields = fields; blocks = blocks; totals = totals; uncounted = uncounted; sps = sps; whole = whole }
