use Rattle.std.proofs.Common.{refl}
use Rattle.tables.specs.Counting as table
use Rattle.tables.proofs.Computed.{batches_hold}
use Rattle.tables.proofs.counting_told.Goals as goal

counters : table.CountersTold
counters = batches_hold table.counters refl

totals : table.TotalsTold
totals = batches_hold table.totals refl

uncounted : table.UncountedTold
uncounted = batches_hold table.uncounted refl

pub returns : goal.returns
returns c = record { counters = counters; totals = totals; uncounted = uncounted }
