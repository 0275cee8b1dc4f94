use Rattle.std.proofs.Common.{refl}
use Rattle.trace.specs.Batches.{numbers_from}
use Rattle.trace_writer.specs.Coding.{coded}
use Rattle.trace_writer.proofs.Trips.{reads_written}
use Rattle.trace_writer.proofs.traces.traces_stand.Goals as goal

pub returns : goal.returns
unfolding coded numbers_from
returns c = record { reads = reads_written; worked = (refl, refl, refl, refl, refl, refl) }
