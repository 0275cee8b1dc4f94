use Rattle.trace_writer.proofs.RoundTrip.{reads_coded, only_coded}
use Rattle.trace_writer.proofs.numbers.numbers_stand.Goals as goal

pub returns : goal.returns
returns c = record { reads = reads_coded; only = only_coded }
