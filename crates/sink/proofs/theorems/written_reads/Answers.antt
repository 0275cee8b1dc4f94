use Rattle.sink.proofs.Reading.{written_reads}
use Rattle.sink.proofs.theorems.written_reads.Goals as goal

pub returns : goal.returns
returns g c = written_reads
