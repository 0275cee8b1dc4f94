use Rattle.sink.proofs.Reading.{digit_says, said_digit, text_reads}
use Rattle.sink.proofs.theorems.text_reads.Goals as goal

pub returns : goal.returns
returns c = record { says = digit_says; back = said_digit; reads = text_reads }
