use Rattle.trace.proofs.Shown.{digits_shown}
use Rattle.trace.proofs.lines.lines_stand.Goals as goal

pub returns : goal.returns
returns c = digits_shown
