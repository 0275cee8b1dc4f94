use Rattle.outside.proofs.Splitting.{split_found}
use Rattle.outside.proofs.vectors.split_at.Goals as goal

pub returns : goal.returns
returns c = split_found _ _ _ c.split_once.ensures.cases
