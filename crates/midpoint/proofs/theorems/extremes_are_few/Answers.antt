use Rattle.midpoint.proofs.Ranks.{trims}
use Rattle.midpoint.proofs.theorems.extremes_are_few.Goals as goal

pub returns : goal.returns
returns c = trims
