use Rattle.midpoint.proofs.Ranks.{stays_shown}
use Rattle.midpoint.proofs.theorems.limit_is_not_passed.Goals as goal

pub returns : goal.returns
returns c = stays_shown
