use Rattle.clock.proofs.Rounds.{stays_together}
use Rattle.clock.proofs.theorems.good_clocks_stay_together.Goals as goal

pub returns : goal.returns
returns c = stays_together
