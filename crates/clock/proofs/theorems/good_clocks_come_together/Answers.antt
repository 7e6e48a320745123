use Rattle.clock.proofs.Rounds.{comes_together}
use Rattle.clock.proofs.theorems.good_clocks_come_together.Goals as goal

pub returns : goal.returns
returns c = comes_together
