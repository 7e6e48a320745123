use Rattle.clock.proofs.Rounds.{counts_together}
use Rattle.clock.proofs.theorems.rounds_are_counted_together.Goals as goal

pub returns : goal.returns
returns c = counts_together
