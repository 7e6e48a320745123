use Rattle.clock.proofs.Possible.{can_be_run}
use Rattle.clock.proofs.theorems.rounds_can_be_run.Goals as goal

pub returns : goal.returns
returns c = can_be_run
