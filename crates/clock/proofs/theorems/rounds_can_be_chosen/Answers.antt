use Rattle.clock.proofs.Choosable.{chosen}
use Rattle.clock.proofs.theorems.rounds_can_be_chosen.Goals as goal

pub returns : goal.returns
returns c = chosen
