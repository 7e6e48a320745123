use Rattle.node.proofs.Carrying.{runs_are_set}
use Rattle.node.proofs.theorems.rounds_of_runs_are_set.Goals as goal

pub returns : goal.returns
returns c = runs_are_set
