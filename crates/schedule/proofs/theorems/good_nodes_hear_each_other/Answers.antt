use Rattle.schedule.proofs.Passing.{hears_good_nodes}
use Rattle.schedule.proofs.theorems.good_nodes_hear_each_other.Goals as goal

pub returns : goal.returns
returns c = hears_good_nodes
