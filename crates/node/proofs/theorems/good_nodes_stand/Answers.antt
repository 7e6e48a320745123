use Rattle.node.proofs.Carrying.{stands_always}
use Rattle.node.proofs.theorems.good_nodes_stand.Goals as goal

pub returns : goal.returns
returns c = stands_always
