use Rattle.node.proofs.Giving.{can_be_given}
use Rattle.node.proofs.theorems.run_can_be_given.Goals as goal

pub returns : goal.returns
returns c = can_be_given
