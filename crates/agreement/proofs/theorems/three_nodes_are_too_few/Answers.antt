use Rattle.agreement.proofs.Examples.{three_are_too_few}
use Rattle.agreement.proofs.theorems.three_nodes_are_too_few.Goals as goal

pub returns : goal.returns
returns c = three_are_too_few
