use Rattle.agreement.proofs.Examples.{anything_told}
use Rattle.agreement.proofs.theorems.anything_can_be_told.Goals as goal

pub returns : goal.returns
returns c = anything_told
