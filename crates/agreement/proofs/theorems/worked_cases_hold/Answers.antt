use Rattle.agreement.proofs.Examples.{worked}
use Rattle.agreement.proofs.theorems.worked_cases_hold.Goals as goal

pub returns : goal.returns
returns c = worked
