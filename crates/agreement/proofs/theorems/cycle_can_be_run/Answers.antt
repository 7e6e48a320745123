use Rattle.agreement.proofs.Possible.{cycle_can_be_run}
use Rattle.agreement.proofs.theorems.cycle_can_be_run.Goals as goal

pub returns : goal.returns
returns c = cycle_can_be_run
