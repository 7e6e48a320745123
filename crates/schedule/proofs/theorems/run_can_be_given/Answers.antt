use Rattle.schedule.proofs.Running.{run_can_be_given_lem}
use Rattle.schedule.proofs.theorems.run_can_be_given.Goals as goal

pub returns : goal.returns
returns g c = run_can_be_given_lem
