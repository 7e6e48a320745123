use Rattle.schedule.proofs.Passing.{sets_before}
use Rattle.schedule.proofs.theorems.clocks_are_set_before.Goals as goal

pub returns : goal.returns
returns c = sets_before
