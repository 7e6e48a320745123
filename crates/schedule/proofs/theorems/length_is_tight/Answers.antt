use Rattle.schedule.proofs.Tight.{length_is_tight_lem}
use Rattle.schedule.proofs.theorems.length_is_tight.Goals as goal

pub returns : goal.returns
returns c = length_is_tight_lem
