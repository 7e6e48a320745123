use Rattle.clock.proofs.Rounds.{stays_between}
use Rattle.clock.proofs.theorems.nobody_is_pulled_out.Goals as goal

pub returns : goal.returns
returns c = stays_between
