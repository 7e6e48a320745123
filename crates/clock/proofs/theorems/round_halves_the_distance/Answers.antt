use Rattle.clock.proofs.Rounds.{halves}
use Rattle.clock.proofs.theorems.round_halves_the_distance.Goals as goal

pub returns : goal.returns
returns c = halves
