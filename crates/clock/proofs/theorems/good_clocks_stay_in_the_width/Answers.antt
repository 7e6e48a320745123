use Rattle.clock.proofs.Rounds.{stays_in_width}
use Rattle.clock.proofs.theorems.good_clocks_stay_in_the_width.Goals as goal

pub returns : goal.returns
returns c = stays_in_width
