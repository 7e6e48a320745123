use Rattle.midpoint.proofs.Ranks.{sorts}
use Rattle.midpoint.proofs.theorems.sorting_keeps_the_readings.Goals as goal

pub returns : goal.returns
returns c = sorts
