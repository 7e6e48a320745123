use Rattle.schedule.proofs.Passing.{nothing_overlaps_lem}
use Rattle.schedule.proofs.theorems.nothing_overlaps.Goals as goal

pub returns : goal.returns
returns c = nothing_overlaps_lem
