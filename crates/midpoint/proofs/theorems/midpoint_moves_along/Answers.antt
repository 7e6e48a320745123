use Rattle.midpoint.proofs.Shifts.{shifts}
use Rattle.midpoint.proofs.theorems.midpoint_moves_along.Goals as goal

pub returns : goal.returns
returns c = shifts
