use Rattle.schedule.proofs.Standing.{stands}
use Rattle.schedule.proofs.theorems.good_nodes_stand_together.Goals as goal

pub returns : goal.returns
returns g c = stands
