use Rattle.schedule.proofs.Passing.{reads_right}
use Rattle.schedule.proofs.theorems.good_nodes_read_right.Goals as goal

pub returns : goal.returns
returns c = reads_right
