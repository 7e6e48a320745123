use Rattle.frame.proofs.Frames.{said_one_way}
use Rattle.frame.proofs.theorems.values_are_said_one_way.Goals as goal

pub returns : goal.returns
returns c = said_one_way
