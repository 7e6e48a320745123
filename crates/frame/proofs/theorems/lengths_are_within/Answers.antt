use Rattle.frame.proofs.Frames.{lengths}
use Rattle.frame.proofs.theorems.lengths_are_within.Goals as goal

pub returns : goal.returns
returns c = lengths
