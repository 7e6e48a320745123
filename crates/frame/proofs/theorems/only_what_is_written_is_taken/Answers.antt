use Rattle.frame.proofs.Frames.{exact}
use Rattle.frame.proofs.theorems.only_what_is_written_is_taken.Goals as goal

pub returns : goal.returns
returns c = exact
