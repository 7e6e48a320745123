use Rattle.frame.proofs.Frames.{received_whole}
use Rattle.frame.proofs.theorems.what_is_written_is_received.Goals as goal

pub returns : goal.returns
returns c = received_whole
