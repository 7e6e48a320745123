use Rattle.frame.proofs.Frames.{round_trip}
use Rattle.frame.proofs.theorems.what_is_written_is_read.Goals as goal

pub returns : goal.returns
returns c = round_trip
