use Rattle.frame.proofs.Frames.{put_is_read}
use Rattle.frame.proofs.theorems.what_is_put_is_read.Goals as goal

pub returns : goal.returns
returns c = put_is_read
