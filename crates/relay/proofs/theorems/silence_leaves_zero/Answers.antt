use Rattle.relay.proofs.Relaying.{silence_is_zero}
use Rattle.relay.proofs.theorems.silence_leaves_zero.Goals as goal

pub returns : goal.returns
returns c = silence_is_zero
