use Rattle.relay.proofs.Relaying.{round_is_whole}
use Rattle.relay.proofs.theorems.round_is_whole.Goals as goal

pub returns : goal.returns
returns c = round_is_whole
