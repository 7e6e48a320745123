use Rattle.relay.proofs.Relaying.{relays}
use Rattle.relay.proofs.theorems.what_is_told_is_held.Goals as goal

pub returns : goal.returns
returns c = relays
