use Rattle.relay.proofs.Relaying.{holds_what_it_tells}
use Rattle.relay.proofs.theorems.node_holds_what_it_tells.Goals as goal

pub returns : goal.returns
returns c = holds_what_it_tells
