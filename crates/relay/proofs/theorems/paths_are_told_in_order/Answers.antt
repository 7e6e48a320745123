use Rattle.relay.proofs.Relaying.{paths_in_order}
use Rattle.relay.proofs.theorems.paths_are_told_in_order.Goals as goal

pub returns : goal.returns
returns c = paths_in_order
