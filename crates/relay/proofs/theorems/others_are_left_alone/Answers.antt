use Rattle.relay.proofs.Relaying.{others_stay}
use Rattle.relay.proofs.theorems.others_are_left_alone.Goals as goal

pub returns : goal.returns
returns c = others_stay
