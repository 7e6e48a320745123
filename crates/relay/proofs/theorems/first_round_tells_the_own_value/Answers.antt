use Rattle.relay.proofs.Relaying.{first_is_own}
use Rattle.relay.proofs.theorems.first_round_tells_the_own_value.Goals as goal

pub returns : goal.returns
returns c = first_is_own
