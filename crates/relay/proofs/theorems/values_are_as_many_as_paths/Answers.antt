use Rattle.relay.proofs.Relaying.{as_many_values}
use Rattle.relay.proofs.theorems.values_are_as_many_as_paths.Goals as goal

pub returns : goal.returns
returns c = as_many_values
