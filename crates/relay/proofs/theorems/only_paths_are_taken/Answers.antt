use Rattle.relay.proofs.Places.{taken}
use Rattle.relay.proofs.theorems.only_paths_are_taken.Goals as goal

pub returns : goal.returns
returns c = taken
