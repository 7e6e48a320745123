use Rattle.node.proofs.Settings.{sets_between}
use Rattle.node.proofs.theorems.nobody_is_pulled_out.Goals as goal

pub returns : goal.returns
returns c = sets_between
