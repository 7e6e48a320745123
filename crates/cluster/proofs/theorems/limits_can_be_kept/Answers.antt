use Rattle.cluster.proofs.Little.{limits_can_be_kept}
use Rattle.cluster.proofs.theorems.limits_can_be_kept.Goals as goal

pub returns : goal.returns
returns c = limits_can_be_kept
