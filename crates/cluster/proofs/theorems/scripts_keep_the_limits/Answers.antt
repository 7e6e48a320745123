use Rattle.cluster.proofs.Scripts.{script_keeps}
use Rattle.cluster.proofs.theorems.scripts_keep_the_limits.Goals as goal

pub returns : goal.returns
returns c = script_keeps
