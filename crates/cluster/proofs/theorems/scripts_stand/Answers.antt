use Rattle.cluster.proofs.Scripts.{scripts_stand}
use Rattle.cluster.proofs.theorems.scripts_stand.Goals as goal

pub returns : goal.returns
returns c = scripts_stand
