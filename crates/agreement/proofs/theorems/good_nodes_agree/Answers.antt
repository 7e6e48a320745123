use Rattle.agreement.proofs.Agreeing.{agreed}
use Rattle.agreement.proofs.theorems.good_nodes_agree.Goals as goal

pub returns : goal.returns
returns c = agreed
