use Rattle.agreement.proofs.Cycles.{agreed_by_tables}
use Rattle.agreement.proofs.theorems.results_agree.Goals as goal

pub returns : goal.returns
returns c = agreed_by_tables
