use Rattle.agreement.proofs.Majorities.{is_majority}
use Rattle.agreement.proofs.theorems.majority_is_the_most.Goals as goal

pub returns : goal.returns
returns c = is_majority
