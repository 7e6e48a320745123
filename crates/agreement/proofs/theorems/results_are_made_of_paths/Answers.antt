use Rattle.agreement.proofs.Made.{results_are_made}
use Rattle.agreement.proofs.theorems.results_are_made_of_paths.Goals as goal

pub returns : goal.returns
returns c = results_are_made
