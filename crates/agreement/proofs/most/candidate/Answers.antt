use Rattle.agreement.proofs.Pairs.{nothing}
use Rattle.agreement.proofs.most.candidate.Goals as goal

pub loop-value-init : goal.loop-value-init
loop-value-init c = nothing
