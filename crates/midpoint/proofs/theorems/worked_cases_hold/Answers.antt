use Rattle.std.proofs.Common.{refl}
use Rattle.midpoint.specs.Order.{insert, sorted}
use Rattle.midpoint.proofs.theorems.worked_cases_hold.Goals as goal

pub returns : goal.returns
unfolding insert sorted
returns c = (refl, (refl, (refl, (refl, (refl, tt)))))
