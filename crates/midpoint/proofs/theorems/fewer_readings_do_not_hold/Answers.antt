use Rattle.std.proofs.Common.{refl}
use Rattle.midpoint.specs.Order.{insert, sorted, count}
use Rattle.midpoint.proofs.theorems.fewer_readings_do_not_hold.Goals as goal

pub returns : goal.returns
unfolding insert sorted count
returns c = (refl, refl, refl, refl)
