use Rattle.midpoint.proofs.Ranks.{order_free}
use Rattle.midpoint.proofs.theorems.order_does_not_matter.Goals as goal

pub returns : goal.returns
returns c = order_free
