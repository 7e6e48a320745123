use Rattle.relay.proofs.Order.{index_is_order}
use Rattle.relay.proofs.theorems.index_is_the_order.Goals as goal

pub returns : goal.returns
returns c = index_is_order
