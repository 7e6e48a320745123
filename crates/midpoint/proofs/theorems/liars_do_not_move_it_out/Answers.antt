use Rattle.midpoint.proofs.Ranks.{holds}
use Rattle.midpoint.proofs.theorems.liars_do_not_move_it_out.Goals as goal

pub returns : goal.returns
returns c = holds
