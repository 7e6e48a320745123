use Rattle.schedule.proofs.Passing.{makes_a_round}
use Rattle.schedule.proofs.theorems.heard_rounds_are_rounds.Goals as goal

pub returns : goal.returns
returns c = makes_a_round
