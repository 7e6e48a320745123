use Rattle.schedule.proofs.Possible.{round_can_be_heard_lem}
use Rattle.schedule.proofs.theorems.round_can_be_heard.Goals as goal

pub returns : goal.returns
returns c = round_can_be_heard_lem
