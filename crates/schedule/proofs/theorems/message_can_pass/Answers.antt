use Rattle.schedule.proofs.Possible.{message_can_pass_lem}
use Rattle.schedule.proofs.theorems.message_can_pass.Goals as goal

pub returns : goal.returns
returns c = message_can_pass_lem
