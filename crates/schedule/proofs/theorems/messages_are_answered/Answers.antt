use Rattle.schedule.proofs.Answered.{hears_the_message}
use Rattle.schedule.proofs.theorems.messages_are_answered.Goals as goal

pub returns : goal.returns
returns g c = hears_the_message c.args.listener
