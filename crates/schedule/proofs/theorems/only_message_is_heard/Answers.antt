use Rattle.schedule.proofs.Arrivals.{hears_the_only_one}
use Rattle.schedule.proofs.theorems.only_message_is_heard.Goals as goal

pub returns : goal.returns
returns g c = hears_the_only_one c.args.listener
