use Rattle.schedule.proofs.Answered.{hears_from_its_slot}
use Rattle.schedule.proofs.theorems.what_is_heard_is_of_its_slot.Goals as goal

pub returns : goal.returns
returns g c = hears_from_its_slot c.args.listener
