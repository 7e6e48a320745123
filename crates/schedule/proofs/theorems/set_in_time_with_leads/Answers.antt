use Rattle.schedule.proofs.Passing.{set_in_time}
use Rattle.schedule.proofs.theorems.set_in_time_with_leads.Goals as goal

pub returns : goal.returns
returns c = set_in_time
