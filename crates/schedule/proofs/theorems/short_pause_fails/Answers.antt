use Rattle.schedule.proofs.Tight.{short_pause_fails_lem}
use Rattle.schedule.proofs.theorems.short_pause_fails.Goals as goal

pub returns : goal.returns
returns c = short_pause_fails_lem
