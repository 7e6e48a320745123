use Rattle.std.proofs.Common.{rules}
use Rattle.schedule.proofs.Arrivals.{deviation_behind}
use Rattle.schedule.proofs.listening.Listener.deviation.Goals as goal

pub returns : goal.returns
returns g c = search (rules, deviation_behind)
