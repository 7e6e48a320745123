use Rattle.node.proofs.Settings.{sets_closer}
use Rattle.node.proofs.theorems.setting_halves_the_distance.Goals as goal

pub returns : goal.returns
returns c = sets_closer
