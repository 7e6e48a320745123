use Rattle.relay.proofs.Relaying.{tables_within}
use Rattle.relay.proofs.theorems.tables_are_within.Goals as goal

pub returns : goal.returns
returns c = tables_within
