use Rattle.script.proofs.GivenOut.{rounds_are_within}
use Rattle.script.proofs.theorems.rounds_that_are_read_are_within.Goals as goal

pub returns : goal.returns
returns c = rounds_are_within
