use Rattle.std.proofs.Common.{take}
use Rattle.agreement.specs.Pairs.{IsLeftOf}
use Rattle.agreement.proofs.most.candidate.Given as goal

abbrev pub invariant-loop-value : goal.invariant-loop-value
invariant-loop-value l = IsLeftOf (take l.value-index l.values) l.left
