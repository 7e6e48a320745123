use Rattle.std.proofs.Common.{◌≡◌, ◌-◌}
use Rattle.relay.specs.Indices.{next_index, indices_left}
use Rattle.relay.proofs.indices.PathIndicesIterator.next.Given as goal

abbrev pub invariant-loop-self : goal.invariant-loop-self
invariant-loop-self l = indices_left l.self ≡ indices_left l.initial.self

abbrev pub decreases-loop-self : goal.decreases-loop-self
decreases-loop-self l = l.self.end - next_index l.self
