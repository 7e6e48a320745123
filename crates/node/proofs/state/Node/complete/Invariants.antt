use Rattle.std.proofs.Common.{◌≡◌, not, length}
use Rattle.std.specs.List.{filter, range_with_len}
use Rattle.relay.specs.Nodes.{among}
use Rattle.relay.specs.Theorems.{EnteredAll}
use Rattle.node.specs.Ending.{value_missed}
use Rattle.node.proofs.state.Node.complete.Given as goal

abbrev pub invariant-loop-node : goal.invariant-loop-node
invariant-loop-node l =
    (length l.written ≡ length l.initial.written)
    × EnteredAll l.self.schedule.cluster l.self.clock.round (value_missed l.self l.read) (filter (λ q. not (among l.self.over q)) (range_with_len 0 l.node)) l.initial.written l.written
