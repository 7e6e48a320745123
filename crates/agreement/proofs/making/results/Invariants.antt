use Rattle.std.proofs.Common.{◌≡◌, ◌<◌, ℕ, length, slice_index}
use Rattle.relay.specs.Tables.{held_for}
use Rattle.agreement.specs.Results.{result_for}
use Rattle.agreement.proofs.making.results.Given as goal

abbrev pub invariant-loop-node : goal.invariant-loop-node
invariant-loop-node l =
    (length l.memory ≡ length l.initial.memory)
    × ((k : ℕ) → k < l.node → slice_index l.memory k ≡ result_for l.cluster.nodes l.cluster.faults (held_for l.cluster l.table) k)
