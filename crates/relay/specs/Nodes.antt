-- Sets of nodes, which have the numbers 0 to 15. Assumes nothing: these are definitions.
use Rattle.std.specs.Prelude.{ℕ, ◌/◌, ◌%◌, ◌^◌, Bool, ◌&&◌, ◌||◌, ◌==◌, nat_lt}
use Rattle.relay.specs.declared.nodes.NodeSet.{NodeSet}

-- whether a node is in a set: its bit says so
abbrev pub among : NodeSet → ℕ → Bool
among set node = nat_lt node 16 && (set.bits / 2 ^ node % 2 == 1)

-- a set, as a test, with one node more, if it is one of the 16
abbrev pub added : (ℕ → Bool) → ℕ → ℕ → Bool
added test node other = (nat_lt node 16 && (node == other)) || test other
