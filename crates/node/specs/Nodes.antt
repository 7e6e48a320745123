-- What a node knows between two calls. Assumes nothing: these are definitions.
use Rattle.std.specs.Prelude.{ℕ, ◌%◌, min, Bool, cond, List, take, Option, ◌==◌}
use Rattle.std.specs.Option.{option_map}
use Rattle.clock.specs.Deviation.{largest}
use Rattle.schedule.specs.Config.{timing_of}
use Rattle.schedule.specs.Slots.{slot_of}
use Rattle.frame.specs.declared.turn.Turn.{Turn}
use Rattle.relay.specs.Theorems.{turn_in}
use Rattle.node.specs.declared.state.Node.{Node}

-- the turn of a node in the round that this one is in
abbrev pub turn_of : Node → ℕ → Turn
turn_of node sender = turn_in node.schedule.cluster node.clock.round sender

-- the slot of a node in that round; slots stop at the largest number
abbrev pub slot_in : Node → ℕ → ℕ
slot_in node sender = min (slot_of (timing_of node.schedule) node.clock.round sender) largest

-- Two tables are lent: in an even round the first is read and the second is written, in an odd one the other way round.
abbrev pub reads_first : ℕ → Bool
reads_first round = round % 2 == 0

abbrev pub read_in : ℕ → List ℕ → List ℕ → List ℕ
read_in round first second = cond (reads_first round) first second

abbrev pub written_in : ℕ → List ℕ → List ℕ → List ℕ
written_in round first second = cond (reads_first round) second first

-- the results of the last whole cycle, one for each node, or nothing
abbrev pub results_in : Node → Option (List ℕ)
results_in node = option_map (take node.schedule.cluster.nodes) node.results
