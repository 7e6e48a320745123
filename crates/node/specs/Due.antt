-- Which call comes next, and when. Assumes nothing: these are definitions.
use Rattle.std.specs.Prelude.{ℕ, min, cond, not, Some, None, Option, ◌==◌}
use Rattle.std.specs.List.{find, range_with_len}
use Rattle.clock.specs.Deviation.{largest}
use Rattle.schedule.specs.Config.{timing_of}
use Rattle.schedule.specs.Slots.{send_time_of, slot_end_of, round_end_of}
use Rattle.relay.specs.Nodes.{among}
use Rattle.node.specs.Nodes.{slot_in}
use Rattle.node.specs.declared.state.Node.{Node}
use Rattle.node.specs.declared.due.Call.{Call}
use Rattle.node.specs.declared.due.Call.TheVariants.{Send, SlotOver, RoundOver}
use Rattle.node.specs.declared.due.Due.{Due}

-- the first node of the cluster whose slot is not over yet in this round
abbrev pub next_slot : Node → Option ℕ
next_slot node = find (λ q. not (among node.over q)) (range_with_len 0 node.schedule.cluster.nodes)

-- The node sends in its own slot, and hears when the slot of another one is over; when all are over, so is the round.
abbrev pub call_for : ℕ → Option ℕ → Call
call_for own None = RoundOver
call_for own (Some q) = cond (q == own) Send (SlotOver q)

abbrev pub call_of : Node → Call
call_of node = call_for node.own (next_slot node)

-- when it is due by the own clock, in the round that the node is in; times stop at the largest number
abbrev pub time_of : Node → Call → ℕ
time_of node Send = let t = timing_of node.schedule in min (send_time_of t (slot_in node node.own)) largest
time_of node (SlotOver q) = let t = timing_of node.schedule in min (slot_end_of t (slot_in node q)) largest
time_of node RoundOver = min (round_end_of (timing_of node.schedule) node.clock.round) largest

abbrev pub due_of : Node → Due
due_of node = record { call = call_of node; time = time_of node (call_of node) }
