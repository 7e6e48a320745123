-- Slots, which count from 0 over all rounds: whose they are, and when by a clock they begin and end. Assumes nothing: these are definitions.
use Rattle.std.specs.Prelude.{ℕ, ◌+◌, ◌*◌, ◌/◌, ◌%◌}

-- the longest slot
abbrev pub longest : ℕ
longest = 1000000000

-- how many slots a round has, one for each node; how long a slot is, and the pause at its beginning; and the longest that a message lasts and is on
-- its way
pub record Timing : Type 0 where
  pub nodes : ℕ
  pub length : ℕ
  pub pause : ℕ
  pub message : ℕ
  pub wire : ℕ

-- the node that a slot belongs to, the round that it is of, and the slot of a node in a round
abbrev pub owner_of : Timing → ℕ → ℕ
owner_of t slot = slot % t.nodes

abbrev pub round_of : Timing → ℕ → ℕ
round_of t slot = slot / t.nodes

abbrev pub slot_of : Timing → ℕ → ℕ → ℕ
slot_of t round node = round * t.nodes + node

-- what a clock shows when a slot starts, when the slot's node starts to send in it, and when it ends
abbrev pub slot_start : Timing → ℕ → ℕ
slot_start t slot = slot * t.length

abbrev pub send_time_of : Timing → ℕ → ℕ
send_time_of t slot = slot_start t slot + t.pause

abbrev pub slot_end_of : Timing → ℕ → ℕ
slot_end_of t slot = (slot + 1) * t.length

-- what it shows when a round ends
abbrev pub round_end_of : Timing → ℕ → ℕ
round_end_of t round = (round + 1) * t.nodes * t.length
