-- What a frame is: a byte for its sender, four for its round, then its values of four bytes each. Assumes nothing: these are definitions.
use Rattle.std.specs.Prelude.{ℕ, zero, suc, ◌+◌, ◌-◌, ◌*◌, ◌/◌, ◌%◌, ◌^◌, List, ◌∷◌, ◌++◌, length, take, drop, slice_index, flat_map}
use Rattle.clock.specs.declared.limits.Cluster.{Cluster}
use Rattle.frame.specs.Numbers.{low_first, number_of, numbers_in}
use Rattle.frame.specs.declared.turn.Turn.{Turn}

-- A cycle has a round more than the cluster allows faults, and a round's place in its cycle is counted from 0. In a cycle's first round each node sends
-- its own value. In each further one it sends, for each path of different nodes without itself, what it heard in the round before; such a path has as
-- many nodes as the round's place says.
abbrev pub place_in_cycle : Cluster → ℕ → ℕ
place_in_cycle c round = round % (c.faults + 1)

-- how many such paths there are: the first node is one of all others, the next one of those that are left, and so on
abbrev pub paths_without_one : ℕ → ℕ → ℕ
paths_without_one nodes zero = 1
paths_without_one nodes (suc on_path) = paths_without_one nodes on_path * (nodes - suc on_path)

-- how many values a frame carries, how many bytes it has before them and for each, and how many in all
abbrev pub value_count_of : Turn → ℕ
value_count_of t = paths_without_one t.cluster.nodes (place_in_cycle t.cluster t.round)

abbrev pub header_length : ℕ
header_length = 5

abbrev pub value_length : ℕ
value_length = 4

abbrev pub frame_length_of : Turn → ℕ
frame_length_of t = header_length + value_length * value_count_of t

-- A frame as it is written. Its round is told modulo 2^32, so rounds that are 2^32 apart are told alike.
abbrev pub header_round_of : Turn → ℕ
header_round_of t = t.round % 2 ^ 32

abbrev pub header_of : Turn → List ℕ
header_of t = t.sender ∷ low_first 4 (header_round_of t)

abbrev pub bytes_of : List ℕ → List ℕ
bytes_of values = flat_map (low_first value_length) values

abbrev pub frame_of : Turn → List ℕ → List ℕ
frame_of t values = header_of t ++ bytes_of values

-- A frame as it is read: its sender, its round, and its payload, which is all that lies behind the header; and the values of a payload. Bytes at its end
-- that are too few for a value are no value.
abbrev pub sender_in : List ℕ → ℕ
sender_in frame = slice_index frame 0

abbrev pub round_in : List ℕ → ℕ
round_in frame = number_of (take 4 (drop 1 frame))

abbrev pub payload_of : List ℕ → List ℕ
payload_of frame = drop header_length frame

abbrev pub values_in : List ℕ → List ℕ
values_in payload = numbers_in value_length (length payload / value_length) payload
