-- Frames written into lent memory. Assumes nothing: these are definitions.
use Rattle.std.specs.Prelude.{◌≡◌, ℕ, ◌+◌, ◌*◌, ◌/◌, ◌^◌, ◌<◌, cond, List, [], ◌∷◌, ◌++◌, length, take, drop, map, nat_lt}
use Rattle.std.specs.List.{range_with_len}
use Rattle.midpoint.specs.Refusals.{Row, refused_if}
use Rattle.frame.specs.Numbers.{low_first}
use Rattle.frame.specs.Layout.{value_length, value_count_of, frame_length_of, bytes_of, frame_of}
use Rattle.frame.specs.declared.turn.Turn.{Turn}
use Rattle.frame.specs.declared.refusal.Refusal.{Refusal}
use Rattle.frame.specs.declared.refusal.Refusal.TheVariants.{Length}

-- memory that is too short for the frame
abbrev pub too_short : Turn → List ℕ → List (Row Refusal)
too_short t memory = refused_if (nat_lt (length memory) (frame_length_of t)) (Length (length memory)) ∷ []

-- memory with a row written over its front; what lies behind the row is kept
abbrev pub written_over : List ℕ → List ℕ → List ℕ
written_over row memory = row ++ drop (length row) memory

-- values that are given by their index: the first ones, so many of them
abbrev pub first_values : (ℕ → ℕ) → ℕ → List ℕ
first_values value count = map value (range_with_len 0 count)

-- and that these fit into four bytes each
abbrev pub FirstFit : (ℕ → ℕ) → ℕ → Type 0
FirstFit value count = (index : ℕ) → index < count → value index < 2 ^ 32

-- a payload that such values have filled, as many as there is room for
abbrev pub filled : (ℕ → ℕ) → List ℕ → List ℕ
filled value payload = written_over (bytes_of (first_values value (length payload / value_length))) payload

-- memory in which a frame with such values was written
abbrev pub with_frame : Turn → (ℕ → ℕ) → List ℕ → List ℕ
with_frame t value memory = written_over (frame_of t (first_values value (value_count_of t))) memory

-- the value at an index of a payload of this length starts here
abbrev pub StartsAt : ℕ → ℕ → ℕ → Type 0
StartsAt length index start = (index < length / value_length) × (start ≡ value_length * index)

-- a payload in which the value at an index was put, if there is room for it
abbrev pub with_value : ℕ → ℕ → List ℕ → List ℕ
with_value index value payload =
    cond
    (nat_lt index (length payload / value_length))
    (take (value_length * index) payload ++ low_first value_length value ++ drop (value_length * index + value_length) payload)
    payload
