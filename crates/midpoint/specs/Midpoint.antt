-- The fault-tolerant midpoint of readings. Assumes nothing: these are definitions.
use Rattle.std.specs.Prelude.{ℕ, ◌+◌, ◌-◌, ◌/◌, List, length, slice_index}
use Rattle.midpoint.specs.Order.{sorted}

-- the reading that stands behind f others in rising order, and the one that stands before f others
abbrev pub lower : ℕ → List ℕ → ℕ
lower f xs = slice_index (sorted xs) f

abbrev pub upper : ℕ → List ℕ → ℕ
upper f xs = slice_index (sorted xs) (length xs - 1 - f)

-- half of their sum, rounded down
abbrev pub midpoint : ℕ → List ℕ → ℕ
midpoint f xs = (lower f xs + upper f xs) / 2
