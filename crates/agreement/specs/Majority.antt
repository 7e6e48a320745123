-- The value that more than half of a list have. Assumes nothing: these are definitions.
use Rattle.std.specs.Prelude.{ℕ, ◌*◌, Bool, List, length, unwrap_or, ◌==◌, nat_lt}
use Rattle.std.specs.List.{find}
use Rattle.midpoint.specs.Order.{count}

-- how often a value stands in a list
abbrev pub times : ℕ → List ℕ → ℕ
times value values = count (λ one. one == value) values

-- whether more than half of a list have this value
abbrev pub is_most : List ℕ → ℕ → Bool
is_most values value = nat_lt (length values) (2 * times value values)

-- the value that more than half of a list have, or 0 if there is none
unfoldable pub majority : List ℕ → ℕ
majority values = unwrap_or (find (is_most values) values) 0
