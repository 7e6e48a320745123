-- What the setting of a clock answers. Assumes nothing: these are definitions.
use Rattle.std.specs.Prelude.{◌≡◌, ℕ, ◌*◌, Bool, not, ◌&&◌, List, [], ◌∷◌, length, Result, nat_le, nat_lt}
use Rattle.std.specs.List.{prefix_len}
use Rattle.midpoint.specs.Midpoint.{midpoint}
use Rattle.midpoint.specs.Refusals.{Row, row, ByRows}
use Rattle.midpoint.specs.declared.refusal.Code.{Code}
use Rattle.midpoint.specs.declared.refusal.Refusal.{Refusal}
use Rattle.midpoint.specs.declared.refusal.Refusal.TheVariants.{ReadingCount, TooManyFaults, ReadingTooLarge}

-- the most readings, one of each node, and the number that no clock comes to
abbrev pub most_readings : ℕ
most_readings = 16

abbrev pub clock_limit : ℕ
clock_limit = 1000000000000

-- a reading that a clock can show
abbrev pub shown : ℕ → Bool
shown reading = nat_lt reading clock_limit

-- Readings that no clock is set by, in the order of the checks: none or too many of them; not more than three times the faults; one that is
-- too large, at its index, which is how many stand before it.
abbrev pub unusable : ℕ → List ℕ → List (Row Code)
unusable faults readings =
    row 1 (not (nat_le 1 (length readings) && nat_le (length readings) most_readings)) (length readings)
    ∷ row 2 (nat_le (length readings) (3 * faults)) faults
    ∷ row 3 (nat_lt (prefix_len shown readings) (length readings)) (prefix_len shown readings)
    ∷ []

-- number and place of each refusal of this crate
abbrev pub code_of : Refusal → Code
code_of (ReadingCount n) = record { number = 1; place = n }
code_of (TooManyFaults f) = record { number = 2; place = f }
code_of (ReadingTooLarge i) = record { number = 3; place = i }

-- the midpoint where no row applies, else the first row that does
abbrev pub SetSays : ℕ → List ℕ → Result ℕ Refusal → Type 0
SetSays faults readings answer = ByRows (unusable faults readings) code_of (λ time. time ≡ midpoint faults readings) answer
