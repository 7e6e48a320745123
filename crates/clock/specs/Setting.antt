-- A clock that goes on, and one that is set at the end of a round. Assumes nothing: these are definitions.
use Rattle.std.specs.Prelude.{◌≡◌, ℕ, ◌+◌, ◌<◌, min, cond, not, List, [], ◌∷◌, map, ℤ, Some, None, Ok, Err, Option, Result, ◌==◌, nat_lt, slice_index_or}
use Rattle.std.specs.List.{range_with_len}
use Rattle.midpoint.specs.Midpoint.{midpoint}
use Rattle.midpoint.specs.Refusals.{Row, row, first_applying}
use Rattle.midpoint.specs.Setting.{shown, unusable, clock_limit}
use Rattle.midpoint.specs.declared.refusal.Code.{Code}
use Rattle.midpoint.specs.declared.refusal.Refusal as of_readings
use Rattle.clock.specs.Deviation.{moved, largest}
use Rattle.clock.specs.declared.limits.Clock.{Clock}
use Rattle.clock.specs.declared.limits.Cluster.{Cluster}
use Rattle.clock.specs.declared.setting.Refusal.{Refusal}
use Rattle.clock.specs.declared.setting.Refusal.TheVariants.{PastLimit, Earlier}

-- A time that a node's clock does not go on to: one that no clock comes to, at the node's own number, or one that is earlier than the last.
abbrev pub untimely : ℕ → ℕ → ℕ → List (Row Code)
untimely last node time = row 3 (not (shown time)) node ∷ row 12 (nat_lt time last) 0 ∷ []

-- number and place of each refusal
abbrev pub code_of : Refusal → Code
code_of (PastLimit node) = record { number = 3; place = node }
code_of Earlier = record { number = 12; place = 0 }

-- the new time, or the old one where the new one is turned away
abbrev pub unless : Option Code → ℕ → ℕ → ℕ
unless None new old = new
unless (Some code) new old = old

-- a clock that went on shows the time, and one that was refused what it showed before; the round is the same
pub record GoneOn (before : Clock) (node time : ℕ) (after : Clock) : Type 0 where
  pub its_shown : after.shown ≡ unless (first_applying (untimely before.shown node time)) time before.shown
  pub its_round : after.round ≡ before.round

-- What a node reads: of itself its own clock, of another its own clock moved by the deviation, and where nothing was heard its own clock.
abbrev pub read_of : ℕ → Option ℤ → ℕ
read_of own None = own
read_of own (Some deviation) = moved own deviation

abbrev pub reads : ℕ → ℕ → List (Option ℤ) → ℕ → ℕ
reads node own heard q = cond (q == node) own (read_of own (slice_index_or heard q None))

unfoldable pub readings : ℕ → ℕ → ℕ → List (Option ℤ) → List ℕ
readings nodes node own heard = map (reads node own heard) (range_with_len 0 nodes)

-- a setting that leaves a time that a clock can show
abbrev pub Showable : Result ℕ of_readings.Refusal → Type 0
Showable (Ok time) = time < clock_limit
Showable (Err refusal) = Unit {0}

-- what a clock shows behind a setting, by its answer: the midpoint, or what it showed before
abbrev pub shown_after : ℕ → Result ℕ of_readings.Refusal → ℕ
shown_after own (Ok time) = time
shown_after own (Err refusal) = own

-- what the setting makes of readings: their midpoint, or the own clock where they are turned away
abbrev pub settled : ℕ → ℕ → List ℕ → ℕ
settled faults own xs = unless (first_applying (unusable faults xs)) (midpoint faults xs) own

-- the round counts on, and stops at the largest number
abbrev pub next_round_of : ℕ → ℕ
next_round_of round = min (round + 1) largest

-- the clock of a node behind the setting at the end of a round
pub record SetBy (c : Cluster) (node : ℕ) (before : Clock) (heard : List (Option ℤ)) (after : Clock) : Type 0 where
  pub its_shown : after.shown ≡ settled c.faults before.shown (readings c.nodes node before.shown heard)
  pub its_round : after.round ≡ next_round_of before.round
