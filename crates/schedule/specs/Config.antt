-- The times of a cluster's slots: what is turned away, in the order of the checks. Assumes nothing: these are definitions.
use Rattle.std.specs.Prelude.{◌≡◌, ℕ, ◌+◌, List, [], ◌∷◌, nat_lt}
use Rattle.midpoint.specs.Refusals.{Row, refused_if}
use Rattle.midpoint.specs.declared.refusal.Code.{Code}
use Rattle.clock.specs.Config.{error_of, width_of}
use Rattle.clock.specs.declared.limits.Cluster.{Cluster}
use Rattle.schedule.specs.Slots.{Timing, longest}
use Rattle.schedule.specs.declared.limits.Schedule.{Schedule}
use Rattle.schedule.specs.declared.config.Unfit.{Unfit}
use Rattle.schedule.specs.declared.config.Unfit.TheVariants.{PauseTooShort, LengthTooShort, LengthTooLong}

-- a pause in which a message could find a clock that is still to be set; a slot that is too short for what goes on in it, or longer than 10^9
abbrev pub unfit : Cluster → ℕ → ℕ → ℕ → ℕ → List (Row Unfit)
unfit c length pause message wire =
    refused_if (nat_lt pause (width_of c + error_of c + c.drift)) PauseTooShort
    ∷ refused_if (nat_lt length (pause + wire + width_of c + message)) LengthTooShort
    ∷ refused_if (nat_lt longest length) LengthTooLong
    ∷ []

-- number and place of each refusal
abbrev pub code_of : Unfit → Code
code_of PauseTooShort = record { number = 6; place = 0 }
code_of LengthTooShort = record { number = 6; place = 1 }
code_of LengthTooLong = record { number = 6; place = 1 }

-- a schedule with these times
pub record ScheduleOf (cluster : Cluster) (length pause message wire : ℕ) (s : Schedule) : Type 0 where
  pub its_cluster : s.cluster ≡ cluster
  pub its_length : s.length ≡ length
  pub its_pause : s.pause ≡ pause
  pub its_message : s.message ≡ message
  pub its_wire : s.wire ≡ wire

abbrev pub timing_of : Schedule → Timing
timing_of s = record { nodes = s.cluster.nodes; length = s.length; pause = s.pause; message = s.message; wire = s.wire }
