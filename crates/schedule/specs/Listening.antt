-- Listening in a slot. Assumes nothing: these are definitions.
use Rattle.std.specs.Prelude.{◌≡◌, ℕ, Bool, cond, not, ◌&&◌, List, [], ◌∷◌, is_some, Some, None, filter, Option, ◌==◌, nat_le, nat_lt}
use Rattle.midpoint.specs.Refusals.{Row, refused_if, first_applying}
use Rattle.midpoint.specs.declared.refusal.Code.{Code}
use Rattle.clock.specs.Deviation.{deviation_of}
use Rattle.schedule.specs.Slots.{Timing, owner_of, slot_start, send_time_of, slot_end_of}
use Rattle.schedule.specs.Config.{timing_of}
use Rattle.schedule.specs.Heard.{with_one}
use Rattle.schedule.specs.declared.limits.Schedule.{Schedule}
use Rattle.schedule.specs.declared.heard.Heard.{Heard}
use Rattle.schedule.specs.declared.heard.Heard.TheVariants.{Nothing}
use Rattle.schedule.specs.declared.listening.Arrival.{Arrival}
use Rattle.schedule.specs.declared.listening.Received.{Received}
use Rattle.schedule.specs.declared.listening.Listener.{Listener}
use Rattle.schedule.specs.declared.listening.Refusal.{Refusal}
use Rattle.schedule.specs.declared.listening.Refusal.TheVariants.{EndsBeforeItBegan, Earlier}

-- number and place of each refusal
abbrev pub code_of : Refusal → Code
code_of EndsBeforeItBegan = record { number = 12; place = 0 }
code_of Earlier = record { number = 12; place = 0 }

-- What arrives is whole in a slot if it is on the wire of the slot's node, began when the slot had started, and had ended when the slot ended.
abbrev pub whole_in : Timing → ℕ → ℕ → ℕ → ℕ → Bool
whole_in t slot wire began ended = wire == owner_of t slot && nat_le (slot_start t slot) began && nat_le ended (slot_end_of t slot)

module _ {M : Type 0} where
  -- An arrival that is not taken: it ended before it began, or before the last time that the listener has seen.
  abbrev pub untimely : ℕ → Arrival M → List (Row Refusal)
  untimely last a = refused_if (nat_lt a.ended a.began) EndsBeforeItBegan ∷ refused_if (nat_lt a.ended last) Earlier ∷ []

  abbrev pub timely : ℕ → Arrival M → Bool
  timely last a = not (is_some (first_applying (untimely last a)))

  -- the arrival came whole in a slot from its node
  abbrev pub came_whole : Schedule → ℕ → Arrival M → Bool
  came_whole s slot a = whole_in (timing_of s) slot a.wire a.began a.ended

  -- what is heard of it: the message, and how far its sender's clock is ahead, which is when the message was due to begin less when it began
  abbrev pub as_heard : Timing → ℕ → Arrival M → Received M
  as_heard t slot a = record { deviation = deviation_of (send_time_of t slot) a.began; message = a.message }

  abbrev pub received_of : Schedule → ℕ → Arrival M → Option (Received M)
  received_of s slot a = cond (came_whole s slot a) (Some (as_heard (timing_of s) slot a)) None

  -- one message more, if it came whole; of several nothing is heard
  abbrev pub with_received : Heard (Received M) → Option (Received M) → Heard (Received M)
  with_received whole None = whole
  with_received whole (Some received) = with_one whole received

  abbrev pub with_arrival : Schedule → ℕ → Heard (Received M) → Arrival M → Heard (Received M)
  with_arrival s slot whole a = with_received whole (received_of s slot a)

  -- a listener that has heard nothing yet
  pub record Opened (s : Schedule) (slot time : ℕ) (l : Listener M) : Type 0 where
    pub its_schedule : l.schedule ≡ s
    pub its_slot : l.slot ≡ slot
    pub its_last : l.last ≡ time
    pub its_whole : l.whole ≡ Nothing

  -- a listener that was told of an arrival; where it does not take it, it is as before
  pub record ToldBy (before : Listener M) (a : Arrival M) (after : Listener M) : Type 0 where
    pub its_schedule : after.schedule ≡ before.schedule
    pub its_slot : after.slot ≡ before.slot
    pub its_last : after.last ≡ cond (timely before.last a) a.ended before.last
    pub its_whole :
        after.whole ≡ cond (timely before.last a) (with_arrival before.schedule before.slot before.whole a) before.whole

  -- What is heard of a slot. Of all that arrived, one after another, from a time on:
  -- what is taken,
  abbrev pub taken : ℕ → List (Arrival M) → List (Arrival M)
  taken last [] = []
  taken last (a ∷ arrivals) = cond (timely last a) (a ∷ taken a.ended arrivals) (taken last arrivals)

  -- of that, what came whole in the slot from its node,
  abbrev pub whole_ones : Schedule → ℕ → ℕ → List (Arrival M) → List (Arrival M)
  whole_ones s slot time arrivals = filter (came_whole s slot) (taken time arrivals)

  -- and of that the only one, if there is one.
  abbrev pub only : List (Arrival M) → Option (Arrival M)
  only [] = None
  only (a ∷ []) = Some a
  only (a ∷ b ∷ arrivals) = None

  abbrev pub heard_as : Timing → ℕ → Option (Arrival M) → Option (Received M)
  heard_as t slot None = None
  heard_as t slot (Some a) = Some (as_heard t slot a)

  abbrev pub heard_in : Schedule → ℕ → ℕ → List (Arrival M) → Option (Received M)
  heard_in s slot time arrivals = heard_as (timing_of s) slot (only (whole_ones s slot time arrivals))

  -- a listener that was told of arrivals, one after another
  pub data Tells : Listener M → List (Arrival M) → Listener M → Type 0 where
    no_more : (l : Listener M) → Tells l [] l
    one_more : (before next after : Listener M) (a : Arrival M) (rest : List (Arrival M)) →
        ToldBy before a next → Tells next rest after → Tells before (a ∷ rest) after

  -- the answer of a listener, over all that it was told of since it was opened
  abbrev pub Answers : Listener M → Option (Received M) → Type 0
  Answers l answer =
      (opened : Listener M) (time : ℕ) (arrivals : List (Arrival M)) → Opened l.schedule l.slot time opened → Tells opened arrivals l →
      answer ≡ heard_in l.schedule l.slot time arrivals
