-- A good node of the cluster: what the calls of its driver make of it. Assumes nothing: these are definitions.
use Rattle.std.specs.Prelude.{◌≡◌, ℕ, ◌+◌, min, Bool, cond, ℤ, List, length, replicate, slice_set, Some, None, Option, Ok, Err, Result, MatchOption}
use Rattle.std.specs.Option.{unwrap_or}
use Rattle.midpoint.specs.Refusals.{ByRows, first_applying}
use Rattle.midpoint.specs.Setting as of_readings
use Rattle.midpoint.specs.declared.refusal.Code.{Code}
use Rattle.clock.specs.Deviation.{moved, largest}
use Rattle.schedule.specs.declared.limits.Schedule.{Schedule}
use Rattle.schedule.specs.declared.listening.Received.{Received}
use Rattle.frame.specs.Layout.{frame_length_of}
use Rattle.frame.specs.Reading as of_frames
use Rattle.frame.specs.declared.reading.Reception.TheVariants.{Whole, TurnedAway}
use Rattle.relay.specs.Tables.{table_length_of}
use Rattle.node.specs.Nodes.{turn_of}
use Rattle.node.specs.Starting.{MadeWith}
use Rattle.node.specs.Calls.{unsent, unheard, unended}
use Rattle.node.specs.Sending.{Sends}
use Rattle.node.specs.Hearing.{Hears}
use Rattle.node.specs.Ending.{Ends, IsSet, shown_by}
use Rattle.node.specs.Events.{Becomes}
use Rattle.node.specs.Refusals as of_calls
use Rattle.node.specs.declared.refusal.Refusal.{Refusal}
use Rattle.node.specs.declared.event.Event.{Event}
use Rattle.node.specs.declared.event.Event.TheVariants as event
use Rattle.node.specs.declared.ending.Setting.{Setting}
use Rattle.node.specs.declared.ending.Setting.TheVariants.{SetTo, Kept}
use Rattle.cluster.specs.declared.station.Came.{Came}
use Rattle.cluster.specs.declared.station.Came.TheVariants as came
use Rattle.cluster.specs.declared.station.Station.{Station}

-- what is noted of what came in a slot
abbrev pub came_of : Event → Came
came_of event.Nothing = came.Nothing
came_of (event.Frame (Whole deviation payload)) = came.Whole deviation
came_of (event.Frame (TurnedAway refusal)) = came.TurnedAway (of_frames.code_of refusal)

-- A station as it begins, with a node that was made before the first round, and nothing noted.
pub record Starts (s : Schedule) (number value ahead : ℕ) (station : Station) : Type 0 where
  pub old : List ℕ
  pub fits : length old ≡ table_length_of s.cluster
  pub made : MadeWith s number 0 value old station.node station.first.items
  pub second_fits : length station.second.items ≡ table_length_of s.cluster
  pub time : station.time ≡ ahead
  pub value_given : station.value ≡ value
  pub next : station.next ≡ value
  pub came : station.came ≡ replicate 16 came.Nothing
  pub refused : station.refused ≡ None

-- all but the node, its tables, and what is noted of the slots is as it was
pub record Same (before after : Station) : Type 0 where
  pub time : after.time ≡ before.time
  pub value : after.value ≡ before.value
  pub next : after.next ≡ before.next
  pub refused : after.refused ≡ before.refused

-- Its slot: it makes the node's call at the time that its clock shows. The answer is the frame's length, or nothing, if the call is turned away.
pub record SentBy (before : Station) (memory : List ℕ) (after : Station) (filled : List ℕ) (answer : Option ℕ) : Type 0 where
  pub sends :
      Sends before.node before.time before.first.items before.second.items memory after.node after.first.items after.second.items filled
  pub length :
      MatchOption (first_applying (unsent before.node before.time before.first.items before.second.items memory))
      (answer ≡ Some (frame_length_of (turn_of before.node before.node.own))) (λ refusal. answer ≡ None)
  pub same : Same before after
  pub came : after.came ≡ before.came

-- Another node's slot. What came is noted, or nothing, if the call is turned away.
abbrev pub Notes : Station → ℕ → Option (Received (List ℕ)) → Came → Type 0
Notes before sender heard noted =
    MatchOption (first_applying (unheard before.node before.time sender before.first.items before.second.items))
    ((e : Event) × Becomes (turn_of before.node sender) heard e × (noted ≡ came_of e)) (λ refusal. noted ≡ came.Nothing)

pub record HeardBy (before : Station) (sender : ℕ) (heard : Option (Received (List ℕ))) (after : Station) : Type 0 where
  pub hears :
      Hears before.node before.time sender heard before.first.items before.second.items after.node after.first.items after.second.items
  pub noted : Came
  pub notes : Notes before sender heard noted
  pub came : after.came ≡ slice_set before.came sender noted
  pub same : Same before after

-- The end of a round, in which a next value may be given, and which may be the last of its cycle. Set or kept, the clock runs on through the next round.
abbrev pub run_on : ℕ → ℤ → ℕ → ℕ
run_on span drift time = moved (min (time + span) largest) drift

abbrev pub set_to : ℕ → Result Setting Refusal → ℕ
set_to time (Ok setting) = shown_by time setting
set_to time (Err refusal) = time

-- why it was not set, if it was not
abbrev pub why_not : Result Setting Refusal → Option Code
why_not (Ok (SetTo time)) = None
why_not (Ok (Kept refusal)) = Some (of_readings.code_of refusal)
why_not (Err refusal) = Some (of_calls.code_of refusal)

pub record EndedBy (before : Station) (given : Option ℕ) (last : Bool) (span : ℕ) (drift : ℤ) (after : Station) : Type 0 where
  pub ends :
      Ends before.node before.time (unwrap_or given before.next) before.first.items before.second.items after.node after.first.items
      after.second.items
  pub answer : Result Setting Refusal
  pub answers : ByRows (unended before.node before.time before.first.items before.second.items) (λ e. e) (IsSet before.node before.time) answer
  pub time : after.time ≡ run_on span drift (set_to before.time answer)
  pub refused : after.refused ≡ why_not answer
  pub value : after.value ≡ cond last (unwrap_or given before.next) before.value
  pub next : after.next ≡ unwrap_or given before.next
  pub came : after.came ≡ before.came
