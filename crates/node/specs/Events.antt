-- What came in another node's slot. Assumes nothing: these are definitions.
use Rattle.std.specs.Prelude.{ℕ, ℤ, List, Some, None, Option}
use Rattle.std.specs.Borrow.{Bor}
use Rattle.std.specs.Option.{option_map}
use Rattle.midpoint.specs.declared.refusal.Code.{Code}
use Rattle.schedule.specs.declared.listening.Received.{Received}
use Rattle.frame.specs.Reading.{Receives, code_of_reception}
use Rattle.frame.specs.declared.turn.Turn.{Turn}
use Rattle.frame.specs.declared.reading.Reception.{Reception}
use Rattle.frame.specs.declared.reading.Reception.TheVariants.{Whole, TurnedAway}
use Rattle.relay.specs.Telling.{heard_in, nothing_heard}
use Rattle.node.specs.declared.event.Event.{Event}
use Rattle.node.specs.declared.event.Event.TheVariants.{Nothing, Frame}

-- what a listener heard, with the bytes that it was lent
abbrev pub bytes_of : {Ref : Type 0} → (Ref → List ℕ) → Received Ref → Received (List ℕ)
bytes_of bytes received = record { deviation = received.deviation; message = bytes received.message }

abbrev pub bytes_heard : Option (Received (Bor (List ℕ))) → Option (Received (List ℕ))
bytes_heard heard = option_map (bytes_of (λ message. message.now)) heard

-- The event of a turn: nothing, if nothing was heard; else the frame, as it is received in this turn.
abbrev pub Becomes : Turn → Option (Received (List ℕ)) → Event → Type 0
Becomes t None Nothing = Unit {0}
Becomes t None (Frame reception) = ⊥
Becomes t (Some heard) Nothing = ⊥
Becomes t (Some heard) (Frame reception) = Receives t heard.deviation heard.message reception

-- number and place of each case: nothing, and a frame that is heard whole, have none
abbrev pub code_of_event : Event → Option Code
code_of_event Nothing = None
code_of_event (Frame reception) = code_of_reception reception

-- the deviation that the setting is handed of it
abbrev pub deviation_of_reception : Reception → Option ℤ
deviation_of_reception (Whole deviation payload) = Some deviation
deviation_of_reception (TurnedAway refusal) = None

abbrev pub deviation_in : Event → Option ℤ
deviation_in Nothing = None
deviation_in (Frame reception) = deviation_of_reception reception

-- the values that are entered of it
abbrev pub values_of_reception : Turn → Reception → List ℕ
values_of_reception t (Whole deviation payload) = heard_in t payload.now
values_of_reception t (TurnedAway refusal) = nothing_heard t

abbrev pub values_in : Turn → Event → List ℕ
values_in t Nothing = nothing_heard t
values_in t (Frame reception) = values_of_reception t reception
