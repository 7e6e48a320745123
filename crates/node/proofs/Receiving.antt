-- What came in a slot, as it is entered and as it is kept for the setting. Assumes nothing.
use Rattle.std.proofs.Common.{◌≡◌, ℕ, List, Some, None, Option, refl, ap}
use Rattle.schedule.specs.declared.listening.Received.{Received}
use Rattle.frame.specs.declared.turn.Turn.{Turn}
use Rattle.frame.specs.declared.reading.Reception.TheVariants.{Whole, TurnedAway}
use Rattle.relay.specs.Telling.{heard_in}
use Rattle.node.specs.Events.{Becomes, deviation_in, values_in}
use Rattle.node.specs.Hearing.{taken, values_of, deviation_of_taken}
use Rattle.node.specs.declared.event.Event.{Event}
use Rattle.node.specs.declared.event.Event.TheVariants.{Nothing, Frame}

pub deviation_as : (t : Turn) (heard : Option (Received (List ℕ))) (event : Event) → Becomes t heard event →
    deviation_in event ≡ deviation_of_taken (taken t heard)
deviation_as t None Nothing becomes = refl
deviation_as t None (Frame reception) becomes = elim becomes [ ]
deviation_as t (Some received) Nothing becomes = elim becomes [ ]
deviation_as t (Some received) (Frame (Whole ahead payload)) (takes, same, _) = rw takes (ap Some same)
deviation_as t (Some received) (Frame (TurnedAway refusal)) turned = rw turned refl

pub values_as : (t : Turn) (heard : Option (Received (List ℕ))) (event : Event) → Becomes t heard event → values_in t event ≡ values_of t (taken t heard)
values_as t None Nothing becomes = refl
values_as t None (Frame reception) becomes = elim becomes [ ]
values_as t (Some received) Nothing becomes = elim becomes [ ]
values_as t (Some received) (Frame (Whole ahead payload)) (takes, _, same) = rw takes (ap (heard_in t) same)
values_as t (Some received) (Frame (TurnedAway refusal)) turned = rw turned refl
