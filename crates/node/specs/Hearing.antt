-- A node for which another one's slot is over. Assumes nothing: these are definitions.
use Rattle.std.specs.Prelude.{◌≡◌, ℕ, ℤ, cond, is_none, List, Some, None, Option, slice_set}
use Rattle.std.specs.Option.{option_map}
use Rattle.midpoint.specs.Refusals.{first_applying}
use Rattle.schedule.specs.declared.listening.Received.{Received}
use Rattle.frame.specs.Layout.{payload_of}
use Rattle.frame.specs.Reading.{untaken}
use Rattle.frame.specs.declared.turn.Turn.{Turn}
use Rattle.relay.specs.Telling.{heard_in, nothing_heard, Entered}
use Rattle.node.specs.Nodes.{turn_of, read_in, written_in}
use Rattle.node.specs.Calls.{unheard, Passed, NothingDone, Leaves}
use Rattle.node.specs.declared.state.Node.{Node}

-- Of what a listener heard in a turn, what is taken: a frame that no check turns away. Else it is as if nothing had come. The contract of `slot_over` says by this what
-- the node keeps, and by `Becomes` which event it answers; the two agree.
abbrev pub taken : Turn → Option (Received (List ℕ)) → Option (Received (List ℕ))
taken t None = None
taken t (Some received) = cond (is_none (first_applying (untaken t received.message))) (Some received) None

-- the values that are entered of it, and the deviation that the setting is handed
abbrev pub values_of : Turn → Option (Received (List ℕ)) → List ℕ
values_of t None = nothing_heard t
values_of t (Some received) = heard_in t (payload_of received.message)

abbrev pub deviation_of_taken : Option (Received (List ℕ)) → Option ℤ
deviation_of_taken received = option_map (λ one. one.deviation) received

-- A node for which the slot of a sender is over, in which this was heard.
pub record HasHeard (before : Node) (time sender : ℕ) (heard : Option (Received (List ℕ))) (old : List ℕ) (after : Node) (new : List ℕ) : Type 0 where
  pub passed : Passed before time sender after
  pub its_heard : after.heard ≡ slice_set before.heard sender (deviation_of_taken (taken (turn_of before sender) heard))
  pub entered : Entered (turn_of before sender) (values_of (turn_of before sender) (taken (turn_of before sender) heard)) old new

-- What the call leaves, with the two tables before and after.
pub record HeardBy
    (before : Node) (time sender : ℕ) (heard : Option (Received (List ℕ))) (first second : List ℕ) (after : Node) (first_after second_after : List ℕ) : Type 0
  where
    pub has_heard :
        HasHeard before time sender heard (written_in before.clock.round first second) after (written_in before.clock.round first_after second_after)
    pub reads_on : read_in before.clock.round first_after second_after ≡ read_in before.clock.round first second

abbrev pub Hears : Node → ℕ → ℕ → Option (Received (List ℕ)) → List ℕ → List ℕ → Node → List ℕ → List ℕ → Type 0
Hears before time sender heard first second after first_after second_after =
    Leaves (unheard before time sender first second) (HeardBy before time sender heard first second after first_after second_after)
    (NothingDone before first second after first_after second_after)
