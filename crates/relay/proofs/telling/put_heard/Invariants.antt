use Rattle.std.proofs.Common.{◌≡◌, ◌++◌, length, slice_index}
use Rattle.frame.specs.Layout.{values_in}
use Rattle.relay.specs.Indices.{indices_left}
use Rattle.relay.proofs.Turns.{indices_of}
use Rattle.relay.proofs.Entering.{EnteredTo}
use Rattle.relay.proofs.telling.put_heard.Given as goal

abbrev pub invariant-loop-index : goal.invariant-loop-index
invariant-loop-index l =
    (l.yielded ++ indices_left l.index-iterator ≡ indices_of l.turn)
    × (l.place ≡ length l.yielded)
    × EnteredTo l.turn (slice_index (values_in l.payload)) (length l.yielded) l.initial.written l.written
