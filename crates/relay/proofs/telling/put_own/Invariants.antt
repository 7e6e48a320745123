use Rattle.std.proofs.Common.{◌≡◌, ◌++◌, length, slice_index}
use Rattle.relay.specs.Indices.{indices_left}
use Rattle.relay.specs.Telling.{told_from}
use Rattle.relay.proofs.Turns.{indices_of}
use Rattle.relay.proofs.Entering.{EnteredTo}
use Rattle.relay.proofs.telling.put_own.Given as goal

abbrev pub invariant-loop-index : goal.invariant-loop-index
invariant-loop-index l =
    (l.yielded ++ indices_left l.index-iterator ≡ indices_of l.turn)
    × EnteredTo l.turn (slice_index (told_from l.turn l.read)) (length l.yielded) l.initial.written l.written
