use Rattle.std.proofs.Common.{◌≡◌, slice_index, drop}
use Rattle.frame.specs.Layout.{bytes_of}
use Rattle.frame.specs.Writing.{written_over, first_values}
use Rattle.relay.specs.Indices.{indices_left}
use Rattle.relay.specs.Telling.{told_from}
use Rattle.relay.proofs.Turns.{indices_of}
use Rattle.relay.proofs.telling.fill_from.Given as goal

abbrev pub invariant-loop-place : goal.invariant-loop-place
invariant-loop-place l =
    (indices_left l.indices ≡ drop l.place (indices_of l.turn))
    × (l.payload ≡ written_over (bytes_of (first_values (slice_index (told_from l.turn l.table)) l.place)) l.initial.payload)
