use Rattle.std.proofs.Common.{◌≡◌, slice_index}
use Rattle.frame.specs.Layout.{bytes_of}
use Rattle.frame.specs.Writing.{written_over, first_values}
use Rattle.frame.proofs.values.RefSliceU32Values.fill.Given as goal

abbrev pub invariant-loop-index : goal.invariant-loop-index
invariant-loop-index l = l.payload ≡ written_over (bytes_of (first_values (slice_index l.self) l.index)) l.initial.payload
