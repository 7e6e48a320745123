use Rattle.std.proofs.Common.{◌≡◌, ◌++◌, take}
use Rattle.frame.specs.Layout.{header_of, bytes_of}
use Rattle.script.proofs.running.frame_of.Given as goal

abbrev pub invariant-loop-value : goal.invariant-loop-value
invariant-loop-value l = l.bytes.items ≡ header_of l.turn ++ bytes_of (take l.value-index l.values)
