use Rattle.std.proofs.Common.{◌≡◌, length}
use Rattle.script.specs.Hex.{bytes_written}
use Rattle.script.proofs.Digits.{behind}
use Rattle.script.proofs.hex.bytes_written.Given as goal

abbrev pub invariant-loop-left : goal.invariant-loop-left
invariant-loop-left l = behind l.bytes.items (bytes_written l.left) ≡ bytes_written l.word

abbrev pub decreases-loop-left : goal.decreases-loop-left
decreases-loop-left l = length l.left
