use Rattle.std.proofs.Common.{take}
use Rattle.std.specs.Fmt.{HasWritten, IsPlainFormatter}
use Rattle.script.specs.Text.{each_of, given_line}
use Rattle.script.specs.declared.entry.Entry.TheVariants as entry
use Rattle.script.proofs.round.write_values.Given as goal

abbrev pub invariant-loop-node : goal.invariant-loop-node
invariant-loop-node g l = IsPlainFormatter l.initial.f → HasWritten g.W.Write.write_str_gives l.initial.f (each_of (given_line entry.Value) 0 (take l.node l.row)) l.f
