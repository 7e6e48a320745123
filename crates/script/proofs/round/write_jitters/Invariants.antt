use Rattle.std.proofs.Common.{take}
use Rattle.std.specs.Fmt.{HasWritten, IsPlainFormatter}
use Rattle.script.specs.Text.{each_of, given_line}
use Rattle.script.specs.declared.entry.Entry.TheVariants as entry
use Rattle.script.proofs.round.write_jitters.Given as goal

abbrev pub invariant-loop-of : goal.invariant-loop-of
invariant-loop-of g l = IsPlainFormatter l.initial.f → HasWritten g.W.Write.write_str_gives l.initial.f (each_of (given_line (entry.Jitter l.node)) 0 (take l.of l.row)) l.f
