use Rattle.std.proofs.Common.{take}
use Rattle.std.specs.Fmt.{HasWritten, IsPlainFormatter}
use Rattle.script.specs.Text.{each_of, message_at}
use Rattle.script.proofs.round.write_messages.Given as goal

abbrev pub invariant-loop-message : goal.invariant-loop-message
invariant-loop-message g l = IsPlainFormatter l.initial.f → HasWritten g.W.Write.write_str_gives l.initial.f (each_of message_at 0 (take l.message-index l.row)) l.f
