use Rattle.std.proofs.Common.{rules, arith}
use Rattle.std.proofs.Output.{has_written_append, has_written_of_eq}
use Rattle.script.specs.Text.{message_at}
use Rattle.script.proofs.Printed.{one_more}
use Rattle.script.proofs.round.write_messages.Goals as goal

pub loop-message-preserved : goal.loop-message-preserved
loop-message-preserved g c = λ p.
    let before = c.loop-message.invariant p in
    has_written_of_eq _ _ _ _ _
    (one_more message_at c.loop-message.message-index c.args.row.now c.message-item.result c.loop-message-test.true (search (rules, arith)))
    (has_written_append _ _ _ _ _ _ before (c.write.ensures.writes before.plain (search rules)))
