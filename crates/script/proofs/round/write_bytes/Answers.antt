use Rattle.std.proofs.Common.{rules, arith}
use Rattle.std.proofs.Output.{has_written_append, has_written_of_eq}
use Rattle.script.specs.Text.{byte_text}
use Rattle.script.proofs.Printed.{one_more}
use Rattle.script.proofs.round.write_bytes.Goals as goal

pub loop-byte-preserved : goal.loop-byte-preserved
loop-byte-preserved g c = λ p.
    let before = c.loop-byte.invariant p in
    has_written_of_eq _ _ _ _ _
    (one_more byte_text c.loop-byte.byte-index c.args.row.now _ c.loop-byte-test.true (search (rules, arith)))
    (has_written_append _ _ _ _ _ _ before (c.write_byte.ensures before.plain (search rules)))
