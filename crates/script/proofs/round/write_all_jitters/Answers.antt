use Rattle.std.proofs.Common.{rules, arith, get_or, []}
use Rattle.std.proofs.Output.{has_written_append, has_written_of_eq}
use Rattle.script.specs.Text.{jitter_lines}
use Rattle.script.proofs.Printed.{one_more}
use Rattle.script.proofs.round.write_all_jitters.Goals as goal

pub loop-node-preserved : goal.loop-node-preserved
loop-node-preserved g c = λ p.
    let before = c.loop-node.invariant p in
    has_written_of_eq _ _ _ _ _
    (one_more jitter_lines c.loop-node.node c.args.rows.now (get_or c.args.rows.now c.loop-node.node []) c.loop-node-test.true (search (rules, arith)))
    (has_written_append _ _ _ _ _ _ before (c.write_jitters.ensures before.plain (search rules)))
