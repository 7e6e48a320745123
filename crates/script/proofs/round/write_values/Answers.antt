use Rattle.std.proofs.Common.{rules, arith}
use Rattle.std.proofs.Output.{has_written_append, has_written_of_eq}
use Rattle.script.specs.Text.{given_line}
use Rattle.script.specs.declared.entry.Entry.TheVariants as entry
use Rattle.script.proofs.Printed.{one_more}
use Rattle.script.proofs.round.write_values.Goals as goal

pub loop-node-preserved : goal.loop-node-preserved
loop-node-preserved g c = λ p.
    let before = c.loop-node.invariant p in
    has_written_of_eq _ _ _ _ _
    (one_more (given_line entry.Value) c.loop-node.node c.args.row.now _ c.loop-node-test.true (search (rules, arith)))
    (has_written_append _ _ _ _ _ _ before (c.write_value.ensures before.plain (search rules)))
