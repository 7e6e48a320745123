use Rattle.std.proofs.Common.{◌≡◌, ℕ, not, ◌∙◌, sym, ap, arith}
use Rattle.relay.specs.Paths.{stands_in}
use Rattle.agreement.specs.Rows.{row_of, made_in}
use Rattle.agreement.proofs.Made.{made_same, kept_more, left_out}
use Rattle.agreement.proofs.making.+made_of_path.Goals.{made_of_longer-then-not-holds, made_of_longer-else-not-holds}
use Rattle.agreement.proofs.making.+made_of_path.Goals as goal

pub made_of_longer-loop-node-preserved : goal.made_of_longer-loop-node-preserved
made_of_longer-loop-node-preserved t c =
    let (long, few, so_far) = c.loop-node.invariant in
    let p = c.args.path in
    let left = c.args.left in
    let off = λ (node : ℕ). not (stands_in node (row_of p)) in
    elim c.if-not-holds.branch [
      | made_of_longer-then-not-holds w ↦
          let value : w.made_of_path.result ≡ made_in p left c.args.table.now c.loop-node.node =
          w.made_of_path.ensures ∙ made_same left c.args.table.now w.with.ensures.cluster w.with.ensures.row in (
            omega (arith, long, c.if-not-holds.auto.values),
            omega (arith, w.count-is, few),
            rw (w.values-is, w.count-is) (kept_more off (made_in p left c.args.table.now) c.loop-node.node c.loop-node.count w.made_of_path.result c.loop-node.values
                (ap not (sym c.holds.ensures ∙ w.if-not-holds.true)) value (omega (arith, long, few, c.loop-node-test.true, c.requires.room)) so_far),
          )
      | made_of_longer-else-not-holds w ↦ (
        omega (arith, long, c.if-not-holds.auto.values),
        omega (arith, w.count-is, few),
        rw (w.values-is, w.count-is) (left_out off (made_in p left c.args.table.now) c.loop-node.node c.loop-node.count c.loop-node.values
            (ap not (sym c.holds.ensures ∙ w.if-not-holds.false)) so_far),
      )
    ]
