use Rattle.std.proofs.Common.{◌≡◌, ℕ, not, sym, ap, ◌∙◌, arith}
use Rattle.relay.specs.Nodes.{among}
use Rattle.node.specs.Ending.{value_missed}
use Rattle.node.proofs.Completing.{entered_too, left_out}
use Rattle.node.proofs.state.Node.complete.Goals.{then-not-has, else-not-has}
use Rattle.node.proofs.state.Node.complete.Goals as goal

pub loop-node-preserved : goal.loop-node-preserved
loop-node-preserved c =
    let (long, so_far) = c.loop-node.invariant in
    let node = c.args.self.now in
    let test = λ (q : ℕ). not (among node.over q) in
    let has : c.has.result ≡ among node.over c.loop-node.node = c.has.ensures ∙ ap (among node.over) c.from.ensures in
    let values = value_missed node c.args.read.now in
    elim c.if-not-has.branch [
      | then-not-has w ↦ (
        omega (arith, long, c.if-not-has.auto.written),
        rw w.written-is (entered_too node.schedule.cluster node.clock.round values test c.loop-node.node c.args.written.now c.loop-node.written so_far w.miss.new.written
            (ap not (sym has ∙ w.if-not-has.true)) w.miss.ensures),
      )
      | else-not-has w ↦ (
        omega (arith, long, c.if-not-has.auto.written),
        rw w.written-is (left_out node.schedule.cluster node.clock.round values test c.loop-node.node c.args.written.now c.loop-node.written so_far (ap not (sym has ∙ w.if-not-has.false))),
      )
    ]
