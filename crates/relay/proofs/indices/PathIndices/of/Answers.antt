use Rattle.std.proofs.Common.{◌≡◌, ℕ, ◌^◌, ◌≤◌, arith}
use Rattle.frame.specs.Layout.{place_in_cycle}
use Rattle.frame.specs.declared.turn.Turn.{Turn}
use Rattle.relay.proofs.Numbers.{power_small}
use Rattle.frame.proofs.Counts.{within_cycle}
use Rattle.relay.proofs.Left.{left_at_start}
use Rattle.relay.proofs.indices.PathIndices.of.Goals as goal

small : (t : Turn) (nodes path_length : ℕ) → nodes ≡ t.cluster.nodes → path_length ≡ place_in_cycle t.cluster t.round → nodes ^ path_length ≤ 65536
small t nodes path_length n k = power_small nodes path_length (omega (arith, n, t.cluster.most)) (omega (arith, k, within_cycle t, t.cluster.few))

pub pow-requires : goal.pow-requires
pow-requires c = omega (arith, small c.args.turn.now c.nodes-nodes.result c.place_in_cycle-path_length.result c.nodes-nodes.ensures c.place_in_cycle-path_length.ensures)

pub invariant_of-result-clause-small : goal.invariant_of-result-clause-small
invariant_of-result-clause-small c =
    omega (arith, c.pow.ensures, small c.args.turn.now c.nodes-nodes.result c.place_in_cycle-path_length.result c.nodes-nodes.ensures c.place_in_cycle-path_length.ensures)

pub returns : goal.returns
returns c =
    let t = c.args.turn.now in
    left_at_start c.nodes-nodes.result t.sender c.place_in_cycle-path_length.result c.pow.result t.cluster.nodes (place_in_cycle t.cluster t.round)
    c.nodes-nodes.ensures c.place_in_cycle-path_length.ensures c.pow.ensures
