use Rattle.std.proofs.Common.{◌≡◌}
use Rattle.frame.specs.Layout.{paths_without_one}
use Rattle.frame.proofs.turn.Turn.value_count.Given as goal

abbrev pub invariant-loop-on_path : goal.invariant-loop-on_path
invariant-loop-on_path l = (l.count ≡ paths_without_one l.self.cluster.nodes l.on_path)
