use Rattle.std.proofs.Common.{◌≡◌, ◌+◌, ◌*◌, ◌≤◌, not, length, map, take}
use Rattle.std.specs.List.{filter, range_with_len}
use Rattle.relay.specs.Paths.{stands_in}
use Rattle.agreement.specs.Rows.{row_of, made_in}
use Rattle.agreement.proofs.making.+made_of_path.Given as goal

-- A list of paths has as many tellings left as each of its paths, and one fewer than the path that it comes from.
abbrev pub decreases-made_of_path : goal.decreases-made_of_path
decreases-made_of_path l = 2 * l.left

abbrev pub decreases-made_of_longer : goal.decreases-made_of_longer
decreases-made_of_longer l = 2 * l.left + 1

abbrev pub invariant-made_of_longer-loop-node : goal.invariant-made_of_longer-loop-node
invariant-made_of_longer-loop-node l =
    (length l.values ≡ length l.initial.values)
    × (l.count ≤ l.node)
    × (take l.count l.values ≡ map (made_in l.path l.left l.table) (filter (λ node. not (stands_in node (row_of l.path))) (range_with_len 0 l.node)))
