use Rattle.std.proofs.Common.{◌≡◌, ◌+◌, length, drop}
use Rattle.agreement.specs.Rows.{row_of}
use Rattle.agreement.proofs.path.Path.of.Given as goal

abbrev pub invariant-loop-place : goal.invariant-loop-place
invariant-loop-place l = (l.path.cluster_nodes ≡ l.cluster_nodes) × (l.path.length + l.place ≡ length l.row) × (row_of l.path ≡ drop l.place l.row)
