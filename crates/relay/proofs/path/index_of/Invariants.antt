use Rattle.std.proofs.Common.{◌≡◌, drop}
use Rattle.relay.specs.Paths.{index_of}
use Rattle.relay.proofs.path.index_of.Given as goal

abbrev pub invariant-loop-place : goal.invariant-loop-place
invariant-loop-place l = l.index ≡ index_of l.nodes (drop l.place l.row)
