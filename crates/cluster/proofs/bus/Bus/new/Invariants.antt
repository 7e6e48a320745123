use Rattle.std.proofs.Common.{◌≡◌, ℕ, ◌<◌, ◌≤◌, length}
use Rattle.std.specs.Prelude.{slice_index_or}
use Rattle.cluster.specs.Playing.{StartsAs}
use Rattle.cluster.specs.declared.bus.Player.TheVariants.{Bad}
use Rattle.cluster.proofs.bus.Bus.new.Given as goal

abbrev pub invariant-loop-number : goal.invariant-loop-number
invariant-loop-number l = (length l.players ≡ 16) × ((p : ℕ) → p < l.number → StartsAs l.setup p (slice_index_or l.players p Bad)) × ((p : ℕ) → l.number ≤ p → slice_index_or l.players p Bad ≡ Bad)
