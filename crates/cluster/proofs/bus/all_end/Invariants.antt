use Rattle.std.proofs.Common.{◌≡◌, length}
use Rattle.cluster.specs.Playing.{EndsAs}
use Rattle.cluster.specs.declared.bus.Player.TheVariants as player
use Rattle.cluster.proofs.Each.{Upto}
use Rattle.cluster.proofs.bus.all_end.Given as goal

abbrev pub invariant-loop-number : goal.invariant-loop-number
invariant-loop-number l = (length l.players ≡ length l.initial.players) × Upto player.Bad (EndsAs l.last l.span l.given) l.number l.initial.players l.players
