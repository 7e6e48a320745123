use Rattle.std.proofs.Common.{◌≡◌}
use Rattle.cluster.specs.Playing.{Slots}
use Rattle.cluster.proofs.bus.Bus.play.Given as goal

abbrev pub invariant-loop-sender : goal.invariant-loop-sender
invariant-loop-sender l = (l.self.schedule ≡ l.initial.self.schedule) × Slots l.initial.self l.round l.sender l.self
