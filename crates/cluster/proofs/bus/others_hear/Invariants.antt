use Rattle.std.proofs.Common.{◌≡◌, ◌≢◌, length}
use Rattle.cluster.specs.Playing.{HearsAs, slot_heard}
use Rattle.cluster.specs.declared.bus.Player.TheVariants as player
use Rattle.cluster.proofs.Each.{Upto}
use Rattle.cluster.proofs.bus.others_hear.Given as goal

abbrev pub invariant-loop-number : goal.invariant-loop-number
invariant-loop-number l =
    let s = l.slot in
    (length l.players ≡ length l.initial.players)
    × Upto player.Bad (λ p before after. (p ≢ s.sender → HearsAs s.sender (slot_heard s.sent s.common s.memory.now s.round.now s.sender p) before after) × (p ≡ s.sender → after ≡ before))
    l.number l.initial.players l.players
