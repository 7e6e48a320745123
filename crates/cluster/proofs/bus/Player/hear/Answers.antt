use Rattle.std.proofs.Common.{sym, subst, refl}
use Rattle.cluster.specs.Playing.{HearsAs, slot_heard}
use Rattle.cluster.specs.Stations.{HeardBy}
use Rattle.cluster.specs.declared.bus.Player.TheVariants as player
use Rattle.cluster.proofs.bus.Player.hear.Goals as goal

pub returns-in-Good : goal.returns-in-Good
returns-in-Good c =
    let s = c.args.slot.now in
    let heard = slot_heard s.sent s.common s.memory.now s.round.now s.sender c.args.number in
    subst (λ p. HearsAs s.sender heard p (player.Good c.hear.new.self)) (sym c.in-Good.is)
    (c.hear.new.self, refl, subst (λ h. HeardBy c.in-Good.station s.sender h c.hear.new.self) c.heard.ensures c.hear.ensures)
