use Rattle.std.proofs.Common.{sym, subst, refl}
use Rattle.cluster.specs.Playing.{EndsAs}
use Rattle.cluster.specs.declared.bus.Player.TheVariants as player
use Rattle.cluster.proofs.bus.Player.end.Goals as goal

pub returns-in-Good : goal.returns-in-Good
returns-in-Good c =
    let a = c.args in
    subst (λ p. EndsAs a.last a.span a.given.now a.number p (player.Good c.end.new.self)) (sym c.in-Good.is)
    (c.end.new.self, refl, c.end.ensures)
