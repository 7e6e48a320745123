use Rattle.std.proofs.Common.{◌≡◌, sym, ap, subst, refl}
use Rattle.cluster.specs.Playing.{SendsAs, sent_of}
use Rattle.cluster.specs.declared.bus.Player.TheVariants as player
use Rattle.cluster.specs.declared.bus.Sent.TheVariants as sent
use Rattle.cluster.proofs.bus.Player.send.Goals as goal

pub returns-in-Some : goal.returns-in-Some
returns-in-Some c =
    subst (λ p. SendsAs p c.args.memory.now (player.Good c.send.new.self) c.send.new.memory (sent.Frame c.send.new.self.time c.in-Some.length)) (sym c.in-Good.is)
    (c.send.new.self, refl, c.send.result, c.send.ensures, subst (λ answer. sent.Frame c.send.new.self.time c.in-Some.length ≡ sent_of c.in-Good.station.time answer) (sym c.in-Some.is) (ap (λ time. sent.Frame time c.in-Some.length) c.send.ensures.same.time))

pub returns-in-None : goal.returns-in-None
returns-in-None c =
    subst (λ p. SendsAs p c.args.memory.now (player.Good c.send.new.self) c.send.new.memory sent.Nothing) (sym c.in-Good.is)
    (c.send.new.self, refl, c.send.result, c.send.ensures, ap (sent_of c.in-Good.station.time) (sym c.in-None.is))
