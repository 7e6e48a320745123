use Rattle.std.proofs.Common.{◌≡◌, refl, subst, ◌∙◌, arith}
use Rattle.cluster.specs.Playing.{Slots, Plays}
use Rattle.cluster.specs.Playing.Slots.{none_yet, one_more}
use Rattle.cluster.proofs.Keeping.{keeps_in_step}
use Rattle.cluster.proofs.bus.Bus.play.Goals as goal

pub loop-sender-init : goal.loop-sender-init
loop-sender-init c = (refl, none_yet)

pub loop-sender-preserved : goal.loop-sender-preserved
loop-sender-preserved c =
    let (same, slots) = c.loop-sender.invariant in
    let over = c.slot.ensures in
    (over.same.schedule ∙ over.schedule ∙ same, one_more c.loop-sender.sender c.loop-sender.self c.slot.new.self slots over)

pub returns : goal.returns
returns c =
    let (same, slots) = c.loop-sender.invariant in
    let all : c.loop-sender.sender ≡ c.args.self.now.schedule.cluster.nodes =
    omega (arith, c.nodes-sender-end.ensures, c.loop-sender-test.false, c.loop-sender.auto.sender-end, c.args.self.now.schedule.cluster.most) in
    let plays : Plays c.args.self.now c.args.round.now c.end.new.self = record {
      between = c.loop-sender.self;
      slots = subst (λ count. Slots c.args.self.now c.args.round.now count c.loop-sender.self) all slots;
      over = c.end.ensures;
    } in
    record { plays = plays; keeps = keeps_in_step c.args.self.now c.end.new.self c.args.round.now plays }
