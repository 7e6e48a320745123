use Rattle.std.proofs.Common.{◌≡◌, ◌+◌, true, false, take, refl, sym, subst, arith}
use Rattle.std.proofs.lemmas.List.{take_all}
use Rattle.cluster.specs.Playing.PlaysAll.{no_more}
use Rattle.cluster.specs.Standing.{SomeSeen}
use Rattle.cluster.proofs.Keeping.{seen_run}
use Rattle.cluster.proofs.Sequel.{SeenAll, one_more_seen, of_error}
use Rattle.cluster.proofs.bus.Bus.play_all.Goals as goal

pub loop-round-init : goal.loop-round-init
loop-round-init g c = (no_more c.args.self.now, refl)

pub returns-in_err-played-clause-err : goal.returns-in_err-played-clause-err
returns-in_err-played-clause-err g c =
    of_error (SomeSeen g.W.Watch.sees c.args.self.now c.args.rounds.now c.play.new.self c.args.watch.now c.played.new.self) c.from_residual.result (
      c.loop-round.round-index,
      c.loop-round-test.true,
      seen_run g.W.Watch.sees c.args.self.now c.play.new.self (take (c.loop-round.round-index + 1) c.args.rounds.now) c.args.watch.now false c.played.new.self
          (one_more_seen g.W.Watch.sees c.args.self.now c.loop-round.self c.play.new.self c.args.rounds.now c.loop-round.round-index c.round-item.result c.round-item.result
          false c.args.watch.now c.loop-round.watch c.played.new.self c.loop-round-test.true (sym c.round-item.is) c.loop-round.invariant c.play.ensures.plays
          c.in_err-played.ensures),
    )

pub loop-round-preserved : goal.loop-round-preserved
loop-round-preserved g c =
    one_more_seen g.W.Watch.sees c.args.self.now c.loop-round.self c.play.new.self c.args.rounds.now c.loop-round.round-index c.round-item.result c.round-item.result true
    c.args.watch.now c.loop-round.watch c.played.new.self c.loop-round-test.true (sym c.round-item.is) c.loop-round.invariant c.play.ensures.plays
    c.in_ok-played.ensures

pub returns-clause-ok : goal.returns-clause-ok
returns-clause-ok g c =
    let rounds = c.args.rounds.now in
    let whole : take c.loop-round.round-index rounds ≡ rounds = take_all c.loop-round.round-index rounds (omega (arith, c.loop-round-test.false)) in
    seen_run g.W.Watch.sees c.args.self.now c.loop-round.self rounds c.args.watch.now true c.loop-round.watch
    (subst (λ list. SeenAll g.W.Watch.sees c.args.self.now list c.loop-round.self c.args.watch.now true c.loop-round.watch) whole c.loop-round.invariant)
