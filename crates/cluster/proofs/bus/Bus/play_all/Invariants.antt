use Rattle.std.proofs.Common.{true, take}
use Rattle.cluster.proofs.Sequel.{SeenAll}
use Rattle.cluster.proofs.bus.Bus.play_all.Given as goal

abbrev pub invariant-loop-round : goal.invariant-loop-round
invariant-loop-round g l = SeenAll g.W.Watch.sees l.initial.self (take l.round-index l.rounds) l.self l.initial.watch true l.watch
