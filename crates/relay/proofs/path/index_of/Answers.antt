use Rattle.std.proofs.Common.{arith}
use Rattle.relay.proofs.Places.{more_is_small}
use Rattle.relay.proofs.path.index_of.Goals as goal

pub overflow_mul-index : goal.overflow_mul-index
overflow_mul-index c =
    omega (arith, more_is_small c.args.nodes c.args.row.now c.loop-place.place c.loop-place.index c.requires.row c.requires.nodes c.requires.length c.loop-place-test.true c.loop-place.auto.place c.loop-place.invariant)

pub overflow_add-index : goal.overflow_add-index
overflow_add-index c =
    omega (arith, more_is_small c.args.nodes c.args.row.now c.loop-place.place c.loop-place.index c.requires.row c.requires.nodes c.requires.length c.loop-place-test.true c.loop-place.auto.place c.loop-place.invariant)
