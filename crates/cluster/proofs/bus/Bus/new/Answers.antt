use Rattle.std.proofs.Common.{refl, rules}
use Rattle.cluster.proofs.Starting.{starts_in_step}
use Rattle.cluster.specs.Playing.{Begins}
use Rattle.cluster.specs.declared.bus.Bus.{Bus}
use Rattle.cluster.proofs.bus.Bus.new.Goals as goal

pub returns-clause-in_step : goal.returns-clause-in_step
returns-clause-in_step c =
    let setup = c.args.setup.now in
    let b : Bus = record { schedule = setup.schedule; round = 0; common = 0; players = c.loop-number.players; memory = c.in_ok-vec.field-0 } in
    let begins : Begins setup b = record { schedule = refl; round = refl; common = refl; players = search rules; past = search rules; memory = search (rules, c.in_ok-vec.ensures.len) } in
    starts_in_step setup b begins
