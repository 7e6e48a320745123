use Rattle.std.proofs.Common.{◌≡◌, sym, ap, subst, refl, ◌∙◌}
use Rattle.std.specs.Prelude.{slice_index_or}
use Rattle.script.specs.declared.setup.Starting.TheVariants as starting
use Rattle.cluster.specs.Playing.{StartsWith}
use Rattle.cluster.specs.declared.bus.Player.TheVariants as player
use Rattle.cluster.proofs.bus.Player.starting.Goals as goal

pub returns-in_ok-new-in-Good : goal.returns-in_ok-new-in-Good
returns-in_ok-new-in-Good c =
    let station = c.in_ok-new-in-Good.field-0 in
    let setup = c.args.setup.now in
    let start : slice_index_or setup.starting c.args.number starting.Bad ≡ starting.Good c.in-Good.value c.in-Good.ahead =
    ap (λ i. slice_index_or setup.starting i starting.Bad) (sym c.from.ensures) ∙ c.in-Good.is in
    subst (λ start. StartsWith setup.schedule c.args.number start (player.Good station)) (sym start) (station, refl, c.in_ok-new-in-Good.ensures)
