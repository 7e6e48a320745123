use Rattle.std.proofs.Common.{rules, ◌*◌, subst, refl}
use Rattle.std.specs.Prelude.{slice_index_or}
use Rattle.cluster.specs.declared.bus.Player.TheVariants.{Bad}
use Rattle.cluster.specs.Playing.{EndsAs, player}
use Rattle.cluster.proofs.bus.Bus.end.Goals as goal

pub returns : goal.returns
returns c =
    let self = c.args.self.now in
    let given = c.args.round.now.given in
    record {
      ends = λ p h.
          subst (λ last. EndsAs last (self.schedule.cluster.nodes * self.schedule.length) given p (player self p) (slice_index_or c.all_end.new.players p Bad)) c.is_last-last.ensures
          (subst (λ nodes. EndsAs c.is_last-last.result (nodes * self.schedule.length) given p (player self p) (slice_index_or c.all_end.new.players p Bad)) c.nodes.ensures (c.all_end.ensures p (search rules)));
      schedule = refl;
      round = c.saturating_add-self-2.ensures;
      common = search rules;
      memory = refl;
    }
