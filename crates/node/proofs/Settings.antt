-- The setting at the end of a node's round is that of its clock. Assumes nothing.
use Rattle.std.proofs.Common.{◌≡◌, ℕ, Bool, refl, sym, ap, ◌∙◌}
use Rattle.clock.specs.Rounds.{Moment, Round}
use Rattle.clock.specs.Setting.{settled, readings}
use Rattle.clock.proofs.Rounds.{halves, stays_between}
use Rattle.schedule.specs.declared.limits.Schedule.{Schedule}
use Rattle.relay.specs.Tables.{table_length_of}
use Rattle.node.specs.Ending.{EndedBy}
use Rattle.node.specs.Settings.{EndedAt, heard_by, RoundSet, SetsCloser, SetsBetween}
use Rattle.node.specs.declared.state.Node.{Node}
use Rattle.node.proofs.Accepted.{Timely, ending_taken}

-- the call that ends a round is not turned away, so the round ends
has_ended : (s : Schedule) (before : Node) (m : Moment) (after : Node) (over : EndedAt s before m.clock.shown after) → before.schedule ≡ s →
    EndedBy before m.clock.shown over.value over.first over.second after over.first_after over.second_after
has_ended s before m after over config =
    let long = ap (λ (t : Schedule). table_length_of t.cluster) (sym config) in
    let timely : Timely before m.clock.shown over.first over.second = record {
      below = m.clock.below;
      later = over.later;
      first_fits = over.first_fits ∙ long;
      second_fits = over.second_fits ∙ long;
    } in
    rw (ending_taken before m.clock.shown over.first over.second timely) at over.ends

-- a clock at a moment, in another round
abbrev in_round : Moment → ℕ → Moment
in_round m round = record { common = m.common; clock = record { shown = m.clock.shown; round = round; below = m.clock.below } }

module _ (s : Schedule) (good : ℕ → Bool) (before after : ℕ → Node) (ends next : ℕ → Moment) (setting : RoundSet s good before after ends next) where
  -- It is a round of the clocks, where each counts what its node counts.
  abbrev its_ends : ℕ → Moment
  its_ends p = in_round (ends p) (before p).clock.round

  abbrev its_next : ℕ → Moment
  its_next p = in_round (next p) (after p).clock.round

  round : Round s.cluster good (heard_by before) its_ends its_next
  round = record {
    fair = setting.fair;
    taken = setting.readable;
    set = λ p. (after p).clock;
    sets = λ p of_p.
        let ended = (has_ended s (before p) (ends p) (after p) (setting.over p of_p) (setting.config p of_p)).ended in
        let time = (ends p).clock.shown in
        record {
          its_shown = ended.shows
              ∙ ap (λ (t : Schedule). settled t.cluster.faults time (readings t.cluster.nodes (before p).own time (before p).heard)) (setting.config p of_p)
              ∙ ap (λ (own : ℕ). settled s.cluster.faults time (readings s.cluster.nodes own time (before p).heard)) (setting.own p of_p);
          its_round = ended.its_round;
        };
    runs = setting.runs;
    counts = λ p of_p. refl;
  }

pub sets_closer : SetsCloser
sets_closer s good before after ends next d few setting apart =
    halves s.cluster good (heard_by before) (its_ends s good before after ends next setting) (its_next s good before after ends next setting) d few
    (round s good before after ends next setting) apart

pub sets_between : SetsBetween
sets_between s good before after ends next low high few setting span =
    stays_between s.cluster good (heard_by before) (its_ends s good before after ends next setting) (its_next s good before after ends next setting) low high few
    (round s good before after ends next setting) span
