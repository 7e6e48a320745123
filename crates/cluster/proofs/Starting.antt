-- The cluster as it begins. Assumes nothing.
use Rattle.std.proofs.Common.{◌≡◌, ℕ, ◌+◌, ◌<◌, List, [], length, sym, ap, refl, subst, ◌∙◌, arith}
use Rattle.std.specs.Prelude.{slice_index_or}
use Rattle.std.proofs.Math.Nat.{zero-mod}
use Rattle.std.proofs.lemmas.List.{length-set, length-replicate}
use Rattle.schedule.specs.declared.limits.Schedule.{Schedule}
use Rattle.frame.specs.Layout.{place_in_cycle}
use Rattle.relay.specs.Tables.{table_length_of, with_entry}
use Rattle.agreement.specs.Cycles.{Begun}
use Rattle.node.specs.Nodes.{read_in}
use Rattle.script.specs.declared.setup.Setup.{Setup}
use Rattle.script.specs.declared.setup.Starting.{Starting}
use Rattle.script.specs.declared.setup.Starting.TheVariants as starting
use Rattle.cluster.specs.Playing.{player, StartsWith, Begins}
use Rattle.cluster.specs.Standing.{Shows, InRound, InCycle, InStep}
use Rattle.cluster.specs.Stations.{Starts}
use Rattle.cluster.specs.declared.station.Came.{Came}
use Rattle.cluster.specs.declared.station.Came.TheVariants as came
use Rattle.cluster.specs.declared.station.Station.{Station}
use Rattle.cluster.specs.declared.bus.Player.{Player}
use Rattle.cluster.specs.declared.bus.Player.TheVariants.{Bad, Good}
use Rattle.cluster.specs.declared.bus.Bus.{Bus}

-- a good node is one that starts as good
pub record Started (s : Schedule) (p : ℕ) (start : Starting) (a : Station) : Type 0 where
  pub value : ℕ
  pub ahead : ℕ
  pub is : start ≡ starting.Good value ahead
  pub starts : Starts s p value ahead a

-- such a node that there is as the cluster starts
starts_good_by : (s : Schedule) (p : ℕ) (start : Starting) (node : Player) (a : Station) → StartsWith s p start node → node ≡ Good a → Started s p start a
starts_good_by s p starting.Bad node a bad is = cc
starts_good_by s p (starting.Good value ahead) node a (station, is', starts) is =
    let e : station ≡ a = cc in record { value = value; ahead = ahead; is = refl; starts = subst (Starts s p value ahead) e starts }

-- the table that is read first
abbrev table_of : Player → List ℕ
table_of Bad = []
table_of (Good a) = a.first.items

module _ (setup : Setup) (b : Bus) (begins : Begins setup b) where
  -- so it is with each good node of the cluster
  pub starts_good : (p : ℕ) (a : Station) → Shows b p a → Started setup.schedule p (slice_index_or setup.starting p starting.Bad) a
  starts_good p a shows =
      let (within, is) = shows in
      starts_good_by setup.schedule p (slice_index_or setup.starting p starting.Bad) (player b p) a
      (begins.players p (subst (λ s. p < s.cluster.nodes) begins.schedule within)) is

  -- what fits the schedule that it was made with fits the one that the cluster has
  fits : {n : ℕ} → n ≡ table_length_of setup.schedule.cluster → n ≡ table_length_of b.schedule.cluster
  fits e = e ∙ ap (λ s. table_length_of s.cluster) (sym begins.schedule)

  -- it is in round 0
  in_round : (p : ℕ) (a : Station) → Shows b p a → InRound b p a
  in_round p a shows =
      let g = starts_good p a shows in
      let made = g.starts.made.made in
      record {
        its_schedule = made.its_schedule ∙ sym begins.schedule;
        its_own = made.its_own;
        counts = made.its_round ∙ sym begins.round;
        its_over = made.its_over;
        its_heard = made.its_heard;
        later = omega (arith, made.shows);
        first_fits = ap length g.starts.made.first ∙ length-set g.starts.old _ g.value ∙ fits g.starts.fits;
        second_fits = fits g.starts.second_fits;
        sixteen = ap length g.starts.came ∙ length-replicate {A = Came} 16 came.Nothing;
      }

  -- the value that it gives stands in its first table
  begun : (p : ℕ) (a : Station) → Shows b p a → Begun b.schedule.cluster a.value (table_of (player b p))
  begun p a shows =
      let g = starts_good p a shows in
      record {
        old = g.starts.old;
        fits = fits g.starts.fits;
        own = ap table_of shows.1
            ∙ g.starts.made.first
            ∙ ap (λ v. with_entry setup.schedule.cluster [] v g.starts.old) (sym g.starts.value_given)
            ∙ ap (λ s. with_entry s.cluster [] a.value g.starts.old) (sym begins.schedule);
      }

  -- round 0 is the first of a cycle
  no_place : place_in_cycle b.schedule.cluster b.round ≡ 0
  no_place = rw begins.round (zero-mod (b.schedule.cluster.faults + 1))

  -- so the cycle is at its beginning
  in_cycle : InCycle b
  in_cycle = record {
    tables = λ k p. table_of (player b p);
    begun = begun;
    rounds = λ k p a within. absurd (omega (arith, no_place));
    now = λ p a shows. ap table_of shows.1 ∙ sym (ap (λ r. read_in r a.first.items a.second.items) begins.round);
  }

  -- and all good nodes are in step
  pub starts_in_step : InStep b
  starts_in_step = record { nodes = in_round; room = omega (arith, begins.memory); cycle = in_cycle }
