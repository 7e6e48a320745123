-- What is known of a good node behind the end of a round. Assumes nothing.
use Rattle.std.proofs.Common.{◌≡◌, ℕ, ◌+◌, ◌<◌, cond, true, false, [], length, Some, None, replicate}
use Rattle.clock.specs.Setting.{settled, readings}
use Rattle.frame.specs.Writing.{written_over}
use Rattle.relay.specs.Nodes.{among}
use Rattle.relay.specs.Tables.{table_length_of, with_entry}
use Rattle.agreement.specs.Results.{results_of}
use Rattle.node.specs.Nodes.{read_in}
use Rattle.node.specs.Settings.{EndedAt}
use Rattle.script.specs.Rounds.{drift_of}
use Rattle.script.specs.declared.round.Round.{Round}
use Rattle.cluster.specs.Playing.{player, span_of, is_last}
use Rattle.cluster.specs.Standing.{Shows}
use Rattle.cluster.specs.Stations.{run_on}
use Rattle.cluster.specs.declared.station.Station.{Station}
use Rattle.cluster.specs.declared.bus.Player.TheVariants.{Bad, Good}
use Rattle.cluster.specs.declared.bus.Bus.{Bus}
use Rattle.cluster.proofs.Behind.{writes, Behind}

-- good node p: it was `before` as the round began, `last` behind all slots, and is `after` behind the end of the round
pub record Over (b : Bus) (r : Round) (p : ℕ) (before last after : Station) : Type 0 where
  pub behind : Behind b r p before last b.schedule.cluster.nodes
  pub its_schedule : after.node.schedule ≡ b.schedule
  pub its_own : after.node.own ≡ p
  pub counts : after.node.clock.round ≡ b.round + 1
  pub its_over : (q : ℕ) → among after.node.over q ≡ false
  pub its_heard : after.node.heard ≡ replicate 16 None
  pub shows :
      after.node.clock.shown
      ≡ settled b.schedule.cluster.faults before.time (readings b.schedule.cluster.nodes p before.time last.node.heard)
  pub time : after.time ≡ run_on (span_of b.schedule) (drift_of r.given p) after.node.clock.shown
  pub ended : EndedAt b.schedule last.node before.time after.node
  -- the value of the cycle that begins, and the table that is read next
  pub value : after.value ≡ cond (is_last b) after.next before.value
  pub reads_next :
      read_in (b.round + 1) after.first.items after.second.items
      ≡ cond (is_last b) (with_entry b.schedule.cluster [] after.value (writes b r last)) (writes b r last)
  pub first_fits : length after.first.items ≡ table_length_of b.schedule.cluster
  pub second_fits : length after.second.items ≡ table_length_of b.schedule.cluster
  pub came : after.came ≡ last.came
  pub results : is_last b ≡ true → after.node.results ≡ Some (written_over (results_of b.schedule.cluster (writes b r last)) (replicate 16 0))

-- all nodes of the bus then
pub record AllOver (b : Bus) (r : Round) (after : Bus) : Type 0 where
  pub schedule : after.schedule ≡ b.schedule
  pub round : after.round ≡ b.round + 1
  pub common : after.common ≡ b.common + span_of b.schedule
  pub room : length after.memory.items ≡ length b.memory.items
  pub good : (p : ℕ) (a : Station) → Shows b p a → (last : Station) × (e : Station) × (player after p ≡ Good e) × Over b r p a last e
  pub bad : (p : ℕ) → p < b.schedule.cluster.nodes → player b p ≡ Bad → player after p ≡ Bad
