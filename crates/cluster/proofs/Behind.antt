-- What is known of a good node behind the slots of so many nodes of a round. Assumes nothing.
use Rattle.std.proofs.Common.{◌≡◌, true, ℕ, ◌<◌, ◌≤◌, nat_lt, List, [], length, get_or, ℤ, Some, None, Option}
use Rattle.std.specs.List.{range_with_len}
use Rattle.clock.specs.Deviation.{deviation_of, moved}
use Rattle.schedule.specs.declared.listening.Received.{Received}
use Rattle.relay.specs.Nodes.{among}
use Rattle.relay.specs.Tables.{table_length_of}
use Rattle.relay.specs.Telling.{told_from}
use Rattle.relay.specs.Theorems.{turn_in, EnteredAll}
use Rattle.node.specs.Nodes.{read_in, written_in}
use Rattle.node.specs.Hearing.{taken, values_of, deviation_of_taken}
use Rattle.script.specs.Rounds.{jitter_of}
use Rattle.script.specs.declared.round.Round.{Round}
use Rattle.cluster.specs.Playing.{player, slot_heard}
use Rattle.cluster.specs.Standing.{Shows, is_whole}
use Rattle.cluster.specs.Stations.{Same}
use Rattle.cluster.specs.declared.station.Station.{Station}
use Rattle.cluster.specs.declared.station.Came.{Came}
use Rattle.cluster.specs.declared.station.Came.TheVariants as came
use Rattle.cluster.specs.declared.bus.Player.{Player}
use Rattle.cluster.specs.declared.bus.Player.TheVariants.{Bad, Good}
use Rattle.cluster.specs.declared.bus.Sent.TheVariants as sent
use Rattle.cluster.specs.declared.bus.Bus.{Bus}

module _ (b : Bus) (r : Round) where
  -- the tables that a good node reads and writes in the round
  abbrev pub reads : Station → List ℕ
  reads a = read_in b.round a.first.items a.second.items

  abbrev pub writes : Station → List ℕ
  writes a = written_in b.round a.first.items a.second.items

  -- what node p, which shows the own time, takes of what the script has of the bad node q
  abbrev pub taken_of : ℕ → ℕ → ℕ → Option (Received (List ℕ))
  taken_of p own q = taken (turn_in b.schedule.cluster b.round q) (slot_heard sent.ByScript b.common [] r q p own)

  -- what it enters of node q, and the deviation that its setting is handed
  abbrev pub entered_of : ℕ → ℕ → ℕ → Player → List ℕ
  entered_of p own q Bad = values_of (turn_in b.schedule.cluster b.round q) (taken_of p own q)
  entered_of p own q (Good a) = told_from (turn_in b.schedule.cluster b.round q) (reads a)

  abbrev pub heard_of : ℕ → ℕ → ℕ → Player → Option ℤ
  heard_of p own q Bad = deviation_of_taken (taken_of p own q)
  heard_of p own q (Good a) = Some (deviation_of (moved a.time (jitter_of r.given p q)) own)

  abbrev pub entered : ℕ → ℕ → ℕ → List ℕ
  entered p own q = entered_of p own q (player b q)

  abbrev pub heard : ℕ → ℕ → ℕ → Option ℤ
  heard p own q = heard_of p own q (player b q)

  -- what is noted of a good node's slot is its frame, heard whole
  abbrev pub WholeIf : Player → Came → Type 0
  WholeIf Bad noted = Unit {0}
  WholeIf (Good a) noted = is_whole noted ≡ true

  -- good node p behind the slots of nodes 0 to count - 1: it was `before` as the round began, and is `after` now
  pub record Behind (p : ℕ) (before after : Station) (count : ℕ) : Type 0 where
    pub same : Same before after
    pub its_schedule : after.node.schedule ≡ b.schedule
    pub its_own : after.node.own ≡ p
    pub counts : after.node.clock.round ≡ b.round
    pub its_results : after.node.results ≡ before.node.results
    pub its_over : (q : ℕ) → among after.node.over q ≡ nat_lt q count
    pub shows : after.node.clock.shown ≤ before.time
    pub reads_on : reads after ≡ reads before
    pub read_fits : length (reads after) ≡ table_length_of b.schedule.cluster
    pub write_fits : length (writes after) ≡ table_length_of b.schedule.cluster
    pub enters : EnteredAll b.schedule.cluster b.round (entered p before.time) (range_with_len 0 count) (writes before) (writes after)
    pub sixteen : length after.node.heard ≡ 16
    pub has_heard : (q : ℕ) → q < count → (q ≡ p → ⊥) → get_or after.node.heard q None ≡ heard p before.time q
    pub came_sixteen : length after.came ≡ 16
    pub hears : (q : ℕ) → q < count → (q ≡ p → ⊥) → WholeIf (player b q) (get_or after.came q came.Nothing)

  -- all nodes of the bus then
  pub record AllBehind (count : ℕ) (now : Bus) : Type 0 where
    pub schedule : now.schedule ≡ b.schedule
    pub round : now.round ≡ b.round
    pub common : now.common ≡ b.common
    pub room : length now.memory.items ≡ length b.memory.items
    pub good : (p : ℕ) (a : Station) → Shows b p a → (now_is : Station) × (player now p ≡ Good now_is) × Behind p a now_is count
    pub bad : (p : ℕ) → p < b.schedule.cluster.nodes → player b p ≡ Bad → player now p ≡ Bad
