-- A cycle, by the tables of the good nodes. Assumes nothing: these are definitions.
use Rattle.std.specs.Prelude.{◌≡◌, ℕ, suc, ◌+◌, ◌≤◌, ◌<◌, Bool, true, List, [], length}
use Rattle.clock.specs.Rounds.{GoodNode}
use Rattle.clock.specs.declared.limits.Cluster.{Cluster}
use Rattle.frame.specs.Layout.{place_in_cycle}
use Rattle.relay.specs.Paths.{stands_in, is_path}
use Rattle.relay.specs.Tables.{table_length_of, with_entry}
use Rattle.relay.specs.Telling.{told_from}
use Rattle.relay.specs.Theorems.{turn_in, EnteredAll}

-- As a cycle begins a node puts the value that it gives into its table.
pub record Begun (c : Cluster) (value : ℕ) (table : List ℕ) : Type 0 where
  pub old : List ℕ
  pub fits : length old ≡ table_length_of c
  pub own : table ≡ with_entry c [] value old

-- A round of a good node, which ends with the written table: into some table it entered values for each node, once and one after the other, in any order. For a good
-- node, itself included, they are those that that node tells from the table that it reads in the round. For a faulty one they are anything.
pub record Entering (c : Cluster) (good : ℕ → Bool) (round : ℕ) (read : ℕ → List ℕ) (written : List ℕ) : Type 0 where
  pub old : List ℕ
  pub values : ℕ → List ℕ
  pub senders : List ℕ
  pub once : is_path c.nodes senders ≡ true
  pub all : (node : ℕ) → node < c.nodes → stands_in node senders ≡ true
  pub each : EnteredAll c round values senders old written
  pub told : (q : ℕ) → GoodNode c good q → values q ≡ told_from (turn_in c round q) (read q)

-- A cycle that begins with the round `first`: `tables k p` is the table that node p reads in the round of place k, and behind the last round the one that it has then.
pub record Cycle (c : Cluster) (good : ℕ → Bool) (value : ℕ → ℕ) (first : ℕ) (tables : ℕ → ℕ → List ℕ) : Type 0 where
  pub is_first : place_in_cycle c first ≡ 0
  pub begun : (p : ℕ) → GoodNode c good p → Begun c (value p) (tables 0 p)
  pub rounds : (k p : ℕ) → k ≤ c.faults → GoodNode c good p → Entering c good (first + k) (tables k) (tables (suc k) p)
