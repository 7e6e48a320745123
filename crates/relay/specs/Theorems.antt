-- What is proved of paths and tables. Each statement is demanded by the contract of a function of src/theorems.rt. Assumes nothing.
use Rattle.std.specs.Prelude.{◌≡◌, ℕ, ℤ, ◌+◌, ◌^◌, ◌<◌, ◌≤◌, ◌↔◌, ◌⊎◌, true, List, [], ◌∷◌, length, map, reverse, slice_index, None}
use Rattle.std.specs.List.{Contains, range_with_len}
use Rattle.std.specs.List.Sorted.{IsStrictlyIncreasing}
use Rattle.midpoint.specs.Refusals.{first_applying}
use Rattle.clock.specs.declared.limits.Cluster.{Cluster}
use Rattle.frame.specs.Layout.{place_in_cycle, value_count_of, payload_of, values_in}
use Rattle.frame.specs.Reading.{Receives}
use Rattle.frame.specs.Writing.{FirstFit}
use Rattle.frame.specs.Theorems.{written_frame, Taken}
use Rattle.frame.specs.declared.turn.Turn.{Turn}
use Rattle.frame.specs.declared.reading.Reception.{Reception}
use Rattle.relay.specs.Paths.{AllBelow, stands_in, is_path, index_of, rows}
use Rattle.relay.specs.Tables.{table_length_of, held_for, with_entry, no_path}
use Rattle.relay.specs.Telling.{paths_of, IsTold, told_from, heard_in, nothing_heard, Entered, EntersReception}
use Rattle.relay.specs.declared.table.TheConstants.{MAX_TABLE_LENGTH}

-- A row of so many nodes of a cluster.
pub record RowOf (n count : ℕ) (row : List ℕ) : Type 0 where
  pub as_long : length row ≡ count
  pub of_cluster : AllBelow n row

-- One row of nodes before another of the same length: at the first place where they differ it has the lower node.
abbrev pub Before : List ℕ → List ℕ → Type 0
Before [] other = ⊥
Before (node ∷ row) [] = ⊥
Before (node ∷ row) (another ∷ other) = (node < another) ⊎ ((node ≡ another) × Before row other)

-- Index and row are one to one on rows of a length, and the index rises as the rows do, read from the last node to the first. The rows that the
-- specifications list are all rows, and their indices are the numbers from 0 on, in order and without a gap.
pub record Indexed (n count : ℕ) : Type 0 where
  pub one_to_one : (one two : List ℕ) → RowOf n count one → RowOf n count two → index_of n one ≡ index_of n two → one ≡ two
  pub rises : (one two : List ℕ) → RowOf n count one → RowOf n count two → (index_of n one < index_of n two) ↔ Before (reverse one) (reverse two)
  pub all_rows : (row : List ℕ) → RowOf n count row ↔ Contains (rows n count) row
  pub in_order : map (index_of n) (rows n count) ≡ range_with_len 0 (n ^ count)

abbrev pub IndexIsOrder : Type 0
IndexIsOrder = (n count : ℕ) → Indexed n count

-- A row of as many nodes as the place of the round in its cycle which is a path with the sender in front.
pub record IsPathBehind (t : Turn) (path : List ℕ) : Type 0 where
  pub as_long : length path ≡ place_in_cycle t.cluster t.round
  pub with_sender : is_path t.cluster.nodes (t.sender ∷ path) ≡ true

-- A node tells of each path that does not hold it and has as many nodes as the place of its round in the cycle, and of no other row, of each once, in rising
-- order. These are the rows that are a path with it in front, and such a path, which has one node more, has its entry in its cluster's tables.
pub record InOrder (t : Turn) : Type 0 where
  pub each : (path : List ℕ) → IsTold t path ↔ Contains (paths_of t) path
  pub rising : IsStrictlyIncreasing (map (index_of t.cluster.nodes) (paths_of t))
  pub in_front : t.sender < t.cluster.nodes → (path : List ℕ) → IsTold t path ↔ IsPathBehind t path
  pub within : t.sender < t.cluster.nodes → (path : List ℕ) → IsTold t path → index_of t.cluster.nodes (t.sender ∷ path) < table_length_of t.cluster

abbrev pub PathsAreInOrder : Type 0
PathsAreInOrder = (t : Turn) → InOrder t

-- A frame carries a value for each of these paths. So of a frame that was taken all values are heard, and none is made up.
pub record AsMany (t : Turn) : Type 0 where
  pub count : length (paths_of t) ≡ value_count_of t
  pub all_heard : (frame : List ℕ) → Taken t frame → heard_in t (payload_of frame) ≡ values_in (payload_of frame)

abbrev pub ValuesAreAsMany : Type 0
ValuesAreAsMany = (t : Turn) → t.sender < t.cluster.nodes → AsMany t

-- Relaying: where a node wrote its frame from its table, and another one received the frame in its turn and entered what became of it, that one entered
-- what the node tells; so its table holds for the node in front of each path that does not hold it what the node's table holds for the path.
pub record Relayed (t : Turn) (table old new : List ℕ) : Type 0 where
  pub entered : Entered t (told_from t table) old new
  pub held : (path : List ℕ) → IsTold t path → held_for t.cluster new (t.sender ∷ path) ≡ held_for t.cluster table path

abbrev pub Relays : Type 0
Relays =
    (t : Turn) (table memory old new : List ℕ) (deviation : ℤ) (reception : Reception) → t.sender < t.cluster.nodes →
    FirstFit (slice_index (told_from t table)) (value_count_of t) →
    Receives t deviation (written_frame t (slice_index (told_from t table)) memory) reception → EntersReception t reception old new →
    Relayed t table old new

-- And so does the node's own table, into which it entered what it tells.
abbrev pub HoldsWhatItTells : Type 0
HoldsWhatItTells =
    (t : Turn) (table old new : List ℕ) → Entered t (told_from t table) old new →
    (path : List ℕ) → IsTold t path → held_for t.cluster new (t.sender ∷ path) ≡ held_for t.cluster table path

-- A node of which nothing was heard, or whose frame was turned away, leaves 0 for itself in front of each path that it was to tell of, whatever stood there.
abbrev pub SilenceIsZero : Type 0
SilenceIsZero = (t : Turn) (old new : List ℕ) → Entered t (nothing_heard t) old new → (path : List ℕ) → IsTold t path → held_for t.cluster new (t.sender ∷ path) ≡ 0

-- What one node told changes nothing of what another one told last.
abbrev pub OthersStay : Type 0
OthersStay =
    (t : Turn) (values old new : List ℕ) → t.sender < t.cluster.nodes → Entered t values old new →
    (other : ℕ) (row : List ℕ) → other < t.cluster.nodes → (other ≡ t.sender → ⊥) → held_for t.cluster new (other ∷ row) ≡ held_for t.cluster old (other ∷ row)

-- So a round is whole: where what several nodes told in it was entered, each node's once and one after the other, in any order, the table holds of each of
-- them what was entered. If they are all nodes, then for each path of a node more than the place of the round it holds the same, whatever it held before.
abbrev pub turn_in : Cluster → ℕ → ℕ → Turn
turn_in c round sender = record { cluster = c; sender = sender; round = round }

abbrev pub EnteredAll : Cluster → ℕ → (ℕ → List ℕ) → List ℕ → List ℕ → List ℕ → Type 0
EnteredAll c round values [] old new = new ≡ old
EnteredAll c round values (sender ∷ senders) old new =
    (between : List ℕ) × Entered (turn_in c round sender) (values sender) old between × EnteredAll c round values senders between new

pub record Whole (c : Cluster) (round : ℕ) (values : ℕ → List ℕ) (senders new : List ℕ) : Type 0 where
  pub told : (sender : ℕ) → stands_in sender senders ≡ true → map (λ path. held_for c new (sender ∷ path)) (paths_of (turn_in c round sender)) ≡ values sender
  pub nothing_old :
      ((node : ℕ) → node < c.nodes → stands_in node senders ≡ true) → (other last : List ℕ) → EnteredAll c round values senders other last →
      (path : List ℕ) → length path ≡ place_in_cycle c round + 1 → is_path c.nodes path ≡ true → held_for c new path ≡ held_for c last path

abbrev pub RoundIsWhole : Type 0
RoundIsWhole =
    (c : Cluster) (round : ℕ) (values : ℕ → List ℕ) (senders old new : List ℕ) → is_path c.nodes senders ≡ true → EnteredAll c round values senders old new →
    Whole c round values senders new

-- In a cycle's first round a node tells the value that was put into its table as the cycle began, and nothing else. So who entered what it tells holds
-- this value for the path of this node alone.
pub record First (t : Turn) (value : ℕ) (table : List ℕ) : Type 0 where
  pub told : told_from t (with_entry t.cluster [] value table) ≡ value ∷ []
  pub held : (old new : List ℕ) → Entered t (told_from t (with_entry t.cluster [] value table)) old new → held_for t.cluster new (t.sender ∷ []) ≡ value

abbrev pub FirstIsOwn : Type 0
FirstIsOwn =
    (t : Turn) (value : ℕ) (table : List ℕ) → place_in_cycle t.cluster t.round ≡ 0 → length table ≡ table_length_of t.cluster → First t value table

-- What is not turned away as no path is a path, of one node or more, and of no more than a cycle has rounds; and no such path is turned away.
pub record IsHeldPath (c : Cluster) (row : List ℕ) : Type 0 where
  pub not_empty : 1 ≤ length row
  pub short : length row ≤ c.faults + 1
  pub path : is_path c.nodes row ≡ true

abbrev pub PathsAreTaken : Type 0
PathsAreTaken = (c : Cluster) (row : List ℕ) → (first_applying (no_path c row) ≡ None) ↔ IsHeldPath c row

-- A table has at least 4 entries, and at most 65,536: those of 16 nodes that allow 3 faults. The constant that callers see is this number.
pub record TableLengths (c : Cluster) : Type 0 where
  pub least : 4 ≤ table_length_of c
  pub most : table_length_of c ≤ MAX_TABLE_LENGTH
  pub longest : c.nodes ≡ 16 → c.faults ≡ 3 → table_length_of c ≡ MAX_TABLE_LENGTH
  pub constant : MAX_TABLE_LENGTH ≡ 65536

abbrev pub TablesAreWithin : Type 0
TablesAreWithin = (c : Cluster) → TableLengths c
