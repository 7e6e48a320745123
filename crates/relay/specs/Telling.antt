-- What a node tells in its turn, and what is entered of what it told. Assumes nothing: these are definitions.
use Rattle.std.specs.Prelude.{◌≡◌, ℕ, true, List, [], ◌∷◌, length, map, slice_index}
use Rattle.midpoint.specs.Refusals.{Row}
use Rattle.frame.specs.Layout.{place_in_cycle, values_in}
use Rattle.frame.specs.Writing.{first_values}
use Rattle.frame.specs.declared.turn.Turn.{Turn}
use Rattle.frame.specs.declared.reading.Reception.{Reception}
use Rattle.frame.specs.declared.reading.Reception.TheVariants.{Whole, TurnedAway}
use Rattle.relay.specs.Paths.{index_of, is_path_without, paths_without}
use Rattle.relay.specs.Tables.{held_for, unfit, past}
use Rattle.relay.specs.declared.refusal.Refusal.{Refusal}

-- In its turn a node tells of the paths that do not hold it, of as many nodes as the place of its round in the cycle says, in rising order as they are read
-- from the last node to the first. In a cycle's first round that is the path of no nodes, which stands for its own value.
abbrev pub paths_of : Turn → List (List ℕ)
paths_of t = paths_without t.cluster.nodes t.sender (place_in_cycle t.cluster t.round)

pub record IsTold (t : Turn) (path : List ℕ) : Type 0 where
  pub as_long : length path ≡ place_in_cycle t.cluster t.round
  pub path_without_sender : is_path_without t.cluster.nodes t.sender path ≡ true

-- of each it tells what its table holds for it
abbrev pub told_from : Turn → List ℕ → List ℕ
told_from t table = map (held_for t.cluster table) (paths_of t)

-- What is heard of it are the values of its payload, and 0 for each path for which there is none (`slice_index` is 0 past the end of a list). So of no
-- payload it is 0 for each path.
abbrev pub heard_in : Turn → List ℕ → List ℕ
heard_in t payload = first_values (slice_index (values_in payload)) (length (paths_of t))

abbrev pub nothing_heard : Turn → List ℕ
nothing_heard t = map (λ path. 0) (paths_of t)

-- Why a node tells nothing from a table, and why nothing that it told is entered into one: the table has another length than the cluster needs; the
-- node is past the cluster.
abbrev pub untold : Turn → List ℕ → List (Row Refusal)
untold t table = unfit t.cluster table ∷ past t.cluster t.sender ∷ []

-- A table into which values that a node told were entered: for the node in front of each of the paths, in their order, it holds the value; and all other
-- entries are as before.
pub record Entered (t : Turn) (values old new : List ℕ) : Type 0 where
  pub told : map (λ path. held_for t.cluster new (t.sender ∷ path)) (paths_of t) ≡ values
  pub kept : (index : ℕ) → ((path : List ℕ) → IsTold t path → index ≡ index_of t.cluster.nodes (t.sender ∷ path) → ⊥) → slice_index new index ≡ slice_index old index
  pub same_length : length new ≡ length old

-- What becomes of a frame that came in its slot, in the table that is written: its values are entered, or nothing, where it is turned away.
abbrev pub EntersReception : Turn → Reception → List ℕ → List ℕ → Type 0
EntersReception t (Whole ahead payload) old new = Entered t (heard_in t payload.now) old new
EntersReception t (TurnedAway refusal) old new = Entered t (nothing_heard t) old new
