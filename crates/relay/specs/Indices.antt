-- What is left of the indices of the paths that a node tells of in its turn. Assumes nothing: these are definitions.
use Rattle.std.specs.Prelude.{◌≡◌, ℕ, ◌+◌, ◌-◌, ◌*◌, Bool, List}
use Rattle.std.specs.List.{filter, range_with_len}
use Rattle.relay.specs.Paths.{is_path_without, row_at}
use Rattle.relay.specs.declared.indices.PathIndices.{PathIndices}

-- the row with an index is one that is told of
abbrev pub told_at : ℕ → ℕ → ℕ → ℕ → Bool
told_at n sender count index = is_path_without n sender (row_at n count index)

-- the row that is looked at next, and the indices from there on of those that are told of
abbrev pub next_index : PathIndices → ℕ
next_index p = p.behind * p.nodes + p.first

abbrev pub indices_left : PathIndices → List ℕ
indices_left p = filter (told_at p.nodes p.sender p.path_length) (range_with_len (next_index p) (p.end - next_index p))

-- one row further, of the same turn
pub record OneFurther (old new : PathIndices) : Type 0 where
  pub next : next_index new ≡ next_index old + 1
  pub same_nodes : new.nodes ≡ old.nodes
  pub same_sender : new.sender ≡ old.sender
  pub same_count : new.path_length ≡ old.path_length
  pub same_end : new.end ≡ old.end
