-- The row of nodes that a path by its index is. Assumes nothing: these are definitions.
use Rattle.std.specs.Prelude.{ℕ, List, ◌∷◌}
use Rattle.relay.specs.Paths.{row_at}
use Rattle.relay.specs.Tables.{held_in}
use Rattle.agreement.specs.Results.{made_of_path}
use Rattle.agreement.specs.declared.path.Path.{Path}

abbrev pub row_of : Path → List ℕ
row_of path = row_at path.cluster_nodes path.length path.index

-- what is made by a table of a path with one more node in front
abbrev pub made_in : Path → ℕ → List ℕ → ℕ → ℕ
made_in path left table node = made_of_path path.cluster_nodes left (held_in path.cluster_nodes table) (node ∷ row_of path)
