-- What a node makes of paths, and its results of a cycle. Assumes nothing: these are definitions.
use Rattle.std.specs.Prelude.{ℕ, ◌+◌, ◌-◌, zero, suc, not, List, [], ◌∷◌, map, length, ◌==◌}
use Rattle.std.specs.List.{filter, range_with_len}
use Rattle.midpoint.specs.Refusals.{Row, refused_if}
use Rattle.midpoint.specs.declared.refusal.Code.{Code}
use Rattle.clock.specs.declared.limits.Cluster.{Cluster}
use Rattle.relay.specs.Paths.{stands_in}
use Rattle.relay.specs.Tables.{held_for, table_length_of}
use Rattle.relay.specs.Tables as of_tables
use Rattle.agreement.specs.Majority.{majority}
use Rattle.agreement.specs.declared.refusal.Refusal.{Refusal}
use Rattle.agreement.specs.declared.refusal.Refusal.TheVariants.{Table, ResultsLength}

-- the nodes of a cluster of n that are not on a path
abbrev pub nodes_off : ℕ → List ℕ → List ℕ
nodes_off n path = filter (λ node. not (stands_in node path)) (range_with_len 0 n)

-- What a node makes of a path, where so many tellings are left: if none is left, what it holds for it. Else the majority of what it makes of the paths
-- with one more node in front, for each node that is not on it.
unfoldable pub made_of_path : ℕ → ℕ → (List ℕ → ℕ) → List ℕ → ℕ
made_of_path n zero held path = held path
made_of_path n (suc left) held path = majority (map (λ node. made_of_path n left held (node ∷ path)) (nodes_off n path))

-- What it makes of a path by its table as a cycle is over. A cycle has one telling more than faults are allowed, and a path has had one for each of its nodes.
abbrev pub made_of : Cluster → List ℕ → List ℕ → ℕ
made_of c table path = made_of_path c.nodes (c.faults + 1 - length path) (held_for c table) path

-- Its result for a node, in a cluster of n that allows so many faults, is what it makes of the path of this node alone, which has had one telling: so many are left.
abbrev pub result_for : ℕ → ℕ → (List ℕ → ℕ) → ℕ → ℕ
result_for n faults held node = made_of_path n faults held (node ∷ [])

-- and its results by a table, for all nodes in their order
abbrev pub results_of : Cluster → List ℕ → List ℕ
results_of c table = map (result_for c.nodes c.faults (held_for c table)) (range_with_len 0 c.nodes)

-- a row of another crate's list, with its refusal as one of this crate's
abbrev pub carried : {R S : Type 0} → (R → S) → Row R → Row S
carried as_ours row = refused_if row.applies (as_ours row.refusal)

-- Why no results are given: the table has another length than the cluster needs, or else the memory for the results, which is to have a place for each node.
abbrev pub unfit : Cluster → List ℕ → List ℕ → List (Row Refusal)
unfit c table memory = carried Table (of_tables.unfit c table) ∷ refused_if (not (length memory == c.nodes)) (ResultsLength c.nodes) ∷ []

-- number and place of each refusal
abbrev pub code_of : Refusal → Code
code_of (Table refusal) = of_tables.code_of refusal
code_of (ResultsLength needed) = record { number = 10; place = needed }
