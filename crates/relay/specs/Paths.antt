-- Paths by which values were told on, and their indices. Assumes nothing: these are definitions.
use Rattle.std.specs.Prelude.{ℕ, zero, suc, ◌+◌, ◌*◌, ◌/◌, ◌%◌, ◌<◌, Bool, true, not, ◌&&◌, List, [], ◌∷◌, map, flat_map, ◌==◌, nat_lt}
use Rattle.std.specs.List.{All, range_with_len, filter, list_any}

-- whether a node stands in a row of nodes
abbrev pub stands_in : ℕ → List ℕ → Bool
stands_in node row = list_any (λ one. one == node) row

-- A path is a row of different nodes of a cluster of n nodes. The one that told last stands first.
abbrev pub is_path : ℕ → List ℕ → Bool
is_path n [] = true
is_path n (node ∷ path) = nat_lt node n && not (stands_in node path) && is_path n path

-- the nodes of a row are those of a cluster
abbrev pub AllBelow : ℕ → List ℕ → Type 0
AllBelow n row = All (λ node. node < n) row

-- the index of a row, a number in base n: the node that stands first is the lowest digit
abbrev pub index_of : ℕ → List ℕ → ℕ
index_of n [] = 0
index_of n (node ∷ row) = index_of n row * n + node

-- All rows of so many nodes, in rising order as they are read from the last node to the first: those of one node more are, for each row in
-- its order, the row with each node in front.
abbrev pub each_in_front : ℕ → List ℕ → List (List ℕ)
each_in_front n row = map (λ node. node ∷ row) (range_with_len 0 n)

abbrev pub rows : ℕ → ℕ → List (List ℕ)
rows n zero = [] ∷ []
rows n (suc count) = flat_map (each_in_front n) (rows n count)

-- a path that does not hold the sender; and those of so many nodes, in the same order
abbrev pub is_path_without : ℕ → ℕ → List ℕ → Bool
is_path_without n sender row = is_path n row && not (stands_in sender row)

abbrev pub paths_without : ℕ → ℕ → ℕ → List (List ℕ)
paths_without n sender count = filter (is_path_without n sender) (rows n count)

-- the row of so many nodes that has an index: its digits
abbrev pub row_at : ℕ → ℕ → ℕ → List ℕ
row_at n zero index = []
row_at n (suc count) index = index % n ∷ row_at n count (index / n)
