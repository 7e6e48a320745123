-- Tables: how long one is, what it holds for a path, and what is turned away. Assumes nothing: these are definitions.
use Rattle.std.specs.Prelude.{ℕ, ◌+◌, ◌^◌, Bool, not, ◌||◌, List, [], ◌∷◌, length, take, slice_index, slice_set, ◌==◌, nat_lt, nat_le}
use Rattle.std.specs.List.{range_with_len, position_or_len}
use Rattle.midpoint.specs.Refusals.{Row, refused_if}
use Rattle.midpoint.specs.declared.refusal.Code.{Code}
use Rattle.clock.specs.declared.limits.Cluster.{Cluster}
use Rattle.relay.specs.Paths.{stands_in, index_of}
use Rattle.relay.specs.declared.refusal.Refusal.{Refusal}
use Rattle.relay.specs.declared.refusal.Refusal.TheVariants.{TableLength, PathLength, Node}

-- a table has an entry for each row of as many nodes as a cycle has rounds, which is one more than the cluster allows faults
abbrev pub table_length_of : Cluster → ℕ
table_length_of c = c.nodes ^ (c.faults + 1)

-- What a table of a cluster of n nodes holds for a row of nodes stands at its index; past the end of the table that is 0. A node's own value stands at the
-- index of the row of no nodes, which is 0.
abbrev pub held_in : ℕ → List ℕ → List ℕ → ℕ
held_in n table row = slice_index table (index_of n row)

abbrev pub held_for : Cluster → List ℕ → List ℕ → ℕ
held_for c table row = held_in c.nodes table row

-- a table of another length than the cluster needs
abbrev pub unfit : Cluster → List ℕ → Row Refusal
unfit c table = refused_if (not (length table == table_length_of c)) (TableLength (table_length_of c))

-- a node past the cluster, which stands first on all paths that it tells last
abbrev pub past : Cluster → ℕ → Row Refusal
past c node = refused_if (nat_le c.nodes node) (Node 0)

-- A row of nodes that is no path which a table has: one of no nodes, or of more than a cycle has rounds; or with a node that is past the cluster or stood
-- before, the first such.
abbrev pub wrong_at : ℕ → List ℕ → ℕ → Bool
wrong_at n row place = nat_le n (slice_index row place) || stands_in (slice_index row place) (take place row)

abbrev pub first_wrong : ℕ → List ℕ → ℕ
first_wrong n row = position_or_len (wrong_at n row) (range_with_len 0 (length row))

abbrev pub no_path : Cluster → List ℕ → List (Row Refusal)
no_path c row =
    refused_if (length row == 0 || nat_lt (c.faults + 1) (length row)) (PathLength (length row))
    ∷ refused_if (nat_lt (first_wrong c.nodes row) (length row)) (Node (first_wrong c.nodes row))
    ∷ []

-- number and place of each refusal
abbrev pub code_of : Refusal → Code
code_of (TableLength needed) = record { number = 10; place = needed }
code_of (PathLength n) = record { number = 11; place = n }
code_of (Node place) = record { number = 11; place = place }

-- a table with another value for a row of nodes
abbrev pub with_entry : Cluster → List ℕ → ℕ → List ℕ → List ℕ
with_entry c row value table = slice_set table (index_of c.nodes row) value
