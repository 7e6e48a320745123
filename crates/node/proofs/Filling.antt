-- Tables into which what each node told in a round is put, one node after the other, and then a node's own value, where the round ends a cycle. Assumes nothing.
use Rattle.std.proofs.Common.{◌≡◌, ℕ, zero, suc, ◌<◌, ◌≤◌, Bool, cond, List, [], length, refl, ap, ◌∙◌, inl, inr, arith}
use Rattle.std.proofs.lemmas.Bool.{cases_Bool}
use Rattle.std.proofs.lemmas.List.{length-set}
use Rattle.clock.specs.declared.limits.Cluster.{Cluster}
use Rattle.relay.specs.Tables.{table_length_of, with_entry}
use Rattle.relay.specs.Telling.{paths_of, Entered}
use Rattle.relay.specs.Theorems.{turn_in}
use Rattle.relay.proofs.Turns.{indices_of}
use Rattle.agreement.proofs.Possible.{Small, put_all, put_is, put_small}

-- a table into which the values of the first nodes were put, so many of them
abbrev pub put_of : Cluster → ℕ → (ℕ → List ℕ) → List ℕ → ℕ → List ℕ
put_of c k values table zero = table
put_of c k values table (suc q) = put_all (turn_in c k q) (values q) (put_of c k values table q)

-- it is as long as the table, and so the next node's values are entered
pub put_long : (c : Cluster) (k : ℕ) (values : ℕ → List ℕ) (table : List ℕ) (calls : ℕ) → calls ≤ c.nodes →
    ((q : ℕ) → length (values q) ≡ length (paths_of (turn_in c k q))) → length table ≡ table_length_of c → length (put_of c k values table calls) ≡ table_length_of c
put_long c k values table zero h many long = long
put_long c k values table (suc q) h many long =
    let before = put_long c k values table q (omega arith) many long in
    (put_is (turn_in c k q) (values q) (put_of c k values table q) (omega arith) before (many q)).same_length ∙ before

pub put_enters : (c : Cluster) (k : ℕ) (values : ℕ → List ℕ) (table : List ℕ) (q : ℕ) → q < c.nodes →
    ((q : ℕ) → length (values q) ≡ length (paths_of (turn_in c k q))) → length table ≡ table_length_of c →
    Entered (turn_in c k q) (values q) (put_of c k values table q) (put_of c k values table (suc q))
put_enters c k values table q h many long =
    put_is (turn_in c k q) (values q) (put_of c k values table q) h (put_long c k values table q (omega arith) many long) (many q)

-- its numbers are as small as those of the table and the values, and the same values make the same table
pub put_fits : (c : Cluster) (k : ℕ) (values : ℕ → List ℕ) (table : List ℕ) (calls : ℕ) → ((q : ℕ) → Small (values q)) → Small table →
    Small (put_of c k values table calls)
put_fits c k values table zero small_values small_table i = small_table i
put_fits c k values table (suc q) small_values small_table i =
    let t = turn_in c k q in
    put_small t (values q) (put_of c k values table q) (length (indices_of t)) (small_values q) (put_fits c k values table q small_values small_table) i

pub put_same : (c : Cluster) (k : ℕ) (values others : ℕ → List ℕ) (table : List ℕ) (calls : ℕ) → ((q : ℕ) → q < calls → values q ≡ others q) →
    put_of c k values table calls ≡ put_of c k others table calls
put_same c k values others table zero same = refl
put_same c k values others table (suc q) same =
    let before = put_same c k values others table q (λ i h. same i (omega arith)) in
    ap (λ told. put_all (turn_in c k q) told (put_of c k values table q)) (same q (omega arith)) ∙ ap (put_all (turn_in c k q) (others q)) before

-- and it is as long with a node's own value in it
pub long_with_value : (c : Cluster) (b : Bool) (value : ℕ) (table : List ℕ) → length table ≡ table_length_of c →
    length (cond b (with_entry c [] value table) table) ≡ table_length_of c
long_with_value c b value table long =
    elim (cases_Bool b) [
      | inl is ↦ rw is (length-set table 0 value ∙ long)
      | inr not ↦ rw not long
    ]
