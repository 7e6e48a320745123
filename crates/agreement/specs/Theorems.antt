-- What is proved of majority and results. Each statement is demanded by the contract of a function of src/theorems.rt. Assumes nothing.
use Rattle.std.specs.Prelude.{◌≡◌, ℕ, suc, ◌+◌, ◌*◌, ◌^◌, ◌<◌, ◌≤◌, Bool, false, not, List, [], ◌∷◌, length, map, slice_index, ◌==◌}
use Rattle.std.specs.List.{range_with_len, AllByRecursion}
use Rattle.clock.specs.Rounds.{GoodNode, faulty, FewBad}
use Rattle.clock.specs.declared.limits.Cluster.{Cluster}
use Rattle.frame.specs.Layout.{place_in_cycle}
use Rattle.midpoint.specs.Theorems.{Worked}
use Rattle.relay.specs.Tables.{table_length_of, held_for}
use Rattle.relay.specs.Telling.{IsTold}
use Rattle.relay.specs.Theorems.{turn_in}
use Rattle.agreement.specs.Majority.{times, majority}
use Rattle.agreement.specs.Results.{nodes_off, made_of, result_for, results_of}
use Rattle.agreement.specs.Holdings.{Tells, Agrees, holding}
use Rattle.agreement.specs.Cycles.{Cycle}

-- If more than half of a list have one value, the majority is this value; if there is no such value, it is 0.
pub record IsMajority (values : List ℕ) : Type 0 where
  pub most : (value : ℕ) → length values < 2 * times value values → majority values ≡ value
  pub none : ((value : ℕ) → 2 * times value values ≤ length values) → majority values ≡ 0

abbrev pub Most : Type 0
Most = (values : List ℕ) → IsMajority values

-- What a node makes of a path with as many nodes as a cycle has rounds is what its table holds for it. What it makes of a shorter one is the majority of what it makes of the
-- paths with one more node in front, for each node that is not on it. And its result for a node is what it makes of the path of this node alone.
pub record Made (c : Cluster) (table : List ℕ) : Type 0 where
  pub told_last : (path : List ℕ) → length path ≡ c.faults + 1 → made_of c table path ≡ held_for c table path
  pub shorter : (path : List ℕ) → length path ≤ c.faults → made_of c table path ≡ majority (map (λ node. made_of c table (node ∷ path)) (nodes_off c.nodes path))
  pub alone : (r : ℕ) → r < c.nodes → slice_index (results_of c table) r ≡ made_of c table (r ∷ [])

abbrev pub ResultsAreMade : Type 0
ResultsAreMade = (c : Cluster) (table : List ℕ) → Made c table

-- Good nodes agree, whatever the faulty ones tell, if no more are faulty than are allowed, and there are more than three times as many nodes as faults are allowed.
abbrev pub Agreed : Type 0
Agreed =
    (n faults : ℕ) (good : ℕ → Bool) (held : ℕ → List ℕ → ℕ) → 3 * faults < n → faulty n good ≤ faults → Tells n faults good held → Agrees n faults good held

-- And so they do by their tables: as a cycle is over any two good nodes have the same results, for all nodes, and for a good node that is the value that it gave.
pub record Settled (c : Cluster) (good : ℕ → Bool) (value : ℕ → ℕ) (table : ℕ → List ℕ) : Type 0 where
  pub same : (p q : ℕ) → GoodNode c good p → GoodNode c good q → results_of c (table p) ≡ results_of c (table q)
  pub right : (p r : ℕ) → GoodNode c good p → GoodNode c good r → slice_index (results_of c (table p)) r ≡ value r

abbrev pub AgreedByTables : Type 0
AgreedByTables =
    (c : Cluster) (good : ℕ → Bool) (value : ℕ → ℕ) (first : ℕ) (tables : ℕ → ℕ → List ℕ) → FewBad c good → Cycle c good value first tables →
    Settled c good value (tables (suc c.faults))

-- What is asked of good nodes leaves the faulty ones free: whatever values nodes give, and whatever the faulty ones tell each node of each path, there is what good
-- nodes then hold.
pub record Told (n faults : ℕ) (good : ℕ → Bool) (value : ℕ → ℕ) (lies : ℕ → ℕ → List ℕ → ℕ) : Type 0 where
  pub tell : Tells n faults good (holding good value lies)
  pub given : (p : ℕ) → holding good value lies p [] ≡ value p
  pub lied : (p q : ℕ) (path : List ℕ) → good q ≡ false → holding good value lies p (q ∷ path) ≡ lies p q path

abbrev pub AnythingCanBeTold : Type 0
AnythingCanBeTold = (n faults : ℕ) (good : ℕ → Bool) (value : ℕ → ℕ) (lies : ℕ → ℕ → List ℕ → ℕ) → Told n faults good value lies

-- And so by tables: there is such a cycle. Its tables are as long as the cluster needs, and hold numbers below 2^32 if the values and the lies are such.
pub record CycleWith (c : Cluster) (good : ℕ → Bool) (value : ℕ → ℕ) (first : ℕ) (lies : ℕ → ℕ → List ℕ → ℕ) : Type 0 where
  pub tables : ℕ → ℕ → List ℕ
  pub cycle : Cycle c good value first tables
  pub long : (k p : ℕ) → length (tables k p) ≡ table_length_of c
  pub lied :
      (k p q : ℕ) → k ≤ c.faults → q < c.nodes → good q ≡ false → (path : List ℕ) → IsTold (turn_in c (first + k) q) path →
      held_for c (tables (suc k) p) (q ∷ path) ≡ lies p q path
  pub small : ((p : ℕ) → value p < 2 ^ 32) → ((p q : ℕ) (path : List ℕ) → lies p q path < 2 ^ 32) → (k p index : ℕ) → slice_index (tables k p) index < 2 ^ 32

abbrev pub CycleCanBeRun : Type 0
CycleCanBeRun =
    (c : Cluster) (good : ℕ → Bool) (value : ℕ → ℕ) (first : ℕ) (lies : ℕ → ℕ → List ℕ → ℕ) → place_in_cycle c first ≡ 0 → CycleWith c good value first lies

-- Three times the faults are too few nodes. Of three nodes, one of which may be faulty, nodes 0 and 1 give 5 and 6; node 2 tells node 0 always 5, and node 1 always 9. Then
-- nodes 0 and 1 do not agree on node 0, and what node 1 comes to is not the value that node 0 gave, though all else holds that `Agreed` asks.
abbrev pub but : ℕ → ℕ → Bool
but liar node = not (node == liar)

abbrev pub held_by_three : ℕ → List ℕ → ℕ
held_by_three = holding (but 2) (slice_index (5 ∷ 6 ∷ [])) (λ p q path. slice_index (5 ∷ 9 ∷ []) p)

pub record ThreeAreTooFew : Type 0 where
  pub tell : Tells 3 1 (but 2) held_by_three
  pub one : faulty 3 (but 2) ≡ 1
  pub by_0 : map (result_for 3 1 (held_by_three 0)) (range_with_len 0 3) ≡ 5 ∷ 0 ∷ 0 ∷ []
  pub by_1 : map (result_for 3 1 (held_by_three 1)) (range_with_len 0 3) ≡ 0 ∷ 0 ∷ 0 ∷ []
  pub fail : Agrees 3 1 (but 2) held_by_three → ⊥

-- Cases worked out by hand, those of the midpoint and these: of four nodes, one of which may be faulty, nodes 0 to 2 give 5, 6 and 7. Node 3 sends them in the first
-- round what a case says, where nothing is 0, and tells everybody in the second that it heard 9 of each. So they all come to the results.
pub record Case : Type 0 where
  pub sent : List ℕ
  pub results : List ℕ

abbrev pub cases : List Case
cases =
    record { sent = 1 ∷ 2 ∷ 1 ∷ []; results = 5 ∷ 6 ∷ 7 ∷ 1 ∷ [] }
    ∷ record { sent = 1 ∷ 2 ∷ 3 ∷ []; results = 5 ∷ 6 ∷ 7 ∷ 0 ∷ [] }
    ∷ record { sent = 4 ∷ 4 ∷ 4 ∷ []; results = 5 ∷ 6 ∷ 7 ∷ 4 ∷ [] }
    ∷ record { sent = 0 ∷ 8 ∷ 8 ∷ []; results = 5 ∷ 6 ∷ 7 ∷ 8 ∷ [] }
    ∷ []

abbrev pub lie_of : List ℕ → ℕ → ℕ → List ℕ → ℕ
lie_of sent p q [] = slice_index sent p
lie_of sent p q (r ∷ path) = 9

abbrev pub held_by_four : List ℕ → ℕ → List ℕ → ℕ
held_by_four sent = holding (but 3) (slice_index (5 ∷ 6 ∷ 7 ∷ [])) (lie_of sent)

abbrev pub ComesOut : Case → Type 0
ComesOut case = AllByRecursion (λ p. map (result_for 4 1 (held_by_four case.sent p)) (range_with_len 0 4) ≡ case.results) (0 ∷ 1 ∷ 2 ∷ [])

abbrev pub WorkedCases : Type 0
WorkedCases = Worked × AllByRecursion ComesOut cases
