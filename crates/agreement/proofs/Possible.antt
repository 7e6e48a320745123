-- A cycle in which the faulty nodes tell anything. Assumes nothing.
use Rattle.std.proofs.Common.{◌≡◌, ℕ, zero, suc, ◌+◌, ◌^◌, ◌≤◌, ◌<◌, Bool, false, cond, List, [], ◌∷◌, length, map, get_or, slice_index, slice_set, inl, inr, sym, refl, ap, ◌∙◌, arith}
use Rattle.std.specs.List.{range_with_len}
use Rattle.std.proofs.lemmas.Bool.{cases_Bool, cases_eq, cases_lt}
use Rattle.std.proofs.lemmas.List.{length-map, length-set, get_or-map, get_or-set_same, get_or-set_other, get_or_past}
use Rattle.std.proofs.lemmas.List.FromFn.{length-map-range_with_len}
use Rattle.clock.specs.declared.limits.Cluster.{Cluster}
use Rattle.frame.specs.Layout.{place_in_cycle}
use Rattle.frame.specs.declared.turn.Turn.{Turn}
use Rattle.relay.specs.Tables.{table_length_of, held_for, with_entry}
use Rattle.relay.specs.Telling.{paths_of, IsTold, told_from, Entered}
use Rattle.relay.specs.Theorems.{turn_in, EnteredAll}
use Rattle.relay.proofs.Entering.{entry, EnteredTo, entered_none, entered_more, entered_all, told_fits}
use Rattle.relay.specs.Paths.{AllBelow}
use Rattle.relay.proofs.Lists.{list_by_index}
use Rattle.relay.proofs.Numbers.{range_below}
use Rattle.std.proofs.lemmas.List.Elements.{All-head, All-tail}
use Rattle.relay.proofs.Relaying.{same_for, round_is_whole}
use Rattle.relay.proofs.Turns.{place_of, indices_of, indices_below, entry_within}
use Rattle.agreement.specs.Cycles.{Cycle}
use Rattle.agreement.specs.Theorems.{CycleCanBeRun}
use Rattle.agreement.proofs.Cycles.{in_order, stands_among}

-- numbers below 2^32: in a list that a function gives, and in one with another entry
abbrev pub Small : List ℕ → Type 0
Small table = (index : ℕ) → slice_index table index < 2 ^ 32

pub map_small : {X : Type 0} (f : X → ℕ) (xs : List X) (d : X) → ((x : X) → f x < 2 ^ 32) → Small (map f xs)
map_small f xs d small i =
    elim (cases_lt i (length xs)) [
      | inl h ↦ rw (get_or-map f xs i d 0 h) (small (get_or xs i d))
      | inr h ↦ rw (get_or_past (map f xs) i 0 (omega (arith, h, length-map xs f))) (omega arith)
    ]

pub set_small : (xs : List ℕ) (at v : ℕ) → v < 2 ^ 32 → Small xs → Small (slice_set xs at v)
set_small xs at v small_v small i =
    elim (cases_eq i at) [
      | inl same ↦
          elim (cases_lt at (length xs)) [
            | inl h ↦ rw (same, get_or-set_same xs at v 0 h) small_v
            | inr h ↦ rw (get_or_past (slice_set xs at v) i 0 (omega (arith, h, same, length-set xs at v))) (omega arith)
          ]
      | inr differs ↦ rw (get_or-set_other xs at i v 0 differs) (small i)
    ]

-- a table into which the first values of a list were put, for the first paths of a turn
abbrev pub put_to : Turn → List ℕ → List ℕ → ℕ → List ℕ
put_to t values table zero = table
put_to t values table (suc count) = slice_set (put_to t values table count) (entry t (slice_index (indices_of t) count)) (slice_index values count)

put_first : (t : Turn) (values table : List ℕ) (count : ℕ) → t.sender < t.cluster.nodes → length table ≡ table_length_of t.cluster → count ≤ length (indices_of t) →
    EnteredTo t (slice_index values) count table (put_to t values table count)
put_first t values table zero known long h = entered_none t (slice_index values) table
put_first t values table (suc count) known long h =
    let before = put_first t values table count known long (omega (arith, h)) in
    let one : count + 1 ≡ suc count = omega arith in
    let below : slice_index (indices_of t) count < t.cluster.nodes ^ place_of t = indices_below t count 0 (omega (arith, h)) in
    let fits = entry_within t (slice_index (indices_of t) count) known below in
    let more : EnteredTo t (slice_index values) (count + 1) table (put_to t values table (suc count)) =
    entered_more t (slice_index values) count table (put_to t values table count) (entry t (slice_index (indices_of t) count)) (slice_index values count) known (omega (arith, h)) refl
    (omega (arith, fits, before.same_length, long)) refl before in
    rw one at more

-- and all of them
abbrev pub put_all : Turn → List ℕ → List ℕ → List ℕ
put_all t values table = put_to t values table (length (indices_of t))

pub put_is : (t : Turn) (values table : List ℕ) → t.sender < t.cluster.nodes → length table ≡ table_length_of t.cluster → length values ≡ length (paths_of t) →
    Entered t values table (put_all t values table)
put_is t values table known long many =
    entered_all t (slice_index values) values (length (indices_of t)) table (put_all t values table) refl
    (ap (λ n. map (slice_index values) (range_with_len 0 n)) (sym many) ∙ sym (list_by_index values)) (put_first t values table (length (indices_of t)) known long (omega arith))

pub put_small : (t : Turn) (values table : List ℕ) (count : ℕ) → Small values → Small table → Small (put_to t values table count)
put_small t values table zero small_values small_table i = small_table i
put_small t values table (suc count) small_values small_table i = set_small (put_to t values table count) (entry t (slice_index (indices_of t) count)) (slice_index values count)
    (small_values count) (put_small t values table count small_values small_table) i

-- the tables of a round, each node's turn after the other
abbrev put_each : Cluster → ℕ → (ℕ → List ℕ) → List ℕ → List ℕ → List ℕ
put_each c round values [] table = table
put_each c round values (sender ∷ senders) table = put_each c round values senders (put_all (turn_in c round sender) (values sender) table)

record PutEach (c : Cluster) (round : ℕ) (values : ℕ → List ℕ) (senders table : List ℕ) : Type 0 where
  entered : EnteredAll c round values senders table (put_each c round values senders table)
  long : length (put_each c round values senders table) ≡ table_length_of c

each_put : (c : Cluster) (round : ℕ) (values : ℕ → List ℕ) (senders table : List ℕ) → AllBelow c.nodes senders →
    ((sender : ℕ) → length (values sender) ≡ length (paths_of (turn_in c round sender))) → length table ≡ table_length_of c → PutEach c round values senders table
each_put c round values [] table all many long = record { entered = refl; long = long }
each_put c round values (sender ∷ senders) table all many long =
    let t = turn_in c round sender in
    let known = All-head (λ node. node < c.nodes) sender senders all in
    let one = put_is t (values sender) table known long (many sender) in
    let rest = each_put c round values senders (put_all t (values sender) table) (All-tail (λ node. node < c.nodes) sender senders all) many (one.same_length ∙ long) in
    record { entered = (put_all t (values sender) table, one, rest.entered); long = rest.long }

each_small : (c : Cluster) (round : ℕ) (values : ℕ → List ℕ) (senders table : List ℕ) → ((sender : ℕ) → Small (values sender)) → Small table →
    Small (put_each c round values senders table)
each_small c round values [] table small_values small_table i = small_table i
each_small c round values (sender ∷ senders) table small_values small_table i =
    let t = turn_in c round sender in
    each_small c round values senders (put_all t (values sender) table) small_values (put_small t (values sender) table (length (indices_of t)) (small_values sender) small_table) i

module _ (c : Cluster) (good : ℕ → Bool) (value : ℕ → ℕ) (first : ℕ) (lies : ℕ → ℕ → List ℕ → ℕ) (is_first : place_in_cycle c first ≡ 0) where
  -- what a node is told in a round by each, and enters into a table of zeros
  abbrev told_by : ℕ → (ℕ → List ℕ) → ℕ → ℕ → List ℕ
  told_by k read p q = let t = turn_in c (first + k) q in cond (good q) (told_from t (read q)) (map (lies p q) (paths_of t))

  abbrev zeros : List ℕ
  zeros = map (λ index. 0) (range_with_len 0 (table_length_of c))

  zeros_long : length zeros ≡ table_length_of c
  zeros_long = length-map-range_with_len (λ index. 0) 0 (table_length_of c)

  abbrev tables : ℕ → ℕ → List ℕ
  tables zero p = with_entry c [] (value p) zeros
  tables (suc k) p = put_each c (first + k) (told_by k (tables k) p) (range_with_len 0 c.nodes) zeros

  told_many : (k : ℕ) (read : ℕ → List ℕ) (p q : ℕ) → length (told_by k read p q) ≡ length (paths_of (turn_in c (first + k) q))
  told_many k read p q =
      let t = turn_in c (first + k) q in
      elim (cases_Bool (good q)) [
        | inl is_good ↦ rw is_good (length-map (paths_of t) (held_for c (read q)))
        | inr is_not ↦ rw is_not (length-map (paths_of t) (lies p q))
      ]

  put : (k p : ℕ) → PutEach c (first + k) (told_by k (tables k) p) (range_with_len 0 c.nodes) zeros
  put k p = each_put c (first + k) (told_by k (tables k) p) (range_with_len 0 c.nodes) zeros (range_below c.nodes) (told_many k (tables k) p) zeros_long

  tables_long : (k p : ℕ) → length (tables k p) ≡ table_length_of c
  tables_long zero p = length-set zeros 0 (value p) ∙ zeros_long
  tables_long (suc k) p = (put k p).long

  tables_small : ((p : ℕ) → value p < 2 ^ 32) → ((p q : ℕ) (path : List ℕ) → lies p q path < 2 ^ 32) → (k p : ℕ) → Small (tables k p)
  tables_small small_value small_lies zero p = set_small zeros 0 (value p) (small_value p) (map_small (λ index. 0) (range_with_len 0 (table_length_of c)) 0 (λ index. omega arith))
  tables_small small_value small_lies (suc k) p =
      each_small c (first + k) (told_by k (tables k) p) (range_with_len 0 c.nodes) zeros
      (λ q.
      let t = turn_in c (first + k) q in
      elim (cases_Bool (good q)) [
        | inl is_good ↦ rw is_good (λ i. told_fits t (tables k q) i (tables_small small_value small_lies k q))
        | inr is_not ↦ rw is_not (map_small (lies p q) (paths_of t) [] (small_lies p q))
      ])
      (map_small (λ index. 0) (range_with_len 0 (table_length_of c)) 0 (λ index. omega arith))

  cycle : Cycle c good value first tables
  cycle = record {
    is_first = is_first;
    begun = λ p of_p. record { old = zeros; fits = zeros_long; own = refl };
    rounds = λ k p h of_p. record {
      old = zeros;
      values = told_by k (tables k) p;
      senders = range_with_len 0 c.nodes;
      once = in_order c.nodes 0 c.nodes (omega arith);
      all = λ node h. stands_among node 0 c.nodes (omega arith) (omega (arith, h));
      each = (put k p).entered;
      told = λ q of_q. rw of_q.1 refl;
    };
  }

  lied : (k p q : ℕ) → k ≤ c.faults → q < c.nodes → good q ≡ false → (path : List ℕ) → IsTold (turn_in c (first + k) q) path →
      held_for c (tables (suc k) p) (q ∷ path) ≡ lies p q path
  lied k p q h known is_not path told =
      let t = turn_in c (first + k) q in
      let values = told_by k (tables k) p in
      let whole = round_is_whole c (first + k) values (range_with_len 0 c.nodes) zeros (tables (suc k) p) (in_order c.nodes 0 c.nodes (omega arith)) (put k p).entered in
      let of_q : values q ≡ map (lies p q) (paths_of t) = rw is_not refl in
      same_for t (λ path. held_for c (tables (suc k) p) (q ∷ path)) (lies p q) (whole.told q (stands_among q 0 c.nodes (omega arith) (omega (arith, known))) ∙ of_q) path told

pub cycle_can_be_run : CycleCanBeRun
cycle_can_be_run c good value first lies is_first = record {
  tables = tables c good value first lies is_first;
  cycle = cycle c good value first lies is_first;
  long = tables_long c good value first lies is_first;
  lied = lied c good value first lies is_first;
  small = tables_small c good value first lies is_first;
}
