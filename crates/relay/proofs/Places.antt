-- Rows of nodes as they are given: their numbers, and the first node that is wrong. Assumes nothing.
use Rattle.std.proofs.Common.{◌≡◌, ℕ, ◌+◌, ◌-◌, ◌*◌, ◌^◌, ◌≤◌, ◌<◌, suc, zero, ◌==◌, nat_le, true, false, refl, List, [], ◌∷◌, length, drop, take, Some, None, inl, inr, slice_index, get_or, sym, ap, ◌∙◌, arith}
use Rattle.std.specs.List.{range_with_len, position}
use Rattle.std.proofs.Math.Nat.{pow-le-pow_right, one-le-pow}
use Rattle.std.proofs.lemmas.List.{drop_more, length-drop, get_or_default}
use Rattle.std.proofs.lemmas.List.Elements.{All-drop}
use Rattle.std.proofs.lemmas.List.FromFn.{length-range_with_len, get_or-range_with_len}
use Rattle.std.proofs.lemmas.List.Sums.{fails_before_first, position_or_len_is}
use Rattle.std.proofs.lemmas.Bool.{cases_lt, lt-ltb, le-ltb, lt-leb, leb-false, ltb-true, or_parts, or_from, eqb-false, ne_eqb}
use Rattle.std.proofs.lemmas.Bool.Decides.{nat_tests}
use Rattle.std.proofs.lemmas.Option.{none-some, same_Some}
use Rattle.relay.specs.Paths.{AllBelow, index_of, is_path, stands_in}
use Rattle.relay.specs.Tables.{wrong_at, first_wrong, no_path, table_length_of}
use Rattle.midpoint.specs.Refusals.{first_applying}
use Rattle.clock.specs.declared.limits.Cluster.{Cluster}
use Rattle.relay.specs.Theorems.{PathsAreTaken}
use Rattle.relay.proofs.Told.{path_parts, longer}
use Rattle.relay.proofs.Numbers.{index_below, index_small}

-- the number of a row from a place on, one place earlier
pub more_of_row : (n : ℕ) (row : List ℕ) (place : ℕ) → 0 < place → place ≤ length row →
    index_of n (drop (place - 1) row) ≡ index_of n (drop place row) * n + slice_index row (place - 1)
more_of_row n row place some within =
    let next : place - 1 + 1 ≡ place = omega (arith, some) in
    let is : drop (place - 1) row ≡ slice_index row (place - 1) ∷ drop (place - 1 + 1) row = drop_more row (place - 1) 0 (omega (arith, some, within)) in
    rw (is, next)

pub more_is_small : (n : ℕ) (row : List ℕ) (place index : ℕ) → AllBelow n row → n ≤ 16 → length row ≤ 4 → 0 < place → place ≤ length row → index ≡ index_of n (drop place row) →
    index * n + slice_index row (place - 1) < 65536
more_is_small n row place index all few short some within is =
    let small = index_small n (drop (place - 1) row) (All-drop (λ node. node < n) (place - 1) row all) few (omega (arith, length-drop (place - 1) row, short)) in
    rw is (rw (more_of_row n row place some within) at small)

-- the place of the first wrong node, or none
pub some_wrong : (n : ℕ) (row : List ℕ) (place : ℕ) → position (wrong_at n row) (range_with_len 0 (length row)) ≡ Some place →
    (first_wrong n row ≡ place) × (place < length row)
some_wrong n row place is =
    let long = length-range_with_len 0 (length row) in
    elim (cases_lt (first_wrong n row) (length row)) [
      | inl h ↦
          let test = lt-ltb (first_wrong n row) (length row) h in
          let same : Some (first_wrong n row) ≡ Some place = rw (long, test) at is in
          let same = same_Some (first_wrong n row) place same in
          (same, omega (arith, same, h))
      | inr h ↦
          let test = le-ltb (first_wrong n row) (length row) h in
          let none : None ≡ Some place = rw (long, test) at is in
          absurd (none-some place none)
    ]

pub none_wrong : (n : ℕ) (row : List ℕ) → position (wrong_at n row) (range_with_len 0 (length row)) ≡ None → length row ≤ first_wrong n row
none_wrong n row is =
    let long = length-range_with_len 0 (length row) in
    elim (cases_lt (first_wrong n row) (length row)) [
      | inl h ↦
          let test = lt-ltb (first_wrong n row) (length row) h in
          let some : Some (first_wrong n row) ≡ None = rw (long, test) at is in
          absurd (none-some (first_wrong n row) (sym some))
      | inr h ↦ h
    ]

-- where no node is wrong, all are of the cluster

not_wrong : (n : ℕ) (row : List ℕ) (k : ℕ) → k < first_wrong n row → k < length row → wrong_at n row k ≡ false
not_wrong n row k h l =
    let at : get_or (range_with_len 0 (length row)) k 0 ≡ k = get_or-range_with_len 0 (length row) k 0 l ∙ omega arith in
    ap (wrong_at n row) (sym at) ∙ fails_before_first (wrong_at n row) (range_with_len 0 (length row)) k 0 h

pub none_wrong_below : (n : ℕ) (row : List ℕ) → length row ≤ first_wrong n row → AllBelow n row
none_wrong_below n row none k d h =
    let fine = not_wrong n row k (omega (arith, none, h)) h in
    let same = get_or_default row k d 0 h in
    rw same (leb-false n (get_or row k 0) (or_parts (nat_le n (slice_index row k)) (stands_in (slice_index row k) (take k row)) fine).0)

-- so its number is one of the table's
pub index_within : (n f : ℕ) (row : List ℕ) → AllBelow n row → 0 < n → length row ≤ f + 1 → index_of n row < n ^ (f + 1)
index_within n f row all some h = let more : n ^ length row ≤ n ^ (f + 1) = pow-le-pow_right some h in omega (arith, index_below n row all, more)

pub some_entry : (n k : ℕ) → 0 < n → 0 < n ^ k
some_entry n k h = omega (arith, one-le-pow k n h)

-- a row in which no node is wrong is a path, and in a path no node is wrong
differ_back : (x y : ℕ) → (x == y) ≡ false → (y == x) ≡ false
differ_back x y differs = ne_eqb y x (λ same. eqb-false x y differs (sym same))

-- what is said of a node behind the first one
pub record Behind (n x : ℕ) (row : List ℕ) (k : ℕ) : Type 0 where
  pub apart : (x == slice_index row k) ≡ false
  pub fine : wrong_at n row k ≡ false

behind_first : (n x : ℕ) (row : List ℕ) (k : ℕ) → wrong_at n (x ∷ row) (suc k) ≡ false → Behind n x row k
behind_first n x row k fine =
    let v = slice_index row k in
    let (within, free) = or_parts (nat_le n v) (stands_in v (x ∷ take k row)) fine in
    let (apart, others) = or_parts (x == v) (stands_in v (take k row)) free in
    record { apart = apart; fine = or_from (nat_le n v) (stands_in v (take k row)) within others }

stands_not : (x : ℕ) (row : List ℕ) → ((k : ℕ) → k < length row → (x == slice_index row k) ≡ false) → stands_in x row ≡ false
stands_not x [] apart = refl
stands_not x (y ∷ row) apart =
    or_from (y == x) (stands_in x row) (differ_back x y (apart 0 (omega arith))) (stands_not x row (λ k h. apart (suc k) (omega (arith, h))))

apart_from : (x : ℕ) (row : List ℕ) → stands_in x row ≡ false → (k : ℕ) → k < length row → (x == slice_index row k) ≡ false
apart_from x [] free k h = absurd (omega (arith, h))
apart_from x (y ∷ row) free zero h = differ_back y x (or_parts (y == x) (stands_in x row) free).0
apart_from x (y ∷ row) free (suc k) h = apart_from x row (or_parts (y == x) (stands_in x row) free).1 k (omega (arith, h))

path_from : (n : ℕ) (row : List ℕ) → ((k : ℕ) → k < length row → wrong_at n row k ≡ false) → is_path n row ≡ true
path_from n [] fine = refl
path_from n (x ∷ row) fine =
    let first : nat_le n x ≡ false = (or_parts (nat_le n x) false (fine 0 (omega arith))).0 in
    let behind : (k : ℕ) → k < length row → Behind n x row k = λ k h. behind_first n x row k (fine (suc k) (omega (arith, h))) in
    let free = stands_not x row (λ k h. (behind k h).apart) in
    longer n x row (leb-false n x first) free (path_from n row (λ k h. (behind k h).fine))

fine_at : (n x : ℕ) (row : List ℕ) (k : ℕ) → k < suc (length row) → x < n → stands_in x row ≡ false → ((j : ℕ) → j < length row → wrong_at n row j ≡ false) →
    wrong_at n (x ∷ row) k ≡ false
fine_at n x row zero h within free fine = or_from (nat_le n x) false (lt-leb n x within) refl
fine_at n x row (suc k) h within free fine =
    let v = slice_index row k in
    let (below, others) = or_parts (nat_le n v) (stands_in v (take k row)) (fine k (omega (arith, h))) in
    or_from (nat_le n v) (stands_in v (x ∷ take k row)) below (or_from (x == v) (stands_in v (take k row)) (apart_from x row free k (omega (arith, h))) others)

fine_from : (n : ℕ) (row : List ℕ) → is_path n row ≡ true → (k : ℕ) → k < length row → wrong_at n row k ≡ false
fine_from n [] path k h = absurd (omega (arith, h))
fine_from n (x ∷ row) path k h =
    let p = path_parts n x row path in
    fine_at n x row k h (ltb-true x n p.within) p.free (fine_from n row p.behind)

no_wrong : (n : ℕ) (row : List ℕ) → ((k : ℕ) → k < length row → wrong_at n row k ≡ false) → first_wrong n row ≡ length row
no_wrong n row fine =
    let long = length-range_with_len 0 (length row) in
    position_or_len_is (wrong_at n row) (range_with_len 0 (length row)) (length row) 0 (omega (arith, long))
    (λ k h. ap (wrong_at n row) (get_or-range_with_len 0 (length row) k 0 h ∙ omega arith) ∙ fine k h) (λ h. absurd (omega (arith, long, h)))

pub taken : PathsAreTaken
taken c row = (
  λ none.
      let right : length row ≤ first_wrong c.nodes row = grind (arith, nat_tests) in
      record {
        not_empty = grind (arith, nat_tests);
        short = grind (arith, nat_tests);
        path = path_from c.nodes row (λ k h. not_wrong c.nodes row k (omega (arith, right, h)) h);
      },
  λ held.
      let right = no_wrong c.nodes row (fine_from c.nodes row held.path) in
      let short = held.short in
      let some = held.not_empty in
      grind (arith, nat_tests, right, short, some),
)

-- so the nodes of a row that is not turned away are of the cluster, they are few, and its number is one of the table's
pub taken_below : (c : Cluster) (row : List ℕ) → first_applying (no_path c row) ≡ None → AllBelow c.nodes row
taken_below c row none = let right : length row ≤ first_wrong c.nodes row = grind (arith, nat_tests) in none_wrong_below c.nodes row right

pub taken_short : (c : Cluster) (row : List ℕ) → first_applying (no_path c row) ≡ None → length row ≤ c.faults + 1
taken_short c row none = grind (arith, nat_tests)

pub taken_within : (c : Cluster) (row : List ℕ) → first_applying (no_path c row) ≡ None → index_of c.nodes row < table_length_of c
taken_within c row none = index_within c.nodes c.faults row (taken_below c row none) (omega (arith, c.enough)) (taken_short c row none)
