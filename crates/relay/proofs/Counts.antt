-- How many paths a node tells of. Assumes nothing.
use Rattle.std.proofs.Common.{◌≡◌, ℕ, zero, suc, ◌+◌, ◌-◌, ◌*◌, ◌<◌, Bool, true, false, not, cond, ◌&&◌, ◌||◌, ◌==◌, nat_lt, List, [], ◌∷◌, length, map, flat_map, inl, inr, sym, refl, ap, ◌∙◌, arith}
use Rattle.std.specs.List.{All, filter, range_with_len}
use Rattle.std.proofs.lemmas.Bool.{cases_Bool, cases_eq, and_parts, not-true, lt-ltb, le-ltb, and_right, cases_order, eq-eqb, ne_eqb}
use Rattle.std.proofs.lemmas.List.{length-append}
use Rattle.std.proofs.lemmas.List.Elements.{All-head, All-tail, filter-append}
use Rattle.std.proofs.lemmas.List.FromFn.{filter_of_map_range_with_len_more}
use Rattle.frame.specs.Layout.{paths_without_one}
use Rattle.relay.specs.Paths.{stands_in, is_path, is_path_without, rows, each_in_front, paths_without}
use Rattle.relay.proofs.Numbers.{rows_long}
use Rattle.relay.proofs.Told.{path_parts, told_behind}

-- how many numbers below n pass a test
abbrev count_below : (ℕ → Bool) → ℕ → ℕ
count_below p zero = 0
count_below p (suc n) = count_below p n + cond (p n) 1 0

count_agrees : (p q : ℕ → Bool) (n : ℕ) → ((k : ℕ) → k < n → p k ≡ q k) → count_below p n ≡ count_below q n
count_agrees p q zero same = refl
count_agrees p q (suc n) same =
    let rest = count_agrees p q n (λ k h. same k (omega (arith, h))) in
    rw (rest, same n (omega arith))

count_all : (n : ℕ) → count_below (λ k. true) n ≡ n
count_all zero = refl
count_all (suc n) = omega (arith, count_all n)

count_none : (n : ℕ) → count_below (λ k. false) n ≡ 0
count_none zero = refl
count_none (suc n) = omega (arith, count_none n)

-- without one that passes it is one fewer, as soon as that one is reached
without_one : (p : ℕ → Bool) (x n : ℕ) → p x ≡ true → count_below (λ k. not (x == k) && p k) n + cond (nat_lt x n) 1 0 ≡ count_below p n
without_one p x zero passes = rw (le-ltb x 0 (omega arith))
without_one p x (suc n) passes =
    let rest = without_one p x n passes in
    elim (cases_order x n) [
      | inl same ↦
          let here : p n ≡ true = ap p (sym same) ∙ passes in
          let past : count_below (λ k. not (x == k) && p k) n + 0 ≡ count_below p n = rw (le-ltb x n (omega (arith, same))) at rest in
          rw (eq-eqb x n same, lt-ltb x (suc n) (omega (arith, same)), here) (omega (arith, past))
      | inr (inl earlier) ↦
          let past : count_below (λ k. not (x == k) && p k) n + 1 ≡ count_below p n = rw (lt-ltb x n earlier) at rest in
          rw (ne_eqb x n (λ same. absurd (omega (arith, same, earlier))), lt-ltb x (suc n) (omega (arith, earlier))) (omega (arith, past))
      | inr (inr later) ↦
          let past : count_below (λ k. not (x == k) && p k) n + 0 ≡ count_below p n = rw (le-ltb x n (omega (arith, later))) at rest in
          rw (ne_eqb x n (λ same. absurd (omega (arith, same, later))), le-ltb x (suc n) (omega (arith, later))) (omega (arith, past))
    ]

-- so of n nodes as many do not stand on a path as it leaves
neither : (a b : Bool) → not (a || b) ≡ (not a && not b)
neither true b = refl
neither false b = refl

pub free_of : (n : ℕ) (row : List ℕ) → is_path n row ≡ true → count_below (λ node. not (stands_in node row)) n + length row ≡ n
free_of n [] path = omega (arith, count_all n)
free_of n (x ∷ row) path =
    let p = path_parts n x row path in
    let apart = count_agrees (λ node. not (stands_in node (x ∷ row))) (λ node. not (x == node) && not (stands_in node row)) n (λ node h. neither (x == node) (stands_in node row)) in
    let fewer : count_below (λ node. not (x == node) && not (stands_in node row)) n + 1 ≡ count_below (λ node. not (stands_in node row)) n =
    rw p.within at (without_one (λ node. not (stands_in node row)) x n (ap not p.free)) in
    omega (arith, apart, fewer, free_of n row p.behind)

-- how many of a list pass, where each is given by a number
length_cond : {X : Type 0} (b : Bool) (row : X) → length (cond b (row ∷ []) []) ≡ cond b 1 0
length_cond true row = refl
length_cond false row = refl

pub counted : {X : Type 0} (p : X → Bool) (row : ℕ → X) (n : ℕ) → length (filter p (map row (range_with_len 0 n))) ≡ count_below (λ k. p (row k)) n
counted p row zero = refl
counted p row (suc n) =
    let one : suc n ≡ n + 1 = omega arith in
    ap (λ k. length (filter p (map row (range_with_len 0 k)))) one
    ∙ ap length (filter_of_map_range_with_len_more p row 0 n n (omega arith))
    ∙ length-append (filter p (map row (range_with_len 0 n))) (cond (p (row n)) (row n ∷ []) [])
    ∙ ap (λ k. k + length (cond (p (row n)) (row n ∷ []) [])) (counted p row n)
    ∙ ap (λ k. count_below (λ k. p (row k)) n + k) (length_cond (p (row n)) (row n))

-- a path without the sender is told on by each node that is not on it and is not the sender
simplify : (b : Bool) → ((not b && true) && true) ≡ not b
simplify true = refl
simplify false = refl

may_tell : (n sender node : ℕ) (row : List ℕ) → is_path_without n sender row ≡ true → node < n → is_path_without n sender (node ∷ row) ≡ not (stands_in node (sender ∷ row))
may_tell n sender node row told within =
    let (path, free) = and_parts (is_path n row) (not (stands_in sender row)) told in
    let other = not-true (stands_in sender row) free in
    elim (cases_eq node sender) [
      | inl same ↦ rw (lt-ltb node n within, path, other, eq-eqb node sender same, eq-eqb sender node (sym same)) (and_right (not (stands_in node row) && true) false refl)
      | inr differs ↦ rw (lt-ltb node n within, path, other, ne_eqb node sender differs, ne_eqb sender node (λ same. differs (sym same))) (simplify (stands_in node row))
    ]

in_front_of : (n sender count : ℕ) (row : List ℕ) → sender < n → length row ≡ count → length (filter (is_path_without n sender) (each_in_front n row)) ≡ cond (is_path_without n sender row) (n - suc count) 0
in_front_of n sender count row known long =
    let all = counted (is_path_without n sender) (λ node. node ∷ row) n in
    elim (cases_Bool (is_path_without n sender row)) [
      | inl told ↦
          let (path, free) = and_parts (is_path n row) (not (stands_in sender row)) told in
          let longer : is_path n (sender ∷ row) ≡ true = rw (lt-ltb sender n known, free, path) in
          let same = count_agrees (λ node. is_path_without n sender (node ∷ row)) (λ node. not (stands_in node (sender ∷ row))) n (λ node h. may_tell n sender node row told h) in
          rw told (omega (arith, all, same, free_of n (sender ∷ row) longer, long))
      | inr not_told ↦
          let same = count_agrees (λ node. is_path_without n sender (node ∷ row)) (λ node. false) n (λ node h. told_behind n sender node row not_told) in
          rw not_told (omega (arith, all, same, count_none n))
    ]

one_more : (k m : ℕ) → suc k * m ≡ m + k * m
one_more k m = omega arith

told_on : (n sender count : ℕ) (all : List (List ℕ)) → sender < n → All (λ row. length row ≡ count) all →
    length (filter (is_path_without n sender) (flat_map (each_in_front n) all)) ≡ length (filter (is_path_without n sender) all) * (n - suc count)
told_on n sender count [] known long = omega arith
told_on n sender count (row ∷ all) known long =
    let told = is_path_without n sender in
    let front = in_front_of n sender count row known (All-head (λ row. length row ≡ count) row all long) in
    let rest = told_on n sender count all known (All-tail (λ row. length row ≡ count) row all long) in
    let parts = ap length (filter-append told (each_in_front n row) (flat_map (each_in_front n) all)) in
    let both = length-append (filter told (each_in_front n row)) (filter told (flat_map (each_in_front n) all)) in
    elim (cases_Bool (told row)) [
      | inl passes ↦
          let front : length (filter told (each_in_front n row)) ≡ n - suc count = rw passes at front in
          rw passes (parts ∙ omega (arith, both, front, rest, one_more (length (filter told all)) (n - suc count)))
      | inr fails ↦
          let front : length (filter told (each_in_front n row)) ≡ 0 = rw fails at front in
          rw fails (parts ∙ omega (arith, both, front, rest))
    ]

pub paths_are_as_many : (n sender count : ℕ) → sender < n → length (paths_without n sender count) ≡ paths_without_one n count
paths_are_as_many n sender zero known = refl
paths_are_as_many n sender (suc count) known =
    told_on n sender count (rows n count) known (rows_long n count) ∙ ap (λ k. k * (n - suc count)) (paths_are_as_many n sender count known)
