-- The nodes that are not on a path: how many they are, and what most of them give. Assumes nothing.
use Rattle.std.proofs.Common.{◌≡◌, ℕ, zero, suc, ◌+◌, ◌*◌, ◌≤◌, ◌<◌, Bool, true, false, not, ◌==◌, List, ◌∷◌, length, map, inl, inr, refl, ap, ◌∙◌, arith}
use Rattle.std.specs.List.{filter, range_with_len}
use Rattle.std.proofs.lemmas.List.{map-id, length-map}
use Rattle.std.proofs.lemmas.Bool.{cases_Bool, eq-eqb, lt-ltb, not-true}
use Rattle.midpoint.specs.Order.{count}
use Rattle.clock.proofs.Nodes.{count_map}
use Rattle.relay.specs.Paths.{stands_in, is_path}
use Rattle.relay.proofs.Counts.{counted, free_of}
use Rattle.agreement.specs.Majority.{times, majority}
use Rattle.agreement.specs.Results.{nodes_off}
use Rattle.clock.specs.Rounds.{faulty}
use Rattle.agreement.proofs.Majorities.{most}

-- the nodes of a path and the others are all
pub all_nodes : (n : ℕ) (path : List ℕ) → is_path n path ≡ true → length (nodes_off n path) + length path ≡ n
all_nodes n path is =
    let off : ℕ → Bool = λ node. not (stands_in node path) in
    let many = counted off (λ node. node) n in
    let same = ap (λ nodes. length (filter off nodes)) (map-id (range_with_len 0 n)) in
    omega (arith, many, same, free_of n path is)

-- what two functions give of the nodes that pass a test, where they give the same of each
pub alike : (test : ℕ → Bool) (f g : ℕ → ℕ) (a n : ℕ) → ((node : ℕ) → node < a + n → test node ≡ true → f node ≡ g node) →
    map f (filter test (range_with_len a n)) ≡ map g (filter test (range_with_len a n))
alike test f g a zero same = refl
alike test f g a (suc n) same =
    let rest = alike test f g (a + 1) n (λ node h. same node (omega (arith, h))) in
    elim (cases_Bool (test a)) [
      | inl passes ↦ rw passes (ap (λ x. x ∷ map f (filter test (range_with_len (a + 1) n))) (same a (omega arith) passes) ∙ ap (λ xs. g a ∷ xs) rest)
      | inr fails ↦ rw fails rest
    ]

-- where all good nodes of those that pass give a value, as many give it as pass and are not faulty
good_give : (test : ℕ → Bool) (f : ℕ → ℕ) (good : ℕ → Bool) (v a n : ℕ) → ((node : ℕ) → node < a + n → test node ≡ true → good node ≡ true → f node ≡ v) →
    length (filter test (range_with_len a n)) ≤ count (λ node. f node == v) (filter test (range_with_len a n)) + count (λ node. not (good node)) (range_with_len a n)
unfolding count
good_give test f good v a zero give = omega arith
good_give test f good v a (suc n) give =
    let rest = good_give test f good v (a + 1) n (λ node h. give node (omega (arith, h))) in
    elim (cases_Bool (test a)) [
      | inl passes ↦
          elim (cases_Bool (good a)) [
            | inl is_good ↦ rw (passes, is_good, eq-eqb (f a) v (give a (omega arith) passes is_good)) (omega (arith, rest))
            | inr is_not ↦ rw (passes, is_not) (omega (arith, rest))
          ]
      | inr fails ↦ rw fails (omega (arith, rest))
    ]

-- so this is the majority of what the nodes give that are not on a path, where the path and twice the faulty nodes are not all
pub good_decide : (n : ℕ) (path : List ℕ) (f : ℕ → ℕ) (good : ℕ → Bool) (v : ℕ) → is_path n path ≡ true → length path + 2 * faulty n good < n →
    ((node : ℕ) → node < n → stands_in node path ≡ false → good node ≡ true → f node ≡ v) → majority (map f (nodes_off n path)) ≡ v
good_decide n path f good v is few give =
    let off : ℕ → Bool = λ node. not (stands_in node path) in
    let enough = good_give off f good v 0 n (λ node h passes. give node (omega (arith, h)) (not-true (stands_in node path) passes)) in
    let many : times v (map f (nodes_off n path)) ≡ count (λ node. f node == v) (nodes_off n path) = count_map (λ one. one == v) f (nodes_off n path) in
    let long = length-map (nodes_off n path) f in
    most (map f (nodes_off n path)) v
    (lt-ltb (length (map f (nodes_off n path))) (2 * times v (map f (nodes_off n path))) (omega (arith, long, many, enough, all_nodes n path is, few)))

-- no good node is on a path
abbrev pub AllFaulty : (ℕ → Bool) → List ℕ → Type 0
AllFaulty good path = (node : ℕ) → good node ≡ true → stands_in node path ≡ false

-- then a node is faulty or is not on it
or_faulty : (test good : ℕ → Bool) (a n : ℕ) → ((node : ℕ) → good node ≡ true → test node ≡ true) →
    n ≤ length (filter test (range_with_len a n)) + count (λ node. not (good node)) (range_with_len a n)
unfolding count
or_faulty test good a zero pass = omega arith
or_faulty test good a (suc n) pass =
    let rest = or_faulty test good (a + 1) n pass in
    elim (cases_Bool (good a)) [
      | inl is_good ↦ rw (is_good, pass a is_good) (omega (arith, rest))
      | inr is_not ↦ elim (cases_Bool (test a)) [ inl passes ↦ rw (is_not, passes) (omega (arith, rest)) | inr fails ↦ rw (is_not, fails) (omega (arith, rest)) ]
    ]

-- so it has no more nodes than are faulty
pub faulty_path : (n : ℕ) (path : List ℕ) (good : ℕ → Bool) → is_path n path ≡ true → AllFaulty good path → length path ≤ faulty n good
faulty_path n path good is all =
    omega (arith, all_nodes n path is, or_faulty (λ node. not (stands_in node path)) good 0 n (λ node is_good. ap not (all node is_good)))
