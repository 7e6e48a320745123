-- Tests over the nodes of a cluster, and what is read of them in rising order: two lists of readings share a good node. Assumes nothing.
use Rattle.std.proofs.Common.{◌≡◌, ℕ, zero, suc, ◌+◌, ◌<◌, ◌≤◌, Bool, true, false, not, ◌||◌, ltb, List, [], ◌∷◌, map, get_or, sym, refl, ◌∙◌, subst, inl, inr, zero-add, arith}
use Rattle.std.proofs.lemmas.List.FromFn.{length-map-range_with_len, length-range_with_len, get_or-range_with_len}
use Rattle.std.proofs.ByRecursion.{All-from_get_or}
use Rattle.std.proofs.lemmas.Bool.{cases_Bool}
use Rattle.std.proofs.lemmas.Bool.Decides.{nat_tests}
use Rattle.std.specs.List.{range_with_len, AllByRecursion}
use Rattle.midpoint.specs.Order.{sorted, count}
use Rattle.midpoint.specs.Theorems.{outside}
use Rattle.midpoint.specs.Midpoint.{midpoint}
use Rattle.midpoint.proofs.Ranks.{below_place, above_place, holds}
use Rattle.clock.specs.Rounds.{FewBad}
use Rattle.clock.specs.declared.limits.Cluster.{Cluster}

pub count_map : (test : ℕ → Bool) (f : ℕ → ℕ) (xs : List ℕ) → count test (map f xs) ≡ count (λ x. test (f x)) xs
unfolding count
count_map test f [] = refl
count_map test f (x ∷ xs) = omega (arith, count_map test f xs)

-- what holds of each node holds of their list
pub all_counting : (P : ℕ → Type 0) (n : ℕ) → ((q : ℕ) → q < n → P q) → AllByRecursion P (range_with_len 0 n)
all_counting P n each =
    All-from_get_or P (range_with_len 0 n) 0
    (λ i h. let l : i < n = omega (arith, length-range_with_len 0 n) in subst P (sym (get_or-range_with_len 0 n i 0 l ∙ zero-add i)) (each i l))

-- what passes one of two tests counts no more than what passes the one and what passes the other
pub count_either : (a b : ℕ → Bool) (xs : List ℕ) → count (λ x. a x || b x) xs ≤ count a xs + count b xs
unfolding count
count_either a b [] = omega arith
count_either a b (x ∷ xs) = let ih = count_either a b xs in grind (arith, nat_tests)

-- where three tests catch fewer than all of n nodes, they let one through
let_through : (b c d : ℕ → Bool) (a n : ℕ) → count b (range_with_len a n) + (count c (range_with_len a n) + count d (range_with_len a n)) < n →
    (r : ℕ) × (r < a + n) × ((b r || (c r || d r)) ≡ false)
unfolding count
let_through b c d a zero h = absurd (omega arith)
let_through b c d a (suc n) h =
    elim (cases_Bool (b a || (c a || d a))) [
      | inl e ↦ let (r, l, t) = let_through b c d (a + 1) n (grind (arith, nat_tests)) in (r, omega arith, t)
      | inr e ↦ (a, omega arith, e)
    ]

-- where the readings of good nodes lie in a span, no more lie outside of it than nodes are bad
pub few_outside : (a n low high : ℕ) (good : ℕ → Bool) (y : ℕ → ℕ) → ((q : ℕ) → q < a + n → good q ≡ true → (low ≤ y q) × (y q ≤ high)) →
    outside low high (map y (range_with_len a n)) ≤ count (λ q. not (good q)) (range_with_len a n)
unfolding count
few_outside a zero low high good y span = omega arith
few_outside a (suc n) low high good y span =
    let ih = few_outside (a + 1) n low high good y (λ q h. span q (omega arith)) in let here = span a (omega arith) in grind (arith, nat_tests)

-- so their midpoint lies in it
pub midpoint_within : (c : Cluster) (good : ℕ → Bool) (y : ℕ → ℕ) (low high : ℕ) → FewBad c good →
    ((q : ℕ) → q < c.nodes → good q ≡ true → (low ≤ y q) × (y q ≤ high)) →
    (low ≤ midpoint c.faults (map y (range_with_len 0 c.nodes))) × (midpoint c.faults (map y (range_with_len 0 c.nodes)) ≤ high)
midpoint_within c good y low high few span =
    let out = few_outside 0 c.nodes low high good y (λ q h. span q (omega arith)) in
    let long = length-map-range_with_len y 0 c.nodes in
    holds c.faults low high (map y (range_with_len 0 c.nodes)) (omega (arith, c.tolerated)) (omega (arith, few))

-- the reading that stands at place i in rising order, of n nodes
abbrev pub at_place : ℕ → (ℕ → ℕ) → ℕ → ℕ
at_place n y i = get_or (sorted (map y (range_with_len 0 n))) i 0

-- no more than i readings are below it, and no more than stand behind it above
module _ (n : ℕ) (y : ℕ → ℕ) (i : ℕ) (h : i < n) where
  below : count (λ r. ltb (y r) (at_place n y i)) (range_with_len 0 n) ≤ i
  below =
      let each = count_map (λ x. ltb x (at_place n y i)) y (range_with_len 0 n) in
      omega (arith, below_place (map y (range_with_len 0 n)) i, length-map-range_with_len y 0 n)

  above : count (λ r. ltb (at_place n y i) (y r)) (range_with_len 0 n) + i < n
  above =
      let each = count_map (ltb (at_place n y i)) y (range_with_len 0 n) in
      omega (arith, above_place (map y (range_with_len 0 n)) i, length-map-range_with_len y 0 n)

-- there is a node that is not bad, and that the one list does not have below its place i, nor the other above its place j
pub shared : (n : ℕ) (bad : ℕ → Bool) (y z : ℕ → ℕ) (i j : ℕ) → i + count bad (range_with_len 0 n) ≤ j → j < n →
    (r : ℕ) × (r < n) × (bad r ≡ false) × (at_place n y i ≤ y r) × (z r ≤ at_place n z j)
shared n bad y z i j h k =
    let low : ℕ → Bool = λ r. ltb (y r) (at_place n y i) in
    let high : ℕ → Bool = λ r. ltb (at_place n z j) (z r) in
    let (r, l, t) = let_through bad low high 0 n (omega (arith, below n y i (omega arith), above n z j k)) in
    (r, omega arith, grind (arith, nat_tests), grind (arith, nat_tests), grind (arith, nat_tests))
