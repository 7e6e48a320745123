-- How many numbers of a list lie below or above the one at a place in rising order, and what that makes of the midpoint. Assumes nothing.
use Rattle.std.proofs.Common.{◌≡◌, ℕ, zero, suc, ◌+◌, ◌-◌, ◌<◌, ◌≤◌, Bool, true, false, not, ltb, List, [], ◌∷◌, length, get_or, refl, sym, ap, ◌∙◌, inl, inr, arith}
use Rattle.std.proofs.lemmas.List.Sums.{prefix_len_passes}
use Rattle.std.proofs.lemmas.Bool.Decides.{nat_tests}
use Rattle.std.proofs.lemmas.Bool.{cases_lt, le-ltb}
use Rattle.std.specs.List.{prefix_len, AllByRecursion}
use Rattle.midpoint.specs.Order.{sorted, count}
use Rattle.midpoint.specs.Setting.{clock_limit, shown}
use Rattle.midpoint.specs.Theorems.{Sorts, Trims, OrderFree, Holds, StaysShown, outside}
use Rattle.midpoint.proofs.Sorting.{Rises, sorted-count, sorted-length, sorted_rises, sorted_is, at_least, count_le, count_none, rising_from_rises}

pub sorts : Sorts
sorts xs = (rising_from_rises 0 (sorted xs) (sorted_rises xs), λ x. sorted-count _ xs, sorted_is xs)

pub order_free : OrderFree
order_free f xs ys same =
    let (rises, numbers, _) = sorts xs in
    let e : sorted xs ≡ sorted ys = sorted_is ys (sorted xs) rises (λ x. numbers x ∙ same x) in
    let l : length xs ≡ length ys = sym (sorted-length xs) ∙ ap length e ∙ sorted-length ys in
    rw (e, l)

-- in a list that rises no more than i numbers lie below the one at i
pub few_below : (m : ℕ) (xs : List ℕ) (i : ℕ) → Rises m xs → i < length xs → count (λ x. ltb x (get_or xs i 0)) xs ≤ i
unfolding count
few_below m [] i r h = omega arith
few_below m (x ∷ xs) zero r h = let none = count_none (λ y. ltb y x) xs (λ i d l. le-ltb _ x (at_least x xs i d r.1 l)) in grind (arith, nat_tests)
few_below m (x ∷ xs) (suc i) r h = let ih = few_below x xs i r.1 (omega arith) in grind (arith, nat_tests)

-- and above it no more than stand behind it
pub few_above : (m : ℕ) (xs : List ℕ) (i : ℕ) → Rises m xs → i < length xs → count (ltb (get_or xs i 0)) xs + i < length xs
unfolding count
few_above m [] i r h = omega arith
few_above m (x ∷ xs) zero r h = let all = count_le (ltb x) xs in grind (arith, nat_tests)
few_above m (x ∷ xs) (suc i) r h =
    let ih = few_above x xs i r.1 (omega arith) in let k = at_least x xs i 0 r.1 (omega arith) in grind (arith, nat_tests)

-- so it is with a list of which the place is taken in rising order
pub below_place : (xs : List ℕ) (i : ℕ) → i < length xs → count (λ x. ltb x (get_or (sorted xs) i 0)) xs ≤ i
below_place xs i h =
    omega (arith, few_below 0 (sorted xs) i (sorted_rises xs), sorted-count (λ x. ltb x (get_or (sorted xs) i 0)) xs, sorted-length xs)

pub above_place : (xs : List ℕ) (i : ℕ) → i < length xs → count (ltb (get_or (sorted xs) i 0)) xs + i < length xs
above_place xs i h =
    omega (arith, few_above 0 (sorted xs) i (sorted_rises xs), sorted-count (ltb (get_or (sorted xs) i 0)) xs, sorted-length xs)

pub trims : Trims
trims f xs =
    let top = length xs - 1 - f in
    elim (cases_lt f (length xs)) [
      | inl h ↦ (below_place xs f h, omega (arith, above_place xs top (omega arith)))
      | inr h ↦ (omega (arith, count_le (λ x. ltb x (get_or (sorted xs) f 0)) xs), omega (arith, count_le (ltb (get_or (sorted xs) top 0)) xs))
    ]

-- where each number passes one of two tests, the two counts come to all
all_pass_one : (a b : ℕ → Bool) (xs : List ℕ) → ((x : ℕ) → a x ≡ false → b x ≡ true) → length xs ≤ count a xs + count b xs
unfolding count
all_pass_one a b [] one = omega arith
all_pass_one a b (x ∷ xs) one = let ih = all_pass_one a b xs one in let here = one x in grind (arith, nat_tests)

-- a test that passes where another one does counts no fewer
pub count_over : (a b : ℕ → Bool) (xs : List ℕ) → AllByRecursion (λ x. a x ≡ true → b x ≡ true) xs → count a xs ≤ count b xs
unfolding count
count_over a b [] imp = omega arith
count_over a b (x ∷ xs) (here, rest) = let ih = count_over a b xs rest in grind (arith, nat_tests)

-- what passes a test and what fails it are all
pub count_rest : (test : ℕ → Bool) (xs : List ℕ) → count test xs + count (λ x. not (test x)) xs ≡ length xs
unfolding count
count_rest test [] = refl
count_rest test (x ∷ xs) = let ih = count_rest test xs in grind (arith, nat_tests)

-- a place that has at least f numbers before it and f behind it has a number within the span that at most f numbers are outside of
module _ (f low high : ℕ) (xs : List ℕ) (few : outside low high xs ≤ f) (i : ℕ) (before : f ≤ i) (behind : i + f < length xs) where
  abbrev here : ℕ
  here = get_or (sorted xs) i 0

  within : (low ≤ here) × (here ≤ high)
  within =
      let under : here < low → length xs ≤ count (ltb here) xs + outside low high xs = λ h. all_pass_one _ _ xs (λ x e. grind (arith, nat_tests)) in
      let over : high < here → length xs ≤ count (λ x. ltb x here) xs + outside low high xs = λ h. all_pass_one _ _ xs (λ x e. grind (arith, nat_tests)) in
      let above = above_place xs i (omega arith) in
      let below = below_place xs i (omega arith) in
      (grind arith, grind arith)

pub holds : Holds
holds f low high xs h few =
    let (a, b) = within f low high xs few f (omega arith) (omega arith) in
    let (d, e) = within f low high xs few (length xs - 1 - f) (omega arith) (omega arith) in
    (omega arith, omega arith)

-- readings that a clock can show do not lie outside of what clocks show
pub stays_shown : StaysShown
stays_shown f time xs (taken, e) =
    let all : length xs ≤ prefix_len shown xs = grind (arith, nat_tests) in
    let none : outside 0 (clock_limit - 1) xs ≡ 0 =
    count_none _ xs (λ i d h. let s = prefix_len_passes shown xs i d (omega arith) in grind (arith, nat_tests)) in
    let (l, h) = holds f 0 (clock_limit - 1) xs (grind (arith, nat_tests)) (omega arith) in
    omega arith
