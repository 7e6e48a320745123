-- Sorting keeps the numbers and puts them in rising order, and no other list does. Assumes nothing.
use Rattle.std.proofs.Common.{◌≡◌, ℕ, zero, suc, ◌+◌, ◌<◌, ◌≤◌, Bool, true, false, cond, eqb, List, [], ◌∷◌, length, get_or, sym, refl, ap, ◌∙◌, inl, inr, arith}
use Rattle.std.proofs.lemmas.Bool.{cases_order, eq-eqb, ne_eqb}
use Rattle.std.proofs.lemmas.Bool.Decides.{nat_tests}
use Rattle.std.proofs.lemmas.List.Sums.{sum_by-le, count_by-le-length}
use Rattle.std.proofs.lemmas.List.Recursion.{is_sum_by}
use Rattle.std.specs.List.{All, count_by}
use Rattle.std.proofs.lemmas.List.Sorted.{sum_by-IsPermutation}
use Rattle.std.specs.List.Sorted.{IsPermutation}
use Rattle.midpoint.specs.Order.{insert, sorted, count, Rising, SameNumbers}

-- in rising order, and nothing below m
abbrev pub Rises : ℕ → List ℕ → Type 0
Rises m [] = Unit {0}
Rises m (x ∷ xs) = (m ≤ x) × Rises x xs

-- std's count is the same number
pub count_is : (test : ℕ → Bool) (xs : List ℕ) → count test xs ≡ count_by test xs
unfolding count
count_is test xs = is_sum_by (count test) (λ x. cond (test x) 1 0) refl (λ x xs. refl) xs

pub count_le : (test : ℕ → Bool) (xs : List ℕ) → count test xs ≤ length xs
count_le test xs = rw (count_is test xs) (count_by-le-length test xs)

-- a test that none of a list passes
pub count_none : (test : ℕ → Bool) (xs : List ℕ) → All (λ x. test x ≡ false) xs → count test xs ≡ 0
count_none test xs fails =
    let none = sum_by-le (λ x. cond (test x) 1 0) 0 xs (λ i d h. let e = fails i d h in rw e (omega arith)) in omega (arith, count_is test xs)

-- a list whose elements have changed places has the same numbers
pub count_shuffled : (test : ℕ → Bool) (xs ys : List ℕ) → IsPermutation xs ys → count test ys ≡ count test xs
count_shuffled test xs ys moved =
    count_is test ys ∙ sum_by-IsPermutation (λ x. cond (test x) 1 0) xs ys moved ∙ sym (count_is test xs)

insert-count : (test : ℕ → Bool) (x : ℕ) (xs : List ℕ) → count test (insert x xs) ≡ cond (test x) 1 0 + count test xs
unfolding insert count
insert-count test x [] = refl
insert-count test x (y ∷ ys) = let ih = insert-count test x ys in grind (arith, nat_tests)

-- sorting leaves out nothing and adds nothing
pub sorted-count : (test : ℕ → Bool) (xs : List ℕ) → count test (sorted xs) ≡ count test xs
unfolding sorted count
sorted-count test [] = refl
sorted-count test (x ∷ xs) = omega (arith, insert-count test x (sorted xs), sorted-count test xs)

all_pass : (xs : List ℕ) → count (λ _. true) xs ≡ length xs
unfolding count
all_pass [] = refl
all_pass (x ∷ xs) = omega (arith, all_pass xs)

pub sorted-length : (xs : List ℕ) → length (sorted xs) ≡ length xs
sorted-length xs = sym (all_pass (sorted xs)) ∙ sorted-count (λ _. true) xs ∙ all_pass xs

-- and leaves it in rising order
insert_rises : (m x : ℕ) (xs : List ℕ) → m ≤ x → Rises m xs → Rises m (insert x xs)
unfolding insert
insert_rises m x [] h r = (h, tt)
insert_rises m x (y ∷ ys) h r = let ih : y ≤ x → Rises y (insert x ys) = λ k. insert_rises y x ys k r.1 in grind (arith, nat_tests)

pub sorted_rises : (xs : List ℕ) → Rises 0 (sorted xs)
unfolding sorted
sorted_rises [] = tt
sorted_rises (x ∷ xs) = insert_rises 0 x (sorted xs) (omega arith) (sorted_rises xs)

pub at_least : (m : ℕ) (xs : List ℕ) (i d : ℕ) → Rises m xs → i < length xs → m ≤ get_or xs i d
at_least m [] i d r h = omega arith
at_least m (x ∷ xs) zero d r h = r.0
at_least m (x ∷ xs) (suc i) d r h = omega (arith, at_least x xs i d r.1, r.0)

-- the two ways to say that a list rises
pub rising_from_rises : (m : ℕ) (xs : List ℕ) → Rises m xs → Rising xs
rising_from_rises m [] r i j le h = omega arith
rising_from_rises m (x ∷ xs) r zero j le h = at_least x (x ∷ xs) j 0 (omega arith, r.1) h
rising_from_rises m (x ∷ xs) r (suc i) zero le h = omega arith
rising_from_rises m (x ∷ xs) r (suc i) (suc j) le h = rising_from_rises x xs r.1 i j (omega arith) (omega arith)

pub rises_from_rising : (m : ℕ) (xs : List ℕ) → ((i : ℕ) → i < length xs → m ≤ get_or xs i 0) → Rising xs → Rises m xs
rises_from_rising m [] low up = tt
rises_from_rising m (x ∷ xs) low up = (
  low 0 (omega arith),
  rises_from_rising x xs (λ i h. up 0 (suc i) (omega arith) (omega arith)) (λ i j le h. up (suc i) (suc j) (omega arith) (omega arith)),
)

first_not_below : (x m : ℕ) (xs : List ℕ) (y : ℕ) (ys : List ℕ) → Rises m (y ∷ ys) → SameNumbers (x ∷ xs) (y ∷ ys) → x < y → ⊥
unfolding count
first_not_below x m xs y ys r same h =
    let none = count_none (eqb x) (y ∷ ys) (λ i d k. ne_eqb x _ (λ e. omega (arith, at_least y (y ∷ ys) i d (omega arith, r.1) k))) in
    let here = eq-eqb x x refl in
    let both = same x in
    grind (arith, nat_tests)

-- two lists that rise and have the same numbers are the same list
pub same_rises : (m n : ℕ) (xs ys : List ℕ) → Rises m xs → Rises n ys → SameNumbers xs ys → xs ≡ ys
unfolding count
same_rises m n [] [] r s same = refl
same_rises m n [] (y ∷ ys) r s same = let here = eq-eqb y y refl in let at = same y in absurd (grind (arith, nat_tests))
same_rises m n (x ∷ xs) [] r s same = let here = eq-eqb x x refl in let at = same x in absurd (grind (arith, nat_tests))
same_rises m n (x ∷ xs) (y ∷ ys) r s same =
    elim (cases_order x y) [
      | inl e ↦
          let rest : SameNumbers xs ys = λ z. let at = same z in let each = ap (eqb z) e in grind (arith, nat_tests) in
          let tail = same_rises x y xs ys r.1 s.1 rest in
          cc
      | inr (inl h) ↦ absurd (first_not_below x n xs y ys s same h)
      | inr (inr h) ↦ absurd (first_not_below y m ys x xs r (λ z. sym (same z)) h)
    ]

-- so a list that rises and has the numbers of another is that one sorted
pub sorted_is : (xs ys : List ℕ) → Rising ys → SameNumbers ys xs → ys ≡ sorted xs
sorted_is xs ys up same = same_rises 0 0 ys (sorted xs) (rises_from_rising 0 ys (λ i h. omega arith) up) (sorted_rises xs) (λ z. same z ∙ sym (sorted-count (eqb z) xs))
