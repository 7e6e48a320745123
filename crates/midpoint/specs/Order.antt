-- Readings in rising order, and how many of them pass a test. Assumes nothing: these are definitions.
use Rattle.std.specs.Prelude.{◌≡◌, ℕ, ◌+◌, ◌<◌, ◌≤◌, Bool, cond, List, [], ◌∷◌, length, nat_eq, nat_le, slice_index}

-- a number put into a list in rising order, before the first that is not smaller
unfoldable pub insert : ℕ → List ℕ → List ℕ
insert x [] = x ∷ []
insert x (y ∷ ys) = cond (nat_le x y) (x ∷ y ∷ ys) (y ∷ insert x ys)

-- the list in rising order
unfoldable pub sorted : List ℕ → List ℕ
sorted [] = []
sorted (x ∷ xs) = insert x (sorted xs)

-- how many numbers of the list pass the test
unfoldable pub count : (ℕ → Bool) → List ℕ → ℕ
count test [] = 0
count test (x ∷ xs) = cond (test x) 1 0 + count test xs

-- no number stands before a smaller one
abbrev pub Rising : List ℕ → Type 0
Rising xs = (i j : ℕ) → i ≤ j → j < length xs → slice_index xs i ≤ slice_index xs j

-- each number stands in the one list as often as in the other
abbrev pub SameNumbers : List ℕ → List ℕ → Type 0
SameNumbers xs ys = (x : ℕ) → count (nat_eq x) xs ≡ count (nat_eq x) ys
