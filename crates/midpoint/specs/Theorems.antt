-- What is proved of the midpoint. Each statement is demanded by the contract of a function of src/theorems.rt. Assumes nothing.
use Rattle.std.specs.Prelude.{◌≡◌, ℕ, ◌+◌, ◌*◌, ◌<◌, ◌≤◌, not, ◌&&◌, List, [], ◌∷◌, map, length, Ok, Result, nat_le, nat_lt}
use Rattle.std.specs.List.{AllByRecursion}
use Rattle.midpoint.specs.Order.{sorted, count, Rising, SameNumbers}
use Rattle.midpoint.specs.Midpoint.{lower, upper, midpoint}
use Rattle.midpoint.specs.Setting.{SetSays, clock_limit}
use Rattle.midpoint.specs.declared.refusal.Refusal.{Refusal}

-- The sorted list rises, has the same numbers, and is the only list of which both are so.
abbrev pub Sorts : Type 0
Sorts =
    (xs : List ℕ) → Rising (sorted xs) × SameNumbers (sorted xs) xs × ((ys : List ℕ) → Rising ys → SameNumbers ys xs → ys ≡ sorted xs)

-- No more than f readings are below the lower of the two that the midpoint is taken of, and no more than f above the upper one.
abbrev pub Trims : Type 0
Trims = (f : ℕ) (xs : List ℕ) → (count (λ x. nat_lt x (lower f xs)) xs ≤ f) × (count (nat_lt (upper f xs)) xs ≤ f)

-- The midpoint does not depend on the order of the readings.
abbrev pub OrderFree : Type 0
OrderFree = (f : ℕ) (xs ys : List ℕ) → SameNumbers xs ys → midpoint f xs ≡ midpoint f ys

-- Readings that are all later by d give a midpoint that is later by d.
abbrev pub later : ℕ → List ℕ → List ℕ
later d xs = map (λ x. x + d) xs

abbrev pub Shifts : Type 0
Shifts = (f d : ℕ) (xs : List ℕ) → f < length xs → midpoint f (later d xs) ≡ midpoint f xs + d

-- What a liar cannot break: if at most f readings lie outside of a span, and the readings are more than twice f, the midpoint lies in the span.
abbrev pub outside : ℕ → ℕ → List ℕ → ℕ
outside low high xs = count (λ x. not (nat_le low x && nat_le x high)) xs

abbrev pub Holds : Type 0
Holds = (f low high : ℕ) (xs : List ℕ) → 2 * f < length xs → outside low high xs ≤ f → (low ≤ midpoint f xs) × (midpoint f xs ≤ high)

-- With readings that are just twice f it is not so: of 0 and 10, where one may be a lie, the midpoint is not 10. With one more it is.
abbrev pub NeedsMore : Type 0
NeedsMore =
    (outside 10 10 (0 ∷ 10 ∷ []) ≡ 1) × (midpoint 1 (0 ∷ 10 ∷ []) ≡ 5)
    × (outside 10 10 (0 ∷ 10 ∷ 10 ∷ []) ≡ 1) × (midpoint 1 (0 ∷ 10 ∷ 10 ∷ []) ≡ 10)

-- What the contract of `set_clock` allows for an input is one answer and no other.
abbrev pub OneAnswer : Type 0
OneAnswer = (faults : ℕ) (readings : List ℕ) (r s : Result ℕ Refusal) → SetSays faults readings r → SetSays faults readings s → r ≡ s

-- A clock is only set to a time that a clock can show.
abbrev pub StaysShown : Type 0
StaysShown = (faults time : ℕ) (readings : List ℕ) → SetSays faults readings (Ok time) → time < clock_limit

-- Cases worked out by hand.
pub record Case : Type 0 where
  pub faults : ℕ
  pub readings : List ℕ
  pub middle : ℕ

abbrev pub cases : List Case
cases =
    record { faults = 1; readings = 100 ∷ 104 ∷ 97 ∷ 900 ∷ []; middle = 102 }
    ∷ record { faults = 1; readings = 5 ∷ 5 ∷ 5 ∷ 0 ∷ []; middle = 5 }
    ∷ record { faults = 2; readings = 10 ∷ 12 ∷ 14 ∷ 16 ∷ 18 ∷ 0 ∷ 99 ∷ []; middle = 14 }
    ∷ record { faults = 0; readings = 7 ∷ []; middle = 7 }
    ∷ record { faults = 1; readings = 3 ∷ 8 ∷ 9 ∷ 100 ∷ 1 ∷ []; middle = 6 }
    ∷ []

abbrev pub Worked : Type 0
Worked = AllByRecursion (λ c. midpoint c.faults c.readings ≡ c.middle) cases
