-- Readings that are all later by the same. Assumes nothing.
use Rattle.std.proofs.Common.{◌≡◌, ℕ, ◌+◌, ◌-◌, ◌<◌, List, [], ◌∷◌, length, get_or, refl, arith}
use Rattle.std.proofs.lemmas.List.{get_or-map, length-map}
use Rattle.std.proofs.lemmas.Bool.Decides.{nat_tests}
use Rattle.midpoint.specs.Order.{insert, sorted}
use Rattle.midpoint.specs.Theorems.{later, Shifts}
use Rattle.midpoint.proofs.Sorting.{sorted-length}

later-insert : (d x : ℕ) (xs : List ℕ) → insert (x + d) (later d xs) ≡ later d (insert x xs)
unfolding insert
later-insert d x [] = refl
later-insert d x (y ∷ ys) = let ih = later-insert d x ys in grind (arith, nat_tests)

later-sorted : (d : ℕ) (xs : List ℕ) → sorted (later d xs) ≡ later d (sorted xs)
unfolding sorted
later-sorted d [] = refl
later-sorted d (x ∷ xs) = rw (later-sorted d xs) (later-insert d x (sorted xs))

pub shifts : Shifts
shifts f d xs h =
    let l = sorted-length xs in
    let at : (i : ℕ) → i < length (sorted xs) → get_or (later d (sorted xs)) i 0 ≡ get_or (sorted xs) i 0 + d = λ i. get_or-map (λ x. x + d) (sorted xs) i 0 0 in
    rw (later-sorted d xs, length-map xs (λ x. x + d), at f (omega arith), at (length xs - 1 - f) (omega arith)) (omega arith)
