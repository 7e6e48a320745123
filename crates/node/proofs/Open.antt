-- The slots that are still open in a round, where those of the first nodes are over. Assumes nothing.
use Rattle.std.proofs.Common.{◌≡◌, ℕ, zero, suc, ◌+◌, ◌<◌, ◌≤◌, Bool, true, false, not, nat_lt, [], Some, None, refl, ap, ◌∙◌, inl, inr, arith}
use Rattle.std.specs.List.{find, filter, range_with_len}
use Rattle.std.proofs.lemmas.Bool.{cases_eq, lt-ltb}
use Rattle.std.proofs.lemmas.Bool.Decides.{nat_tests}

-- the first number of a range that a test does not pass over
module _ (over : ℕ → Bool) (calls : ℕ) (passed : (q : ℕ) → over q ≡ nat_lt q calls) where
  is_over : (q : ℕ) → q < calls → not (over q) ≡ false
  is_over q h = ap not (passed q ∙ lt-ltb q calls h)

  is_open : (q : ℕ) → calls ≤ q → not (over q) ≡ true
  is_open q h = grind (arith, nat_tests, passed q, h)

  pub finds : (a m : ℕ) → a ≤ calls → calls < a + m → find (λ q. not (over q)) (range_with_len a m) ≡ Some calls
  finds a zero low high = absurd (omega (arith, low, high))
  finds a (suc m) low high =
      elim (cases_eq a calls) [
        | inl same ↦ rw (is_open a (omega (arith, same)), same) refl
        | inr differs ↦ rw (is_over a (grind (arith, differs, low))) (finds (a + 1) m (grind (arith, differs, low)) (omega (arith, high)))
      ]

  pub finds_none : (a m : ℕ) → a + m ≤ calls → find (λ q. not (over q)) (range_with_len a m) ≡ None
  finds_none a zero h = refl
  finds_none a (suc m) h = rw (is_over a (omega (arith, h))) (finds_none (a + 1) m (omega (arith, h)))

  pub none_left : (a m : ℕ) → a + m ≤ calls → filter (λ q. not (over q)) (range_with_len a m) ≡ []
  none_left a zero h = refl
  none_left a (suc m) h = rw (is_over a (omega (arith, h))) (none_left (a + 1) m (omega (arith, h)))
