-- A loop that goes through a list and changes each element. Assumes nothing.
use Rattle.std.proofs.Common.{◌≡◌, ℕ, ◌<◌, ◌≤◌, List, get_or}

-- each element up to an index was changed as it should be, and the others are as they were
pub record Upto {A : Type 0} (other : A) (R : ℕ → A → A → Type 0) (count : ℕ) (old now : List A) : Type 0 where
  pub changed : (k : ℕ) → k < count → R k (get_or old k other) (get_or now k other)
  pub rest : (k : ℕ) → count ≤ k → get_or now k other ≡ get_or old k other
