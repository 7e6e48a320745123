-- Values that differ are struck out of a list in pairs. Assumes nothing: these are definitions.
use Rattle.std.specs.Prelude.{◌≡◌, ℕ, ◌+◌, ◌*◌, ◌≤◌, List, length}
use Rattle.agreement.specs.Majority.{times}
use Rattle.agreement.specs.declared.most.Left.{Left}

-- What is left of a list: one value, so many times. The others went in pairs of two that differ, so that this value is no more than half of them, and each
-- other value is no more than half of them.
pub record IsLeftOf (values : List ℕ) (left : Left) : Type 0 where
  pub no_more : left.times ≤ length values
  pub this : 2 * times left.value values ≤ length values + left.times
  pub another : (value : ℕ) → (value ≡ left.value → ⊥) → 2 * times value values + left.times ≤ length values
