-- How many values a frame carries. Assumes nothing.
use Rattle.std.proofs.Common.{◌≡◌, ℕ, zero, suc, ◌+◌, ◌-◌, ◌*◌, ◌≤◌, ◌<◌, arith}
use Rattle.std.proofs.lemmas.Nat.{mul-le, mod_below}
use Rattle.frame.specs.Layout.{paths_without_one, place_in_cycle, value_count_of}
use Rattle.frame.specs.declared.turn.Turn.{Turn}

-- more nodes have no fewer paths
more_nodes : (n m k : ℕ) → n ≤ m → paths_without_one n k ≤ paths_without_one m k
more_nodes n m zero h = omega arith
more_nodes n m (suc k) h = mul-le (paths_without_one n k) (n - suc k) (paths_without_one m k) (m - suc k) (more_nodes n m k h) (omega arith)

-- so there are no more paths of up to three nodes than of 16 nodes
up_to_three : (k : ℕ) → k ≤ 3 → paths_without_one 16 k ≤ 2730
up_to_three zero h = omega arith
up_to_three (suc zero) h = omega arith
up_to_three (suc (suc zero)) h = omega arith
up_to_three (suc (suc (suc zero))) h = omega arith
up_to_three (suc (suc (suc (suc k)))) h = absurd (omega arith)

at_most : (n k : ℕ) → n ≤ 16 → k ≤ 3 → paths_without_one n k ≤ 2730
at_most n k l h = omega (arith, more_nodes n 16 k l, up_to_three k h)

-- a path of fewer nodes than there are can be made longer
at_least_one : (n k : ℕ) → k < n → 1 ≤ paths_without_one n k
at_least_one n zero h = omega arith
at_least_one n (suc k) h = mul-le 1 1 (paths_without_one n k) (n - suc k) (at_least_one n k (omega arith)) (omega arith)

pub one_longer_at_most : (n k : ℕ) → n ≤ 16 → k + 1 ≤ 3 → paths_without_one n k * (n - k - 1) ≤ 2730
one_longer_at_most n k l h = let left : n - k - 1 ≡ n - suc k = omega arith in rw left (at_most n (suc k) l (omega arith))

-- so a frame carries at most so many values, and at least one
pub within_cycle : (t : Turn) → place_in_cycle t.cluster t.round ≤ t.cluster.faults
within_cycle t = omega (arith, mod_below t.round (t.cluster.faults + 1) (omega arith))

pub values_at_most : (t : Turn) → value_count_of t ≤ 2730
values_at_most t = at_most t.cluster.nodes (place_in_cycle t.cluster t.round) t.cluster.most (omega (arith, within_cycle t, t.cluster.few))

pub values_at_least_one : (t : Turn) → 1 ≤ value_count_of t
values_at_least_one t = at_least_one t.cluster.nodes (place_in_cycle t.cluster t.round) (omega (arith, within_cycle t, t.cluster.tolerated, t.cluster.enough))
