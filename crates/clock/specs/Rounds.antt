-- Rounds of a cluster of which some nodes are faulty, as the good clocks go through them. Assumes nothing: these are definitions.
use Rattle.std.specs.Prelude.{◌≡◌, ℕ, suc, ◌<◌, ◌≤◌, Bool, true, not, List, ℤ, pos, ◌+ℤ◌, ◌-ℤ◌, ◌≤ℤ◌, Option, ◌≢◌}
use Rattle.std.specs.List.{range_with_len}
use Rattle.midpoint.specs.Order.{count}
use Rattle.midpoint.specs.Setting.{clock_limit}
use Rattle.clock.specs.Config.{error_of}
use Rattle.clock.specs.Setting.{reads, SetBy}
use Rattle.clock.specs.declared.limits.Clock.{Clock}
use Rattle.clock.specs.declared.limits.Cluster.{Cluster}

-- a clock at a moment of common time, which no node knows
pub record Moment : Type 0 where
  pub common : ℕ
  pub clock : Clock

-- how far a time that is shown or read at a moment is ahead of common time, below 0 where it is behind
abbrev pub ahead : Moment → ℕ → ℤ
ahead m time = pos time -ℤ pos m.common

abbrev pub lead : Moment → ℤ
lead m = ahead m m.clock.shown

-- no more than d apart, either way
abbrev pub Within : ℕ → ℤ → ℤ → Type 0
Within d a b = (a ≤ℤ (b +ℤ pos d)) × (b ≤ℤ (a +ℤ pos d))

-- a node of n that is good, and how many of them are faulty
abbrev pub Good : ℕ → (ℕ → Bool) → ℕ → Type 0
Good n good p = (p < n) × (good p ≡ true)

abbrev pub faulty : ℕ → (ℕ → Bool) → ℕ
faulty n good = count (λ q. not (good q)) (range_with_len 0 n)

-- a node of the cluster that is good; no more are not than may be faulty
abbrev pub GoodNode : Cluster → (ℕ → Bool) → ℕ → Type 0
GoodNode c good p = Good c.nodes good p

abbrev pub FewBad : Cluster → (ℕ → Bool) → Type 0
FewBad c good = faulty c.nodes good ≤ c.faults

-- good clocks are no more than d apart
abbrev pub Apart : Cluster → (ℕ → Bool) → ℕ → (ℕ → Moment) → Type 0
Apart c good d m = (p q : ℕ) → GoodNode c good p → GoodNode c good q → lead (m p) ≤ℤ (lead (m q) +ℤ pos d)

-- what a good node p reads of node q at the end of a round, of what it heard of each node
abbrev pub read_by : (ℕ → Moment) → (ℕ → List (Option ℤ)) → ℕ → ℕ → ℕ
read_by m heard p q = reads p (m p).clock.shown (heard p) q

-- One round, from its end to the end of the next: `before` has each good clock as its round ends, and `after` as the next one does, each at a
-- moment of its own. What was heard of the faulty nodes is anything, for each node something else. Asked is that a good node reads other good
-- ones rightly up to the error, and that no reading comes to the limit. Then the good nodes set their clocks, and these run off by no more than
-- the drift.
pub record Round (c : Cluster) (good : ℕ → Bool) (heard : ℕ → List (Option ℤ)) (before after : ℕ → Moment) : Type 0 where
  pub fair :
      (p q : ℕ) → GoodNode c good p → GoodNode c good q → (p ≢ q) →
      Within (error_of c) (ahead (before p) (read_by before heard p q)) (lead (before q))
  pub taken : (p q : ℕ) → GoodNode c good p → q < c.nodes → read_by before heard p q < clock_limit
  pub set : ℕ → Clock
  pub sets : (p : ℕ) → GoodNode c good p → SetBy c p (before p).clock (heard p) (set p)
  pub runs : (p : ℕ) → GoodNode c good p → Within c.drift (lead (after p)) (ahead (before p) (set p).shown)
  pub counts : (p : ℕ) → GoodNode c good p → (after p).clock.round ≡ (set p).round

-- k rounds, one after another
abbrev pub Rounds : Cluster → (ℕ → Bool) → (ℕ → ℕ → List (Option ℤ)) → (ℕ → ℕ → Moment) → ℕ → Type 0
Rounds c good heard m k = (j : ℕ) → j < k → Round c good (heard j) (m j) (m (suc j))
