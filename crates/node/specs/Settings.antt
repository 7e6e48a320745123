-- What the setting of good nodes' clocks makes of them, from any clocks and whatever the faulty nodes do. Each statement is demanded by the contract of a
-- function of src/theorems.rt. Assumes nothing.
use Rattle.std.specs.Prelude.{◌≡◌, ℕ, suc, ◌+◌, ◌/◌, ◌<◌, ◌≤◌, Bool, List, length, ℤ, pos, ◌+ℤ◌, ◌≤ℤ◌, Option, ◌≢◌}
use Rattle.midpoint.specs.Setting.{clock_limit}
use Rattle.clock.specs.Config.{error_of}
use Rattle.clock.specs.Rounds.{Moment, ahead, lead, Within, GoodNode, FewBad, Apart, read_by}
use Rattle.clock.specs.Theorems.{rest_of}
use Rattle.schedule.specs.declared.limits.Schedule.{Schedule}
use Rattle.relay.specs.Tables.{table_length_of}
use Rattle.node.specs.Ending.{Ends}
use Rattle.node.specs.Runs.{Run, on_bus, Lawful, Started}
use Rattle.node.specs.declared.state.Node.{Node}

-- The call that ends a round, with tables as long as the cluster needs, and at a time that is not earlier than the last one. It does what its contract says.
pub record EndedAt (s : Schedule) (before : Node) (time : ℕ) (after : Node) : Type 0 where
  pub value : ℕ
  pub first : List ℕ
  pub second : List ℕ
  pub first_after : List ℕ
  pub second_after : List ℕ
  pub first_fits : length first ≡ table_length_of s.cluster
  pub second_fits : length second ≡ table_length_of s.cluster
  pub later : before.clock.shown ≤ time
  pub ends : Ends before time value first second after first_after second_after

-- what nodes heard in a round, as the setting is handed it
abbrev pub heard_by : (ℕ → Node) → ℕ → List (Option ℤ)
heard_by nodes p = (nodes p).heard

-- One round of good nodes, from its end to the end of the next, as in the crate `clock`: `ends` and `next` have each good clock at the two, each at a moment of
-- its own. The clock is set by the node's own call, with what the node heard, which is anything for the faulty ones. Asked is that a good node reads other good ones
-- rightly up to the error, that no reading comes to the limit, and that clocks then run off by no more than the drift. It is not asked that a call is taken.
pub record RoundSet (s : Schedule) (good : ℕ → Bool) (before after : ℕ → Node) (ends next : ℕ → Moment) : Type 0 where
  pub config : (p : ℕ) → GoodNode s.cluster good p → (before p).schedule ≡ s
  pub own : (p : ℕ) → GoodNode s.cluster good p → (before p).own ≡ p
  pub over : (p : ℕ) → GoodNode s.cluster good p → EndedAt s (before p) (ends p).clock.shown (after p)
  pub fair :
      (p q : ℕ) → GoodNode s.cluster good p → GoodNode s.cluster good q → (p ≢ q) →
      Within (error_of s.cluster) (ahead (ends p) (read_by ends (heard_by before) p q)) (lead (ends q))
  pub readable : (p q : ℕ) → GoodNode s.cluster good p → q < s.cluster.nodes → read_by ends (heard_by before) p q < clock_limit
  pub runs : (p : ℕ) → GoodNode s.cluster good p → Within s.cluster.drift (lead (next p)) (ahead (ends p) (after p).clock.shown)

-- Whatever good clocks are apart, the setting halves it, up to a rest.
abbrev pub SetsCloser : Type 0
SetsCloser =
    (s : Schedule) (good : ℕ → Bool) (before after : ℕ → Node) (ends next : ℕ → Moment) (d : ℕ) → FewBad s.cluster good →
    RoundSet s good before after ends next → Apart s.cluster good d ends → Apart s.cluster good (d / 2 + rest_of s.cluster) next

-- Nobody is pulled out: a good clock is then between what good clocks spanned, but for the error and the drift.
abbrev pub SetsBetween : Type 0
SetsBetween =
    (s : Schedule) (good : ℕ → Bool) (before after : ℕ → Node) (ends next : ℕ → Moment) (low high : ℤ) → FewBad s.cluster good →
    RoundSet s good before after ends next →
    ((q : ℕ) → GoodNode s.cluster good q → (low ≤ℤ lead (ends q)) × (lead (ends q) ≤ℤ high)) →
    (p : ℕ) → GoodNode s.cluster good p →
    (low ≤ℤ (lead (next p) +ℤ pos (error_of s.cluster + s.cluster.drift))) × (lead (next p) ≤ℤ (high +ℤ pos (error_of s.cluster + s.cluster.drift)))

-- And what this asks is met in each round of a run, whatever the faulty nodes do, up to the moment at which the clocks are set.
abbrev pub RunsAreSet : Type 0
RunsAreSet =
    (s : Schedule) (good : ℕ → Bool) (rounds : ℕ) (r : Run) → FewBad s.cluster good → Lawful s good rounds r → Started s good r → (k : ℕ) → k < rounds →
    RoundSet s good (λ p. r.node k p s.cluster.nodes) (λ p. r.node (suc k) p 0) ((on_bus s r).ends k) ((on_bus s r).starts (suc k))
