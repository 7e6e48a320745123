-- What is proved of clocks, whatever the faulty nodes do. Each statement is demanded by the contract of a function of src/theorems.rt. Assumes
-- nothing.
use Rattle.std.specs.Prelude.{◌≡◌, ℕ, ◌+◌, ◌-◌, ◌*◌, ◌/◌, ◌^◌, ◌<◌, ◌≤◌, Bool, false, List, length, ℤ, pos, ◌+ℤ◌, ◌≤ℤ◌, ◌<ℤ◌, Some, None, Option, ◌≢◌, slice_index_or, unsigned_abs}
use Rattle.midpoint.specs.Setting.{clock_limit}
use Rattle.clock.specs.Config.{error_of, bound_of, width_of}
use Rattle.clock.specs.Deviation.{smallest_signed, largest_signed, deviation_of, moved, largest}
use Rattle.clock.specs.Rounds.{Moment, ahead, lead, Within, GoodNode, FewBad, Apart, read_by, Round, Rounds}
use Rattle.clock.specs.declared.limits.Cluster.{Cluster}

-- Good clocks that are within the bound are within it after any number of rounds.
abbrev pub StaysTogether : Type 0
StaysTogether =
    (c : Cluster) (good : ℕ → Bool) (heard : ℕ → ℕ → List (Option ℤ)) (m : ℕ → ℕ → Moment) (k : ℕ) → FewBad c good →
    Rounds c good heard m k → Apart c good (bound_of c) (m 0) → Apart c good (bound_of c) (m k)

-- And within a round they are no more than the width apart, each at any moment of it: since its last setting a clock ran off by no more than the
-- drift.
abbrev pub StaysInWidth : Type 0
StaysInWidth =
    (c : Cluster) (good : ℕ → Bool) (end within : ℕ → Moment) → Apart c good (bound_of c) end →
    ((p : ℕ) → GoodNode c good p → Within c.drift (lead (within p)) (lead (end p))) → Apart c good (width_of c) within

-- A round halves what they are apart, up to a rest.
abbrev pub rest_of : Cluster → ℕ
rest_of c = 2 * error_of c + 2 * c.drift + 1

abbrev pub Halves : Type 0
Halves =
    (c : Cluster) (good : ℕ → Bool) (heard : ℕ → List (Option ℤ)) (before after : ℕ → Moment) (d : ℕ) → FewBad c good →
    Round c good heard before after → Apart c good d before → Apart c good (d / 2 + rest_of c) after

-- So from any start they come together: within the bound but for a part that each round halves.
abbrev pub ComesTogether : Type 0
ComesTogether =
    (c : Cluster) (good : ℕ → Bool) (heard : ℕ → ℕ → List (Option ℤ)) (m : ℕ → ℕ → Moment) (k d : ℕ) → FewBad c good →
    Rounds c good heard m k → Apart c good d (m 0) → Apart c good (d / 2 ^ k + bound_of c) (m k)

-- Nobody is pulled out: a good clock comes out of a round between what good clocks span, but for the error and the drift.
abbrev pub StaysBetween : Type 0
StaysBetween =
    (c : Cluster) (good : ℕ → Bool) (heard : ℕ → List (Option ℤ)) (before after : ℕ → Moment) (low high : ℤ) → FewBad c good →
    Round c good heard before after →
    ((q : ℕ) → GoodNode c good q → (low ≤ℤ lead (before q)) × (lead (before q) ≤ℤ high)) →
    (p : ℕ) → GoodNode c good p →
    (low ≤ℤ (lead (after p) +ℤ pos (error_of c + c.drift))) × (lead (after p) ≤ℤ (high +ℤ pos (error_of c + c.drift)))

-- Good nodes that are in the same round are in the same round after any number of rounds, as long as rounds can be counted.
abbrev pub CountsTogether : Type 0
CountsTogether =
    (c : Cluster) (good : ℕ → Bool) (heard : ℕ → ℕ → List (Option ℤ)) (m : ℕ → ℕ → Moment) (k round : ℕ) → round + k ≤ largest →
    Rounds c good heard m k → ((p : ℕ) → GoodNode c good p → (m 0 p).clock.round ≡ round) →
    (p : ℕ) → GoodNode c good p → (m k p).clock.round ≡ round + k

-- The reading of a message is the own clock and the time at which the message was due to begin, less the time at which it began, and 0 where that
-- would be below 0. What does not fit into a deviation changes nothing of that for a clock below the limit: the reading is as said, or, as said and as read, it is turned away.
abbrev pub ReadsAsSaid : Type 0
ReadsAsSaid =
    (own due began : ℕ) → own < clock_limit →
    (own + due - began < clock_limit → moved own (deviation_of due began) ≡ own + due - began)
    × (clock_limit ≤ own + due - began → clock_limit ≤ moved own (deviation_of due began))

-- What the setting may be handed: for each of 16 nodes a deviation or nothing, and a deviation is a number of 64 bits with a sign.
abbrev pub IsSigned : Option ℤ → Type 0
IsSigned None = Unit {0}
IsSigned (Some deviation) = (smallest_signed ≤ℤ deviation) × (deviation ≤ℤ largest_signed)

pub record Handed (heard : List (Option ℤ)) : Type 0 where
  pub sixteen : length heard ≡ 16
  pub signed : (q : ℕ) → q < 16 → IsSigned (slice_index_or heard q None)

-- What a round asks can be met for 5 * 10^11 rounds, whatever the faulty nodes make each node read: for any lies that come less than 4 * 10^11
-- ahead there are rounds in which each good node heard them. More of both does not go with clocks below 10^12.
abbrev pub LieFits : Option ℤ → Type 0
LieFits None = Unit {0}
LieFits (Some deviation) = (smallest_signed ≤ℤ deviation) × (deviation <ℤ pos 400000000000)

pub record Possible (c : Cluster) (good : ℕ → Bool) (lies : ℕ → ℕ → ℕ → Option ℤ) (k : ℕ) : Type 0 where
  pub heard : ℕ → ℕ → List (Option ℤ)
  pub moments : ℕ → ℕ → Moment
  pub together : Apart c good (bound_of c) (moments 0)
  pub rounds : Rounds c good heard moments k
  pub handed : (j p : ℕ) → Handed (heard j p)
  pub lied : (j p q : ℕ) → q < c.nodes → good q ≡ false → slice_index_or (heard j p) q None ≡ lies j p q

abbrev pub CanBeRun : Type 0
CanBeRun =
    (c : Cluster) (good : ℕ → Bool) (lies : ℕ → ℕ → ℕ → Option ℤ) (k : ℕ) → FewBad c good → ((j p q : ℕ) → LieFits (lies j p q)) →
    k < 500000000000 → Possible c good lies k

-- And nothing of a round is chosen beforehand: from any good clocks that are some 10^9 apart at most, and far enough from 0 and from the limit, for
-- any errors of their readings, any lies, and any running off, as far as the cluster allows, there is such a round.
pub record Start (c : Cluster) (good : ℕ → Bool) (before : ℕ → Moment) : Type 0 where
  pub near : Apart c good 1000000000 before
  pub room : (p : ℕ) → GoodNode c good p → (10000000000 ≤ (before p).clock.shown) × ((before p).clock.shown ≤ 400000000000)

pub record Chosen
    (c : Cluster) (good : ℕ → Bool) (before : ℕ → Moment) (errors : ℕ → ℕ → ℤ) (lies : ℕ → ℕ → Option ℤ) (offs : ℕ → ℤ) : Type 0 where
  pub heard : ℕ → List (Option ℤ)
  pub after : ℕ → Moment
  pub round : Round c good heard before after
  pub handed : (p : ℕ) → GoodNode c good p → Handed (heard p)
  pub lied : (p q : ℕ) → q < c.nodes → good q ≡ false → slice_index_or (heard p) q None ≡ lies p q
  pub erred :
      (p q : ℕ) → GoodNode c good p → GoodNode c good q → (p ≢ q) →
      ahead (before p) (read_by before heard p q) ≡ lead (before q) +ℤ errors p q
  pub ran : (p : ℕ) → GoodNode c good p → lead (after p) ≡ ahead (before p) (round.set p).shown +ℤ offs p
  pub later : (p : ℕ) → GoodNode c good p → (before p).common < (after p).common

abbrev pub CanBeChosen : Type 0
CanBeChosen =
    (c : Cluster) (good : ℕ → Bool) (before : ℕ → Moment) (errors : ℕ → ℕ → ℤ) (lies : ℕ → ℕ → Option ℤ) (offs : ℕ → ℤ) → Start c good before →
    ((p q : ℕ) → unsigned_abs (errors p q) ≤ error_of c) → ((p q : ℕ) → LieFits (lies p q)) → ((p : ℕ) → unsigned_abs (offs p) ≤ c.drift) →
    Chosen c good before errors lies offs
