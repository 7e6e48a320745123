-- What holds of a round that was played, and of any number of them, whatever the script says of the bad nodes. Assumes nothing: these are definitions.
use Rattle.std.specs.Prelude.{◌≡◌, ℕ, suc, ◌+◌, ◌-◌, ◌/◌, ◌<◌, ◌≤◌, Bool, true, false, List, length, take, slice_index, slice_index_or, Some, None, ◌≢◌, replicate, unsigned_abs}
use Rattle.midpoint.specs.Setting.{clock_limit}
use Rattle.clock.specs.Config.{error_of, bound_of}
use Rattle.clock.specs.Deviation.{largest}
use Rattle.clock.specs.Rounds.{FewBad}
use Rattle.clock.specs.Theorems.{rest_of}
use Rattle.frame.specs.Layout.{place_in_cycle}
use Rattle.frame.specs.declared.turn.TheConstants.{MAX_FRAME_LENGTH}
use Rattle.relay.specs.Nodes.{among}
use Rattle.relay.specs.Tables.{table_length_of}
use Rattle.agreement.specs.Cycles.{Begun, Entering}
use Rattle.node.specs.Nodes.{read_in, results_in}
use Rattle.script.specs.Rounds.{only_message, jitter_of, drift_of}
use Rattle.script.specs.declared.round.Message.{Message}
use Rattle.script.specs.declared.round.Round.{Round}
use Rattle.cluster.specs.Playing.{player, span_of, has_ended_cycle, PlaysAll, SeenIn}
use Rattle.cluster.specs.Playing.PlaysAll.{no_more, one_first}
use Rattle.cluster.specs.declared.station.Came.{Came}
use Rattle.cluster.specs.declared.station.Came.TheVariants as came
use Rattle.cluster.specs.declared.station.Station.{Station}
use Rattle.cluster.specs.declared.bus.Player.{Player}
use Rattle.cluster.specs.declared.bus.Player.TheVariants.{Bad, Good}
use Rattle.cluster.specs.declared.bus.Bus.{Bus}

-- which nodes are good, and one of the cluster's that is
abbrev pub is_good : Player → Bool
is_good Bad = false
is_good (Good station) = true

abbrev pub good_in : Bus → ℕ → Bool
good_in b p = is_good (player b p)

abbrev pub Shows : Bus → ℕ → Station → Type 0
Shows b p station = (p < b.schedule.cluster.nodes) × (player b p ≡ Good station)

-- A good node is in the round that the cluster is in: it has its number and the cluster's schedule, counts this round, has heard nothing of it yet, and its tables
-- have the length that is needed.
pub record InRound (b : Bus) (p : ℕ) (station : Station) : Type 0 where
  pub its_schedule : station.node.schedule ≡ b.schedule
  pub its_own : station.node.own ≡ p
  pub counts : station.node.clock.round ≡ b.round
  pub its_over : (q : ℕ) → among station.node.over q ≡ false
  pub its_heard : station.node.heard ≡ replicate 16 None
  pub later : station.node.clock.shown ≤ station.time
  pub first_fits : length station.first.items ≡ table_length_of b.schedule.cluster
  pub second_fits : length station.second.items ≡ table_length_of b.schedule.cluster
  pub sixteen : length station.came ≡ 16

-- In each round of its cycle so far a good node entered of each node some values, and of a good one what that one told from its table (`Entering`).
pub record InCycle (b : Bus) : Type 0 where
  pub tables : ℕ → ℕ → List ℕ
  pub begun : (p : ℕ) (a : Station) → Shows b p a → Begun b.schedule.cluster a.value (tables 0 p)
  pub rounds :
      (k p : ℕ) (a : Station) → k < place_in_cycle b.schedule.cluster b.round → Shows b p a →
      Entering b.schedule.cluster (good_in b) (b.round - place_in_cycle b.schedule.cluster b.round + k) (tables k) (tables (suc k) p)
  pub now :
      (p : ℕ) (a : Station) → Shows b p a →
      tables (place_in_cycle b.schedule.cluster b.round) p ≡ read_in b.round a.first.items a.second.items

-- All good nodes are in step.
pub record InStep (b : Bus) : Type 0 where
  pub nodes : (p : ℕ) (a : Station) → Shows b p a → InRound b p a
  pub room : MAX_FRAME_LENGTH ≤ length b.memory.items
  pub cycle : InCycle b

-- A round in which the script keeps the cluster's limits: no more bad nodes than it allows; good nodes read each other wrong by no more than the error, and run off by
-- no more than the drift; no good clock comes to the limit by the end of the next round, nor does what a bad node has one read; and common time and the round stay
-- below 2^64.
pub record KeepsLimits (b : Bus) (r : Round) : Type 0 where
  pub few : FewBad b.schedule.cluster (good_in b)
  pub jitters :
      (p q : ℕ) (a c : Station) → Shows b p a → Shows b q c → (p ≢ q) → unsigned_abs (jitter_of r.given p q) ≤ error_of b.schedule.cluster
  pub drifts : (p : ℕ) (a : Station) → Shows b p a → unsigned_abs (drift_of r.given p) ≤ b.schedule.cluster.drift
  pub below :
      (p : ℕ) (a : Station) → Shows b p a → a.time + span_of b.schedule + error_of b.schedule.cluster + b.schedule.cluster.drift < clock_limit
  pub lies :
      (p q : ℕ) (a : Station) (m : Message) → Shows b p a → q < b.schedule.cluster.nodes → good_in b q ≡ false → only_message r p q ≡ Some m →
      b.common + m.reading < clock_limit
  pub counted : b.common + span_of b.schedule ≤ largest
  pub counts : b.round < largest

-- good clocks are no more than d apart
abbrev pub Apart : Bus → ℕ → Type 0
Apart b d = (p q : ℕ) (a c : Station) → Shows b p a → Shows b q c → a.time ≤ c.time + d

-- Good clocks lie in a span; and a good clock, a round later, has not left what they spanned but for the error and the drift.
abbrev pub Spanned : Bus → ℕ → ℕ → Type 0
Spanned b low high = (p : ℕ) (a : Station) → Shows b p a → (low ≤ a.time) × (a.time ≤ high)

abbrev pub Between : Bus → ℕ → ℕ → Station → Type 0
Between b low high a =
    (low + span_of b.schedule ≤ a.time + error_of b.schedule.cluster + b.schedule.cluster.drift)
    × (a.time ≤ high + span_of b.schedule + error_of b.schedule.cluster + b.schedule.cluster.drift)

-- What a good node notes of the slot of another good one: a frame that was heard whole.
abbrev pub is_whole : Came → Bool
is_whole came.Nothing = false
is_whole (came.Whole deviation) = true
is_whole (came.TurnedAway code) = false

abbrev pub HearsWhole : Bus → Bus → Type 0
HearsWhole before after =
    (p q : ℕ) (a : Station) → Shows after p a → q < before.schedule.cluster.nodes → good_in before q ≡ true → (p ≢ q) →
    is_whole (slice_index_or a.came q came.Nothing) ≡ true

-- All good nodes have the same results, one for each node, and for a good one that is the value that it gave in the cycle that is over.
pub record Agreed (before after : Bus) : Type 0 where
  pub results : List ℕ
  pub long : length results ≡ before.schedule.cluster.nodes
  pub same : (p : ℕ) (a : Station) → Shows after p a → results_in a.node ≡ Some results
  pub right : (p : ℕ) (a : Station) → Shows before p a → slice_index results p ≡ a.value

-- What holds of a round that was played: the good nodes are the same, and in step again; each has heard each other one's frame whole; what their clocks were apart is
-- halved, up to a rest, so the bound is kept; nobody is pulled out; and at a cycle's end they agree.
pub record Kept (before after : Bus) : Type 0 where
  pub same_schedule : after.schedule ≡ before.schedule
  pub same_good : (p : ℕ) → p < before.schedule.cluster.nodes → good_in after p ≡ good_in before p
  pub in_step : InStep after
  pub hears : HearsWhole before after
  pub halves : (d : ℕ) → Apart before d → Apart after (d / 2 + rest_of before.schedule.cluster)
  pub together : Apart before (bound_of before.schedule.cluster) → Apart after (bound_of before.schedule.cluster)
  pub between : (low high : ℕ) → Spanned before low high → (p : ℕ) (a : Station) → Shows after p a → Between before low high a
  pub agreed : has_ended_cycle after ≡ true → Agreed before after

abbrev pub KeepsInStep : Bus → Round → Bus → Type 0
KeepsInStep before r after = InStep before → KeepsLimits before r → Kept before after

-- So over any number of rounds in each of which the script keeps the limits.
abbrev pub LimitsIn : (before after : Bus) (rounds : List Round) → PlaysAll before rounds after → Type 0
LimitsIn _ _ _ (no_more b) = Unit {0}
LimitsIn _ _ _ (one_first before between after r rest plays played) = KeepsLimits before r × LimitsIn between after rest played

-- what each of them kept
abbrev pub Each : (Bus → Bus → Type 0) → (before after : Bus) (rounds : List Round) → PlaysAll before rounds after → Type 0
Each keeps _ _ _ (no_more b) = Unit {0}
Each keeps _ _ _ (one_first before between after r rest plays played) = keeps before between × Each keeps between after rest played

abbrev pub KeptWithin : Bus → Bus → Type 0
KeptWithin before after = Kept before after × Apart after (bound_of after.schedule.cluster)

pub record Run (before : Bus) (rounds : List Round) (after : Bus) : Type 0 where
  pub played : PlaysAll before rounds after
  pub keeps : InStep before → LimitsIn before after rounds played → Each Kept before after rounds played
  pub stands :
      InStep before → Apart before (bound_of before.schedule.cluster) → LimitsIn before after rounds played → Each KeptWithin before after rounds played

-- They were played, and whoever watches has seen each.
abbrev pub SeenRun : {W : Type 0} → (W → Bus → Round → Bool → W → Type 0) → Bus → List Round → Bus → W → Bool → W → Type 0
SeenRun sees before rounds after watch more watched = (run : Run before rounds after) × SeenIn sees before after rounds run.played watch more watched

-- So it is of all of them, and more was always wanted; or of the first ones, until no more was wanted.
abbrev pub AllSeen : {W : Type 0} → (W → Bus → Round → Bool → W → Type 0) → Bus → List Round → Bus → W → W → Type 0
AllSeen sees before rounds after watch watched = SeenRun sees before rounds after watch true watched

abbrev pub SomeSeen : {W : Type 0} → (W → Bus → Round → Bool → W → Type 0) → Bus → List Round → Bus → W → W → Type 0
SomeSeen sees before rounds after watch watched =
    (count : ℕ) × (count < length rounds) × SeenRun sees before (take (count + 1) rounds) after watch false watched
