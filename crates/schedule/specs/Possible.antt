-- What the theorems ask of good nodes and of messages can be met. Each statement is demanded by the contract of a function of src/theorems.rt.
-- Assumes nothing.
use Rattle.std.specs.Prelude.{◌≡◌, ℕ, suc, ◌+◌, ◌*◌, ◌<◌, ◌≤◌, Bool, false, List, ℤ, None, Option, slice_index_or}
use Rattle.midpoint.specs.Setting.{clock_limit}
use Rattle.clock.specs.Config.{width_of}
use Rattle.clock.specs.Rounds.{Moment}
use Rattle.schedule.specs.Config.{timing_of}
use Rattle.schedule.specs.Messages.{Instant, AheadBy, Sends, Carried, Course, FromSlot, HeardRound}
use Rattle.schedule.specs.Slots.{slot_of, round_end_of}
use Rattle.schedule.specs.Theorems.{LeadsApart}
use Rattle.schedule.specs.declared.limits.Schedule.{Schedule}

-- There is a course for any leads of good clocks that are within the width in each round and go ahead by no more than the pause from one round to the
-- next. Common time is set back here so far that no clock is behind it.
pub record Leads (s : Schedule) (good : ℕ → Bool) (leads : ℕ → ℕ → ℕ) (most : ℕ) : Type 0 where
  pub near : (k : ℕ) → LeadsApart s.cluster good (width_of s.cluster) (leads k)
  pub steps : (k p : ℕ) → leads (suc k) p ≤ leads k p + s.pause
  pub below : (k p : ℕ) → leads k p ≤ most

pub record Coursed (s : Schedule) (good : ℕ → Bool) (rounds : ℕ) (leads : ℕ → ℕ → ℕ) (most : ℕ) : Type 0 where
  pub sends : ℕ → ℕ → Instant
  pub ends : ℕ → ℕ → Instant
  pub course : Course s good rounds sends ends
  pub sends_led : (k p : ℕ) → (sends k p).common + leads k p ≡ (sends k p).shown + most
  pub ends_led : (k p : ℕ) → (ends k p).common + leads k p ≡ (ends k p).shown + most

abbrev pub CourseCanBeRun : Type 0
CourseCanBeRun =
    (s : Schedule) (good : ℕ → Bool) (rounds : ℕ) (leads : ℕ → ℕ → ℕ) (most : ℕ) → Leads s good leads most → Coursed s good rounds leads most

-- For any slot, and any message that the schedule allows, there are clocks: the sender's, and the receiver's as the message begins to arrive and as it
-- has ended, which are ahead of the sender's by `first` and by `last`, each less the width.
pub record Passed (s : Schedule) (slot delay lasting first last : ℕ) : Type 0 where
  pub sent : Instant
  pub began : Instant
  pub ended : Instant
  pub sends : Sends (timing_of s) slot sent
  pub way : Carried (timing_of s) sent began ended
  pub before : AheadBy (width_of s.cluster) sent began
  pub behind : AheadBy (width_of s.cluster) ended sent
  pub delayed : began.common ≡ sent.common + delay
  pub lasted : ended.common ≡ began.common + lasting
  pub ahead_first : began.shown + sent.common + width_of s.cluster ≡ sent.shown + began.common + first
  pub ahead_last : ended.shown + sent.common + width_of s.cluster ≡ sent.shown + ended.common + last

abbrev pub MessageCanPass : Type 0
MessageCanPass =
    (s : Schedule) (slot delay lasting first last : ℕ) → delay ≤ s.wire → lasting ≤ s.message →
    last ≤ 2 * width_of s.cluster → Passed s slot delay lasting first last

-- There is a round that is heard, whatever was heard of the faulty nodes, if it ends a pause before the limit of clocks.
pub record RoundHeard (s : Schedule) (good : ℕ → Bool) (round : ℕ) (lies : ℕ → ℕ → Option ℤ) : Type 0 where
  pub heard : ℕ → List (Option ℤ)
  pub ends : ℕ → Moment
  pub is_heard : HeardRound s good round heard ends
  pub lied : (p q : ℕ) → q < s.cluster.nodes → good q ≡ false → slice_index_or (heard p) q None ≡ lies p q
  pub ended : (p : ℕ) → (ends p).clock.shown ≡ round_end_of (timing_of s) round

abbrev pub RoundCanBeHeard : Type 0
RoundCanBeHeard =
    (s : Schedule) (good : ℕ → Bool) (round : ℕ) (lies : ℕ → ℕ → Option ℤ) → round_end_of (timing_of s) round + s.pause < clock_limit →
    ((p q : ℕ) → FromSlot (timing_of s) (slot_of (timing_of s) round q) (lies p q)) → RoundHeard s good round lies
