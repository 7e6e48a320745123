-- Messages between good nodes, by what their clocks show at common times. Assumes nothing: these are definitions.
use Rattle.std.specs.Prelude.{◌≡◌, ℕ, suc, ◌+◌, ◌<◌, ◌≤◌, Bool, List, ℤ, Some, None, Option, ◌≢◌, slice_index_or}
use Rattle.midpoint.specs.Setting.{clock_limit}
use Rattle.clock.specs.Config.{width_of}
use Rattle.clock.specs.Deviation.{deviation_of}
use Rattle.clock.specs.Rounds.{Moment, lead, Within, GoodNode}
use Rattle.clock.specs.declared.limits.Cluster.{Cluster}
use Rattle.schedule.specs.Config.{timing_of}
use Rattle.schedule.specs.Slots.{Timing, slot_of, slot_start, send_time_of, round_end_of}
use Rattle.schedule.specs.declared.limits.Schedule.{Schedule}

-- what a clock shows at a common time, which no node knows
pub record Instant : Type 0 where
  pub common : ℕ
  pub shown : ℕ

abbrev pub at : ℕ → ℕ → Instant
at common shown = record { common = common; shown = shown }

abbrev pub instant : Moment → Instant
instant m = at m.common m.clock.shown

-- The clock at a is ahead of the clock at b by no more than d. Sums are compared, so that it is said of clocks that are ahead of common time and of
-- clocks that are behind.
abbrev pub AheadBy : ℕ → Instant → Instant → Type 0
AheadBy d a b = a.shown + b.common ≤ b.shown + a.common + d

-- two moments of one node in one round: between them its clock ran off by no more than the drift
abbrev pub SameRound : Cluster → Moment → Moment → Type 0
SameRound c a b = Within c.drift (lead a) (lead b)

-- a node starts to send in a slot when its clock shows the time for it
abbrev pub Sends : Timing → ℕ → Instant → Type 0
Sends t slot sent = sent.shown ≡ send_time_of t slot

-- A message on its way: the sender's clock when it is sent, and the receiver's when it begins to arrive and when it has ended. It takes no more than
-- the wire's time, and lasts no longer than a message does.
pub record Carried (t : Timing) (sent began ended : Instant) : Type 0 where
  pub leaves : sent.common ≤ began.common
  pub arrives : began.common ≤ sent.common + t.wire
  pub lasts : ended.common ≤ began.common + t.message

-- What good nodes do over any number of rounds, and in the next one as far as it goes: node p starts to send in round k at `sends k p`, and its
-- round k ends, and it sets its clock, at `ends k p`. Within a round they are no more than the width apart; from round to round nothing is asked of
-- their clocks.
pub record Course (s : Schedule) (good : ℕ → Bool) (rounds : ℕ) (sends ends : ℕ → ℕ → Instant) : Type 0 where
  pub sent : (k p : ℕ) → k ≤ rounds → GoodNode s.cluster good p → Sends (timing_of s) (slot_of (timing_of s) k p) (sends k p)
  pub over : (k p : ℕ) → k < rounds → GoodNode s.cluster good p → (ends k p).shown ≡ round_end_of (timing_of s) k
  pub before_the_end : (k p : ℕ) → k < rounds → GoodNode s.cluster good p → (sends k p).common ≤ (ends k p).common
  pub behind_it : (k p : ℕ) → k < rounds → GoodNode s.cluster good p → (ends k p).common ≤ (sends (suc k) p).common
  pub sends_together :
      (k p q : ℕ) → k ≤ rounds → GoodNode s.cluster good p → GoodNode s.cluster good q →
      AheadBy (width_of s.cluster) (sends k q) (sends k p)
  pub ends_together :
      (k p q : ℕ) → k < rounds → GoodNode s.cluster good p → GoodNode s.cluster good q →
      AheadBy (width_of s.cluster) (ends k q) (sends k p)

-- What was heard in a slot, as the setting is handed it: nothing, or the deviation of what began when the slot had started, whoever sent it.
abbrev pub FromSlot : Timing → ℕ → Option ℤ → Type 0
FromSlot t slot None = Unit {0}
FromSlot t slot (Some deviation) = (began : ℕ) × (slot_start t slot ≤ began) × (deviation ≡ deviation_of (send_time_of t slot) began)

-- A round of good nodes up to its end, which is for each when its clock is at `ends`, a pause or more below the limit. Each heard each other one's
-- message: sent when its clock showed the time for it, no longer on its way than the jitter, and begun here when its slot had started. Of a faulty node
-- each heard nothing, or something that began when its slot had started, whatever it was.
pub record HeardRound (s : Schedule) (good : ℕ → Bool) (round : ℕ) (heard : ℕ → List (Option ℤ)) (ends : ℕ → Moment) : Type 0 where
  pub sent : ℕ → Moment
  pub began : ℕ → ℕ → Moment
  pub sends : (q : ℕ) → GoodNode s.cluster good q → Sends (timing_of s) (slot_of (timing_of s) round q) (instant (sent q))
  pub leaves :
      (p q : ℕ) → GoodNode s.cluster good p → GoodNode s.cluster good q → (p ≢ q) → (sent q).common ≤ (began p q).common
  pub on_time :
      (p q : ℕ) → GoodNode s.cluster good p → GoodNode s.cluster good q → (p ≢ q) →
      (began p q).common ≤ (sent q).common + s.cluster.jitter
  pub sender_runs : (q : ℕ) → GoodNode s.cluster good q → SameRound s.cluster (ends q) (sent q)
  pub receiver_runs :
      (p q : ℕ) → GoodNode s.cluster good p → GoodNode s.cluster good q → (p ≢ q) → SameRound s.cluster (ends p) (began p q)
  pub in_its_slot :
      (p q : ℕ) → GoodNode s.cluster good p → GoodNode s.cluster good q → (p ≢ q) →
      (slot_start (timing_of s) (slot_of (timing_of s) round q) ≤ (began p q).clock.shown) × ((began p q).clock.shown ≤ (ends p).clock.shown)
  pub hears :
      (p q : ℕ) → GoodNode s.cluster good p → GoodNode s.cluster good q → (p ≢ q) →
      slice_index_or (heard p) q None ≡ Some (deviation_of (send_time_of (timing_of s) (slot_of (timing_of s) round q)) (began p q).clock.shown)
  pub from_slots :
      (p q : ℕ) → GoodNode s.cluster good p → q < s.cluster.nodes →
      FromSlot (timing_of s) (slot_of (timing_of s) round q) (slice_index_or (heard p) q None)
  pub room : (p : ℕ) → GoodNode s.cluster good p → (ends p).clock.shown + s.pause < clock_limit
