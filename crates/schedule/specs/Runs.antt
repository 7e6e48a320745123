-- A run of good nodes over any number of rounds, whatever the faulty ones do: clocks that are set, messages that pass, and what was heard of them.
-- What holds of it, and that there are such runs, are statements that contracts of functions of src/theorems.rt demand. Assumes nothing.
use Rattle.std.specs.Prelude.{◌≡◌, ℕ, suc, ◌+◌, ◌<◌, ◌≤◌, Bool, true, false, cond, List, ◌∷◌, ◌++◌, ℤ, pos, ◌+ℤ◌, ◌≤ℤ◌, Some, None, Option, ◌≢◌, ◌⊎◌, slice_index_or, unsigned_abs}
use Rattle.std.specs.List.{AllByRecursion}
use Rattle.std.specs.Option.{option_map}
use Rattle.midpoint.specs.Setting.{clock_limit}
use Rattle.clock.specs.Config.{bound_of, width_of}
use Rattle.clock.specs.Deviation.{deviation_of}
use Rattle.clock.specs.Rounds.{Moment, lead, GoodNode, FewBad, Apart, Round}
use Rattle.clock.specs.Setting.{SetBy}
use Rattle.schedule.specs.Config.{timing_of}
use Rattle.schedule.specs.Listening.{whole_in, heard_in}
use Rattle.schedule.specs.Messages.{instant, Sends, Carried}
use Rattle.schedule.specs.Slots.{slot_of, send_time_of, round_end_of}
use Rattle.schedule.specs.declared.limits.Schedule.{Schedule}
use Rattle.schedule.specs.declared.listening.Arrival.{Arrival}
use Rattle.schedule.specs.declared.listening.Received.{Received}

-- What happens to good nodes: each clock at moments of a common time that no node knows, and what is sent and arrives. M is what messages hold.
pub record Run (M : Type 0) : Type 0 where
  -- round, node: whether a moment is one of this node's clock in this round
  pub of_round : ℕ → ℕ → Moment → Bool
  -- round, node: the clock as the round begins, as the node starts to send in it, and as it ends
  pub starts : ℕ → ℕ → Moment
  pub sends : ℕ → ℕ → Moment
  pub ends : ℕ → ℕ → Moment
  -- round, receiver, sender: the receiver's clock as the sender's message of the round begins to arrive, and as it has ended
  pub begins : ℕ → ℕ → ℕ → Moment
  pub over : ℕ → ℕ → ℕ → Moment
  -- round, node: what its message holds, the same for all
  pub said : ℕ → ℕ → M
  -- round, receiver, sender: when the receiver's listener for the sender's slot begins, and all that it is told of, on any wire and in this order
  pub opened : ℕ → ℕ → ℕ → ℕ
  pub arrived : ℕ → ℕ → ℕ → List (Arrival M)
  -- round, node: the deviations that it heard, as its setting is handed them
  pub heard : ℕ → ℕ → List (Option ℤ)

-- what node p's listener for node q's slot of round k answers, and q's message of that round as it arrives at p
abbrev pub answered : {M : Type 0} → Schedule → Run M → ℕ → ℕ → ℕ → Option (Received M)
answered s r k p q = heard_in s (slot_of (timing_of s) k q) (r.opened k p q) (r.arrived k p q)

abbrev pub arrival_of : {M : Type 0} → Run M → ℕ → ℕ → ℕ → Arrival M
arrival_of r k p q = record { wire = q; began = (r.begins k p q).clock.shown; ended = (r.over k p q).clock.shown; message = r.said k q }

-- the message of node q's round j ends in node p's round k: behind its start, and not behind its end
abbrev pub EndsIn : {M : Type 0} → Run M → ℕ → ℕ → ℕ → ℕ → Type 0
EndsIn r k j p q = ((r.starts k p).common < (r.over j p q).common) × ((r.over j p q).common ≤ (r.ends k p).common)

-- What node p's listener for node q's slot of round k is told of besides q's message of that round: if it comes on q's wire, it is another of q's
-- messages, one that ends in this round. Of what comes on other wires nothing is said.
abbrev pub OtherThan : {M : Type 0} → Run M → ℕ → ℕ → ℕ → ℕ → Arrival M → Type 0
OtherThan r rounds k p q a =
    a.wire ≡ q → (j : ℕ) × (j ≤ rounds) × (j ≢ k) × EndsIn r k j p q × (a ≡ arrival_of r j p q)

-- All that it is told of: q's message of that round, once, and others; and of what comes before that message nothing ended later than it. The listener
-- is open before that message has ended.
pub record Delivered {M : Type 0} (r : Run M) (rounds k p q : ℕ) : Type 0 where
  pub earlier : List (Arrival M)
  pub later : List (Arrival M)
  pub all : r.arrived k p q ≡ earlier ++ arrival_of r k p q ∷ later
  pub others_earlier : AllByRecursion (OtherThan r rounds k p q) earlier
  pub others_later : AllByRecursion (OtherThan r rounds k p q) later
  pub in_order : AllByRecursion (λ a. a.ended ≤ (r.over k p q).clock.shown) earlier
  pub in_time : r.opened k p q ≤ (r.over k p q).clock.shown

-- What is asked of clocks and wires over so many rounds, and in the next one as far as it goes.
pub record World {M : Type 0} (s : Schedule) (good : ℕ → Bool) (rounds : ℕ) (r : Run M) : Type 0 where
  -- in a round a clock runs off by no more than the drift between any two moments
  pub drifts :
      (k p : ℕ) (a b : Moment) → k ≤ rounds → GoodNode s.cluster good p → r.of_round k p a ≡ true → r.of_round k p b ≡ true →
      lead a ≤ℤ (lead b +ℤ pos s.cluster.drift)
  -- the clock as a round begins, as the node sends in it, and as it ends is in that round; and the setting, with which the next one begins, takes no time
  pub begun : (k p : ℕ) → k ≤ rounds → GoodNode s.cluster good p → r.of_round k p (r.starts k p) ≡ true
  pub sent : (k p : ℕ) → k ≤ rounds → GoodNode s.cluster good p → r.of_round k p (r.sends k p) ≡ true
  pub ended : (k p : ℕ) → k < rounds → GoodNode s.cluster good p → r.of_round k p (r.ends k p) ≡ true
  pub at_once : (k p : ℕ) → k < rounds → GoodNode s.cluster good p → (r.starts (suc k) p).common ≡ (r.ends k p).common
  -- a message between good nodes sets out when it is sent, is on its way no longer than the wire's time and no longer than the jitter, and does not end
  -- before it begins
  pub carried :
      (k p q : ℕ) → k ≤ rounds → GoodNode s.cluster good p → GoodNode s.cluster good q → (p ≢ q) →
      Carried (timing_of s) (instant (r.sends k q)) (instant (r.begins k p q)) (instant (r.over k p q))
      × ((r.begins k p q).common ≤ (r.sends k q).common + s.cluster.jitter) × ((r.begins k p q).common ≤ (r.over k p q).common)
  -- Where it begins and ends in a round of the receiver, of whatever number, the receiver's clock is then in that round, and does not run backwards
  -- meanwhile. So one that begins at the very tick of a setting is timed by the clock as it was set, and one that has ended at it by the clock before
  -- it was set.
  pub falls_in :
      (k j p q : ℕ) → k < rounds → j ≤ rounds → GoodNode s.cluster good p → GoodNode s.cluster good q → (p ≢ q) →
      (r.starts k p).common ≤ (r.begins j p q).common → (r.over j p q).common ≤ (r.ends k p).common →
      (r.of_round k p (r.begins j p q) ≡ true) × (r.of_round k p (r.over j p q) ≡ true)
      × ((r.begins j p q).clock.shown ≤ (r.over j p q).clock.shown)
  -- On the wire from a good node to a good one come that node's messages and nothing else. Where its message of the round begins and ends in that round
  -- of the receiver, and while its slot lasts by the receiver's clock, the listener for the slot is open before that message has ended, and is told of
  -- it once; and what it is told of before, on any wire, did not end later.
  pub wires :
      (k p q : ℕ) → k < rounds → GoodNode s.cluster good p → GoodNode s.cluster good q → (p ≢ q) →
      (r.starts k p).common ≤ (r.begins k p q).common → (r.over k p q).common ≤ (r.ends k p).common →
      whole_in (timing_of s) (slot_of (timing_of s) k q) q (r.begins k p q).clock.shown (r.over k p q).clock.shown ≡ true →
      Delivered r rounds k p q

-- What is asked of good nodes, and of what drives them: when they send and end a round, how they are set, and what they make of what they heard.
pub record Duties {M : Type 0} (s : Schedule) (good : ℕ → Bool) (rounds : ℕ) (r : Run M) : Type 0 where
  -- a round begins with the setting of the last one; the node sends in it, and it ends, when its clock shows the time for it
  pub sending :
      (k p : ℕ) → k ≤ rounds → GoodNode s.cluster good p → Sends (timing_of s) (slot_of (timing_of s) k p) (instant (r.sends k p))
  pub ending : (k p : ℕ) → k < rounds → GoodNode s.cluster good p → (r.ends k p).clock.shown ≡ round_end_of (timing_of s) k
  pub setting :
      (k p : ℕ) → k < rounds → GoodNode s.cluster good p →
      SetBy s.cluster p (r.ends k p).clock (r.heard k p) (r.starts (suc k) p).clock
  -- and in a round the node counts the same round
  pub counts : (k p : ℕ) → k < rounds → GoodNode s.cluster good p → (r.ends k p).clock.round ≡ (r.starts k p).clock.round
  -- What is heard of a node, good or not, is what the listener for its slot answers: a node's own slot included, which is not read. A node may turn the
  -- answer away; then it is as if nothing had come.
  pub listened :
      (k p q : ℕ) → k < rounds → GoodNode s.cluster good p → q < s.cluster.nodes →
      (slice_index_or (r.heard k p) q None ≡ None)
      ⊎ (slice_index_or (r.heard k p) q None ≡ option_map (λ received. received.deviation) (answered s r k p q))
  -- what a good node says in a round is not turned away where it is heard in it
  pub taken :
      (k p q : ℕ) → k < rounds → GoodNode s.cluster good p → GoodNode s.cluster good q → (p ≢ q) → (received : Received M) →
      answered s r k p q ≡ Some received → received.message ≡ r.said k q → slice_index_or (r.heard k p) q None ≡ Some received.deviation

-- What is asked of a run over so many rounds, and of the next one as far as it goes. Nothing is asked of the faulty nodes, nor of what arrives from
-- them. It is not asked that messages are heard, that they fall into the receiver's round of the same number, that no other falls there, that clocks
-- are set in time, or that readings are right.
pub record Lawful {M : Type 0} (s : Schedule) (good : ℕ → Bool) (rounds : ℕ) (r : Run M) : Type 0 where
  pub world : World s good rounds r
  pub duties : Duties s good rounds r

-- How it starts: good clocks are within the bound and in round 0, and each is in that round when the first message of another good node begins to
-- arrive. That a node's own sending in that round is behind its start is not asked.
pub record Started {M : Type 0} (s : Schedule) (good : ℕ → Bool) (r : Run M) : Type 0 where
  pub near : Apart s.cluster good (bound_of s.cluster) (r.starts 0)
  pub first : (p : ℕ) → GoodNode s.cluster good p → (r.starts 0 p).clock.round ≡ 0
  pub listens :
      (p q : ℕ) → GoodNode s.cluster good p → GoodNode s.cluster good q → (p ≢ q) → (r.starts 0 p).common ≤ (r.begins 0 p q).common

-- What holds then.
pub record Standing {M : Type 0} (s : Schedule) (good : ℕ → Bool) (rounds : ℕ) (r : Run M) : Type 0 where
  -- good clocks are within the bound as each round begins, and within the width in it
  pub together : (k : ℕ) → k ≤ rounds → Apart s.cluster good (bound_of s.cluster) (r.starts k)
  pub within :
      (k p q : ℕ) (a b : Moment) → k ≤ rounds → GoodNode s.cluster good p → GoodNode s.cluster good q → r.of_round k p a ≡ true →
      r.of_round k q b ≡ true → lead a ≤ℤ (lead b +ℤ pos (width_of s.cluster))
  -- each good node counts the rounds right
  pub counted : (k p : ℕ) → k ≤ rounds → GoodNode s.cluster good p → (r.starts k p).clock.round ≡ k
  -- A message finds the receiver in the round that it is of, and is whole in its slot. Its sender's messages of other rounds are over before that round,
  -- or begin behind it. So it is what the receiver's listener answers, and its deviation is what the setting is handed.
  pub listens :
      (k p q : ℕ) → k ≤ rounds → GoodNode s.cluster good p → GoodNode s.cluster good q → (p ≢ q) →
      (r.starts k p).common ≤ (r.begins k p q).common
  pub lasts :
      (k p q : ℕ) → k < rounds → GoodNode s.cluster good p → GoodNode s.cluster good q → (p ≢ q) →
      (r.over k p q).common ≤ (r.ends k p).common
  pub whole :
      (k p q : ℕ) → k < rounds → GoodNode s.cluster good p → GoodNode s.cluster good q → (p ≢ q) →
      whole_in (timing_of s) (slot_of (timing_of s) k q) q (r.begins k p q).clock.shown (r.over k p q).clock.shown ≡ true
  pub alone :
      (k j p q : ℕ) → k < rounds → j ≤ rounds → GoodNode s.cluster good p → GoodNode s.cluster good q → (p ≢ q) →
      (j < k → (r.over j p q).common ≤ (r.starts k p).common) × (k < j → (r.ends k p).common ≤ (r.begins j p q).common)
  pub heard :
      (k p q : ℕ) → k < rounds → GoodNode s.cluster good p → GoodNode s.cluster good q → (p ≢ q) →
      let deviation = deviation_of (send_time_of (timing_of s) (slot_of (timing_of s) k q)) (r.begins k p q).clock.shown in
      (answered s r k p q ≡ Some (record { deviation = deviation; message = r.said k q }))
      × (slice_index_or (r.heard k p) q None ≡ Some deviation)
  -- So each round is one of the clock's, from its end to the start of the next, and all that is proved of those holds: good nodes read each other right up
  -- to the error, the setting halves what they are apart, nobody is pulled out, and no good node's setting is turned away.
  pub goes_round : (k : ℕ) → k < rounds → Round s.cluster good (r.heard k) (r.ends k) (r.starts (suc k))
  -- what is sent is over, with its time on the wire, before a good node sends in any later slot
  pub over_before :
      (k j p q : ℕ) → k ≤ rounds → j ≤ rounds → GoodNode s.cluster good p → GoodNode s.cluster good q →
      slot_of (timing_of s) k p < slot_of (timing_of s) j q → (r.sends k p).common + s.wire + s.message ≤ (r.sends j q).common
  -- every good clock is set before a good node sends in the next round, and no setting takes a node past the time at which it is to send
  pub set_before :
      (k p q : ℕ) → k < rounds → GoodNode s.cluster good p → GoodNode s.cluster good q → (r.ends k p).common ≤ (r.sends (suc k) q).common
  pub in_time :
      (k p : ℕ) → k < rounds → GoodNode s.cluster good p → (r.starts (suc k) p).clock.shown ≤ send_time_of (timing_of s) (slot_of (timing_of s) (suc k) p)

-- Good clocks that start within the bound stay together, and good nodes hear each other and do not overlap, for any number of rounds and whatever the
-- faulty nodes do.
abbrev pub Stands : Type 0 → Type 0
Stands M =
    (s : Schedule) (good : ℕ → Bool) (rounds : ℕ) (r : Run M) → FewBad s.cluster good → Lawful s good rounds r → Started s good r →
    Standing s good rounds r

-- There are such runs, over as many rounds as clocks can show. This may be chosen of them: the good clocks as the first round begins, how far each
-- has run off in a round when its node sends, either way, how long each message is on its way and lasts, what the messages hold, all that a listener
-- for a faulty node's slot is told of (any messages, on any wires and at any times), all that one for a good node's slot is told of behind that node's
-- message (any, on other wires and at any times), and, by what a message holds that a listener answers, whether the node takes it or turns it away
-- (any, but for what a good node says in a round: that is taken in it by the other good ones).
pub record Choice
    (s : Schedule) (good : ℕ → Bool) (rounds : ℕ) (first : ℕ → Moment) (offs : ℕ → ℕ → ℤ) (delays lengths : ℕ → ℕ → ℕ → ℕ) : Type 0 where
  -- the clocks are within the bound and in round 0, and show so little that none misses a message of that round, however far its sender has run off
  pub near : Apart s.cluster good (bound_of s.cluster) first
  pub from_zero : (p : ℕ) → GoodNode s.cluster good p → (first p).clock.round ≡ 0
  pub early :
      (p q : ℕ) → GoodNode s.cluster good p → GoodNode s.cluster good q →
      (pos ((first p).clock.shown + bound_of s.cluster) +ℤ offs 0 q) ≤ℤ pos s.pause
  pub steady : (k p : ℕ) → unsigned_abs (offs k p) ≤ s.cluster.drift
  pub on_time : (k p q : ℕ) → (delays k p q ≤ s.wire) × (delays k p q ≤ s.cluster.jitter)
  -- each lasts a tick at least, so that the schedule has to allow for one
  pub lasting : (k p q : ℕ) → (1 ≤ lengths k p q) × (lengths k p q ≤ s.message)
  -- any run asks as much, since clocks stay below the limit: the good nodes can still send in the round after the last
  pub room : (p : ℕ) → GoodNode s.cluster good p → send_time_of (timing_of s) (slot_of (timing_of s) rounds p) < clock_limit

-- nothing of it is on the wire of the slot's node
abbrev pub OnOtherWires : {M : Type 0} → (ℕ → ℕ → ℕ → List (Arrival M)) → Type 0
OnOtherWires noise = (k p q : ℕ) → AllByRecursion (λ a. a.wire ≢ q) (noise k p q)

-- Round, receiver, sender, and what a message holds: whether the receiver takes it. What a good node says in a round, the other good ones take in it.
abbrev pub TakesTheGood : {M : Type 0} → Schedule → (ℕ → Bool) → ℕ → (ℕ → ℕ → M) → (ℕ → ℕ → ℕ → M → Bool) → Type 0
TakesTheGood s good rounds said takes =
    (k p q : ℕ) → k < rounds → GoodNode s.cluster good p → GoodNode s.cluster good q → (p ≢ q) → takes k p q (said k q) ≡ true

-- what a node is left with of what its listener answers: that, if it takes what the message holds, else nothing
abbrev pub taken_by : {M : Type 0} → (M → Bool) → Option (Received M) → Option (Received M)
taken_by takes None = None
taken_by takes (Some received) = cond (takes received.message) (Some received) None

pub record RunGiven {M : Type 0}
    (s : Schedule) (good : ℕ → Bool) (rounds : ℕ) (first : ℕ → Moment) (offs : ℕ → ℕ → ℤ) (delays lengths : ℕ → ℕ → ℕ → ℕ)
    (said : ℕ → ℕ → M) (lies noise : ℕ → ℕ → ℕ → List (Arrival M)) (takes : ℕ → ℕ → ℕ → M → Bool) : Type 0 where
  pub run : Run M
  pub lawful : Lawful s good rounds run
  pub started : Started s good run
  pub first_start : (p : ℕ) → run.starts 0 p ≡ first p
  -- so far each clock has run off when its node sends, where few are bad: else what is heard may set it to the very time to send
  pub ran :
      FewBad s.cluster good → (k p : ℕ) → k ≤ rounds → GoodNode s.cluster good p → lead (run.sends k p) ≡ lead (run.starts k p) +ℤ offs k p
  -- whether a moment is one of a round is told by its time and by what the clock shows, whatever round that counts
  pub by_showing :
      (k p : ℕ) (a b : Moment) → a.common ≡ b.common → a.clock.shown ≡ b.clock.shown → run.of_round k p a ≡ run.of_round k p b
  -- in a round no clock runs backwards; at one common time one that gains shows several numbers
  pub forward :
      (k p : ℕ) (a b : Moment) → run.of_round k p a ≡ true → run.of_round k p b ≡ true → a.common < b.common → a.clock.shown ≤ b.clock.shown
  pub delayed : (k p q : ℕ) → (run.begins k p q).common ≡ (run.sends k q).common + delays k p q
  pub lasted : (k p q : ℕ) → (run.over k p q).common ≡ (run.begins k p q).common + lengths k p q
  pub says : (k q : ℕ) → run.said k q ≡ said k q
  pub lied : (k p q : ℕ) → good q ≡ false → run.arrived k p q ≡ lies k p q
  -- where a good node's message begins and ends in the receiver's round of that number, as each does where few are bad, it arrives first, whole or not
  pub noisy :
      (k p q : ℕ) → k < rounds → GoodNode s.cluster good p → GoodNode s.cluster good q → (run.starts k p).common ≤ (run.begins k p q).common →
      (run.over k p q).common ≤ (run.ends k p).common → run.arrived k p q ≡ arrival_of run k p q ∷ noise k p q
  -- each listener is open from the first, and what is heard is what it answers, where that is taken, else nothing
  pub opens : (k p q : ℕ) → run.opened k p q ≡ 0
  pub hears :
      (k p q : ℕ) → q < s.cluster.nodes →
      slice_index_or (run.heard k p) q None ≡ option_map (λ received. received.deviation) (taken_by (takes k p q) (answered s run k p q))

abbrev pub RunCanBeGiven : Type 0 → Type 0
RunCanBeGiven M =
    (s : Schedule) (good : ℕ → Bool) (rounds : ℕ) (first : ℕ → Moment) (offs : ℕ → ℕ → ℤ) (delays lengths : ℕ → ℕ → ℕ → ℕ)
    (said : ℕ → ℕ → M) (lies noise : ℕ → ℕ → ℕ → List (Arrival M)) (takes : ℕ → ℕ → ℕ → M → Bool) →
    Choice s good rounds first offs delays lengths → OnOtherWires noise → TakesTheGood s good rounds said takes →
    RunGiven s good rounds first offs delays lengths said lies noise takes
