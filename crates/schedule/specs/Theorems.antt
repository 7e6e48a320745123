-- What is proved of slots and of listening in them. Each statement is demanded by the contract of a function of src/theorems.rt. Assumes nothing.
use Rattle.std.specs.Prelude.{◌≡◌, ℕ, ◌+◌, ◌-◌, ◌<◌, ◌≤◌, Bool, true, false, List, ◌∷◌, ◌++◌, ℤ, pos, ◌+ℤ◌, Some, Option}
use Rattle.std.specs.List.{AllByRecursion}
use Rattle.std.specs.Option.{option_map}
use Rattle.clock.specs.Config.{error_of, bound_of, width_of}
use Rattle.clock.specs.Deviation.{deviation_of}
use Rattle.clock.specs.Rounds.{Moment, ahead, lead, Within, GoodNode, FewBad, Apart, Round}
use Rattle.clock.specs.Setting.{read_of, SetBy}
use Rattle.clock.specs.declared.limits.Clock.{Clock}
use Rattle.clock.specs.declared.limits.Cluster.{Cluster}
use Rattle.schedule.specs.Config.{timing_of}
use Rattle.schedule.specs.Heard.{answer_of}
use Rattle.schedule.specs.Listening.{whole_in, came_whole, as_heard, Opened, Tells, Answers}
use Rattle.schedule.specs.Messages.{Instant, at, instant, AheadBy, SameRound, Sends, Carried, Course, FromSlot, HeardRound}
use Rattle.schedule.specs.Slots.{Timing, owner_of, round_of, slot_of, slot_start, send_time_of, slot_end_of, round_end_of}
use Rattle.schedule.specs.declared.limits.Schedule.{Schedule}
use Rattle.schedule.specs.declared.listening.Arrival.{Arrival}
use Rattle.schedule.specs.declared.listening.Listener.{Listener}

-- Slots follow one another, and each is that of one node in one round.
pub record Follow (t : Timing) : Type 0 where
  pub one_of_each : (round node : ℕ) → node < t.nodes → (round_of t (slot_of t round node) ≡ round) × (owner_of t (slot_of t round node) ≡ node)
  pub each_is_one : (slot : ℕ) → (slot_of t (round_of t slot) (owner_of t slot) ≡ slot) × (owner_of t slot < t.nodes)
  pub next_starts : (slot : ℕ) → slot_end_of t slot ≡ slot_start t (slot + 1)
  pub last_ends : (round : ℕ) → slot_end_of t (slot_of t round (t.nodes - 1)) ≡ round_end_of t round

abbrev pub SlotsFollow : Type 0
SlotsFollow = (s : Schedule) → Follow (timing_of s)

-- However many arrivals a listener was told of, of those that it took it answers the one that came whole in the slot from its node, and nothing where
-- there was none or more than one.
abbrev pub HearsTheOnlyOne : {M : Type 0} → Listener M → Type 0
HearsTheOnlyOne l = Answers l (answer_of l.whole)

-- And whatever it was told of, what it answers began in its slot: this is what a round asks of what is heard of a faulty node.
abbrev pub HearsFromItsSlot : {M : Type 0} → Listener M → Type 0
HearsFromItsSlot {M} l =
    (opened : Listener M) (time : ℕ) (arrivals : List (Arrival M)) → Opened l.schedule l.slot time opened → Tells opened arrivals l →
    FromSlot (timing_of l.schedule) l.slot (option_map (λ received. received.deviation) (answer_of l.whole))

-- Within the width, what a node sends in its slot is whole in that slot where it arrives. The sender's clock, as it sends, is at most the width ahead of
-- the receiver's as the message begins to arrive, and at most the width behind it when the message has ended.
abbrev pub HearsWhole : Type 0
HearsWhole =
    (s : Schedule) (slot : ℕ) (sent began ended : Instant) → Sends (timing_of s) slot sent → Carried (timing_of s) sent began ended →
    AheadBy (width_of s.cluster) sent began → AheadBy (width_of s.cluster) ended sent →
    whole_in (timing_of s) slot (owner_of (timing_of s) slot) began.shown ended.shown ≡ true

-- And it is what a listener for that slot answers, with its deviation, where nothing else came whole in the slot on that wire: whatever came on the
-- others, or too early or too late, and in whatever order, as long as it ended no earlier than it began, than the listener began, and than all that the
-- listener was told of before.
pub record OnlyWhole {M : Type 0} (s : Schedule) (slot time : ℕ) (earlier : List (Arrival M)) (a : Arrival M) (later : List (Arrival M)) : Type 0 where
  pub own_wire : a.wire ≡ owner_of (timing_of s) slot
  pub none_earlier : AllByRecursion (λ x. came_whole s slot x ≡ false) earlier
  pub none_later : AllByRecursion (λ x. came_whole s slot x ≡ false) later
  pub in_order : AllByRecursion (λ x. x.ended ≤ a.ended) earlier
  pub in_time : time ≤ a.ended
  pub forward : a.began ≤ a.ended

abbrev pub HearsTheMessage : {M : Type 0} → Listener M → Type 0
HearsTheMessage {M} l =
    (opened : Listener M) (time : ℕ) (earlier later : List (Arrival M)) (a : Arrival M) (sent : Instant) (begins ends : ℕ) →
    Opened l.schedule l.slot time opened → Tells opened (earlier ++ a ∷ later) l → OnlyWhole l.schedule l.slot time earlier a later →
    Sends (timing_of l.schedule) l.slot sent → Carried (timing_of l.schedule) sent (at begins a.began) (at ends a.ended) →
    AheadBy (width_of l.schedule.cluster) sent (at begins a.began) → AheadBy (width_of l.schedule.cluster) (at ends a.ended) sent →
    answer_of l.whole ≡ Some (as_heard (timing_of l.schedule) l.slot a)

-- So a good node hears each good node whole in its slot, in a round that good clocks begin within the bound, each run off by its own drift since.
abbrev pub HearsGoodNodes : Type 0
HearsGoodNodes =
    (s : Schedule) (good : ℕ → Bool) (start : ℕ → Moment) (slot q : ℕ) (sent began ended : Moment) → Apart s.cluster good (bound_of s.cluster) start →
    GoodNode s.cluster good (owner_of (timing_of s) slot) → GoodNode s.cluster good q →
    SameRound s.cluster (start (owner_of (timing_of s) slot)) sent → SameRound s.cluster (start q) began → SameRound s.cluster (start q) ended →
    Sends (timing_of s) slot (instant sent) → Carried (timing_of s) (instant sent) (instant began) (instant ended) →
    whole_in (timing_of s) slot (owner_of (timing_of s) slot) began.clock.shown ended.clock.shown ≡ true

-- The reading of such a message, as the receiver's round ends, is right up to the error: what the clock asks of a round in which a good node reads
-- another. The message is no longer on its way than the jitter, and the receiver's round ends behind it.
abbrev pub ReadsRight : Type 0
ReadsRight =
    (s : Schedule) (slot : ℕ) (sent began here there : Moment) → Sends (timing_of s) slot (instant sent) → sent.common ≤ began.common →
    began.common ≤ sent.common + s.cluster.jitter → SameRound s.cluster there sent → SameRound s.cluster here began →
    slot_start (timing_of s) slot ≤ began.clock.shown → began.clock.shown ≤ here.clock.shown →
    Within (error_of s.cluster) (ahead here (read_of here.clock.shown (Some (deviation_of (send_time_of (timing_of s) slot) began.clock.shown)))) (lead there)

-- Whoever sent it, a message that is whole in its slot is not read as farther ahead than by the pause. So a lie can come to the limit of clocks only
-- where the own clock is within a pause of it.
abbrev pub ReadsNoFarther : Type 0
ReadsNoFarther =
    (s : Schedule) (slot wire began ended own : ℕ) → whole_in (timing_of s) slot wire began ended ≡ true →
    read_of own (Some (deviation_of (send_time_of (timing_of s) slot) began)) ≤ own + s.pause

-- So what the clock asks of a round is met where good nodes hear each other: their clocks stay together by its theorems.
abbrev pub MakesARound : Type 0
MakesARound =
    (s : Schedule) (good : ℕ → Bool) (round : ℕ) (heard : ℕ → List (Option ℤ)) (ends after : ℕ → Moment) (set : ℕ → Clock) →
    HeardRound s good round heard ends → ((p : ℕ) → GoodNode s.cluster good p → SetBy s.cluster p (ends p).clock (heard p) (set p)) →
    ((p : ℕ) → GoodNode s.cluster good p → Within s.cluster.drift (lead (after p)) (ahead (ends p) (set p).shown)) →
    ((p : ℕ) → GoodNode s.cluster good p → (after p).clock.round ≡ (set p).round) → Round s.cluster good heard ends after

-- When a good node sends in a slot of a round, its first one or a later one, each good node has set its clock at the end of the round before: so
-- none hears it too early. `before` has the good clocks as the earlier round ends, and `after` where they have run on since their setting.
abbrev pub SetsBefore : Type 0
SetsBefore =
    (s : Schedule) (good : ℕ → Bool) (heard : ℕ → List (Option ℤ)) (before after : ℕ → Moment) (round slot p q : ℕ) → FewBad s.cluster good →
    Round s.cluster good heard before after → Apart s.cluster good (width_of s.cluster) before → GoodNode s.cluster good p →
    GoodNode s.cluster good q → (before q).clock.shown ≡ round_end_of (timing_of s) round → round < round_of (timing_of s) slot →
    Sends (timing_of s) slot (instant (after p)) → (before q).common ≤ (after p).common

-- What a good node sends has ended, with its time on the wire, before a good node sends in any later slot, of this round or of any later one.
abbrev pub NothingOverlaps : Type 0
NothingOverlaps =
    (s : Schedule) (good : ℕ → Bool) (rounds : ℕ) (sends ends : ℕ → ℕ → Instant) (k j p q : ℕ) → Course s good rounds sends ends → k ≤ rounds → j ≤ rounds →
    GoodNode s.cluster good p → GoodNode s.cluster good q → slot_of (timing_of s) k p < slot_of (timing_of s) j q →
    (sends k p).common + s.wire + s.message ≤ (sends j q).common

-- The same where what each good clock is ahead of common time is a whole number, 0 or more, that stays as it is; `at`, `then` and `setting` are common
-- times.
abbrev pub LeadsApart : Cluster → (ℕ → Bool) → ℕ → (ℕ → ℕ) → Type 0
LeadsApart c good d leads = (p q : ℕ) → GoodNode c good p → GoodNode c good q → leads p ≤ leads q + d

abbrev pub HeardWithLeads : Type 0
HeardWithLeads =
    (s : Schedule) (good : ℕ → Bool) (leads : ℕ → ℕ) (p q slot at delay : ℕ) → LeadsApart s.cluster good (width_of s.cluster) leads →
    GoodNode s.cluster good p → GoodNode s.cluster good q → delay ≤ s.wire → at + leads p ≡ send_time_of (timing_of s) slot →
    (slot_start (timing_of s) slot ≤ at + delay + leads q) × (at + delay + s.message + leads q ≤ slot_end_of (timing_of s) slot)

abbrev pub NeverOverWithLeads : Type 0
NeverOverWithLeads =
    (s : Schedule) (good : ℕ → Bool) (leads : ℕ → ℕ) (p q slot later at then : ℕ) → LeadsApart s.cluster good (width_of s.cluster) leads →
    GoodNode s.cluster good p → GoodNode s.cluster good q → slot < later → at + leads p ≡ send_time_of (timing_of s) slot →
    then + leads q ≡ send_time_of (timing_of s) later → at + s.message + s.wire ≤ then

-- The same of settings: a clock keeps the lead that it has in `before` up to its setting, and then that in `after`. At
-- `setting` the receiver's clock shows the slot's start, where that is a round's first slot: it is set then.
abbrev pub SetInTimeWithLeads : Type 0
SetInTimeWithLeads =
    (s : Schedule) (good : ℕ → Bool) (heard : ℕ → List (Option ℤ)) (before after : ℕ → Moment) (p q slot at setting : ℕ) → FewBad s.cluster good →
    Round s.cluster good heard before after → Apart s.cluster good (width_of s.cluster) before → GoodNode s.cluster good p →
    GoodNode s.cluster good q → pos at +ℤ lead (after p) ≡ pos (send_time_of (timing_of s) slot) →
    pos setting +ℤ lead (before q) ≡ pos (slot_start (timing_of s) slot) → setting ≤ at
