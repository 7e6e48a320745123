-- A tick less than the schedule asks for, and a message is not heard. Each statement is demanded by the contract of a function of src/theorems.rt.
-- Assumes nothing.
use Rattle.std.specs.Prelude.{◌≡◌, ℕ, ◌+◌, ◌<◌, Bool, true, false, List, ℤ, Option}
use Rattle.std.proofs.Common.{lit<, lit≤}
use Rattle.clock.specs.Config.{width_of}
use Rattle.clock.specs.Rounds.{Moment, GoodNode, FewBad, Apart, Round}
use Rattle.clock.specs.declared.limits.Cluster.{Cluster}
use Rattle.schedule.specs.Listening.{whole_in}
use Rattle.schedule.specs.Messages.{Instant, at, instant, AheadBy, Sends, Carried}
use Rattle.schedule.specs.Slots.{Timing, owner_of, slot_of, round_end_of}

-- The length is tight: where a slot is a tick too short for a cluster, two clocks within the width are enough for a message that is not heard.
pub record Unheard (c : Cluster) (t : Timing) (slot : ℕ) (sent began ended : Instant) : Type 0 where
  pub sends : Sends t slot sent
  pub way : Carried t sent began ended
  pub before : AheadBy (width_of c) sent began
  pub behind : AheadBy (width_of c) ended sent
  pub unheard : whole_in t slot (owner_of t slot) began.shown ended.shown ≡ false

abbrev pub LengthIsTight : Type 0
LengthIsTight =
    (c : Cluster) (t : Timing) → t.length + 1 ≡ t.pause + t.wire + width_of c + t.message →
    (sent : Instant) × (began : Instant) × (ended : Instant) × Unheard c t 0 sent began ended

-- In numbers: for this cluster, messages of 200 and a wire's time of 8 the pause has to be 137 and the length 457.
abbrev pub seven : Cluster
seven = record {
  nodes = 7;
  faults = 2;
  drift = 5;
  jitter = 10;
  enough = lit≤ tt;
  most = lit≤ tt;
  few = lit≤ tt;
  tolerated = lit< tt;
  steady = lit≤ tt;
  exact = lit≤ tt;
}

-- With a length of 456, a message that is sent at 1000, by a clock that shows 137, to a clock that is 112 ahead, 8 on its way and 200 long, ends at
-- 1208, where that clock shows 457: behind the slot.
abbrev pub ShortLengthFails : Type 0
ShortLengthFails = Unheard seven (record { nodes = 7; length = 456; pause = 137; message = 200; wire = 8 }) 0 (at 1000 137) (at 1008 257) (at 1208 457)

-- With a pause of 136, seven good clocks within the width, which do all that good nodes do: node 0 reads the others as far ahead as it may, sets its clock
-- by that, and runs fast by the drift. So it starts to send in the first slot of round 1 while node 1 is still a tick from the end of round 0. What
-- begins to arrive there at once begins by its clock before the slot, and is not heard, whenever it ends.
pub record FoundUnset (c : Cluster) (t : Timing) (round slot p q : ℕ) (good : ℕ → Bool) (sent sets began : Instant) : Type 0 where
  pub heard : ℕ → List (Option ℤ)
  pub before : ℕ → Moment
  pub after : ℕ → Moment
  pub few : FewBad c good
  pub goes_round : Round c good heard before after
  pub apart : Apart c good (width_of c) before
  pub good_sender : GoodNode c good p
  pub good_receiver : GoodNode c good q
  pub is_sent : instant (after p) ≡ sent
  pub is_set : instant (before q) ≡ sets
  pub sends : Sends t slot sent
  pub first : slot ≡ slot_of t (round + 1) p
  pub ends : sets.shown ≡ round_end_of t round
  pub too_early : sent.common < sets.common
  pub at_once : began.common ≡ sent.common
  pub same_lead : began.shown + sets.common ≡ sets.shown + began.common
  pub unheard : (ended : ℕ) → whole_in t slot p began.shown ended ≡ false

abbrev pub ShortPauseFails : Type 0
ShortPauseFails =
    FoundUnset seven (record { nodes = 7; length = 457; pause = 136; message = 200; wire = 8 }) 0 7 0 1 (λ p. true) (at 3198 3335) (at 3199 3199) (at 3198 3198)
