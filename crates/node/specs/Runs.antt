-- A run of good nodes over any number of rounds, whatever the faulty ones do: the nodes as their drivers call them, with the tables and the memory that are
-- lent to them, and their clocks and messages. That there are such runs, specs/Possible.antt says. Assumes nothing.
use Rattle.std.specs.Prelude.{◌≡◌, ℕ, suc, ◌+◌, ◌<◌, ◌≤◌, Bool, cond, List, length, take, slice_index, Some, Option, ◌≢◌, ◌==◌}
use Rattle.midpoint.specs.Setting.{clock_limit}
use Rattle.clock.specs.Config.{bound_of}
use Rattle.clock.specs.Rounds.{Moment, GoodNode, FewBad, Apart}
use Rattle.schedule.specs.Config.{timing_of}
use Rattle.schedule.specs.Listening.{heard_in}
use Rattle.schedule.specs.Runs.{World}
use Rattle.schedule.specs.Runs as bus
use Rattle.schedule.specs.Slots.{slot_of, send_time_of, slot_end_of, round_end_of}
use Rattle.schedule.specs.declared.limits.Schedule.{Schedule}
use Rattle.schedule.specs.declared.listening.Arrival.{Arrival}
use Rattle.schedule.specs.declared.listening.Received.{Received}
use Rattle.frame.specs.Layout.{place_in_cycle, frame_length_of}
use Rattle.frame.specs.Theorems.{Taken}
use Rattle.relay.specs.Tables.{table_length_of}
use Rattle.relay.specs.Telling.{told_from, Entered}
use Rattle.relay.specs.Theorems.{turn_in}
use Rattle.node.specs.Nodes.{turn_of, slot_in, read_in, written_in, results_in}
use Rattle.node.specs.Due.{call_for, due_of}
use Rattle.node.specs.Starting.{MadeWith}
use Rattle.node.specs.Sending.{Sends}
use Rattle.node.specs.Hearing.{Hears}
use Rattle.node.specs.Ending.{Ends}
use Rattle.node.specs.declared.state.Node.{Node}
use Rattle.node.specs.declared.due.Call.{Call}
use Rattle.node.specs.declared.due.Call.TheVariants.{Send, SlotOver, RoundOver}
use Rattle.node.specs.declared.due.Due.{Due}

-- what a node's clock shows at a common time, which no node knows; no clock comes to 10^12
pub record Showing : Type 0 where
  pub common : ℕ
  pub shown : ℕ
  pub below : shown < clock_limit

-- What happens to good nodes. What a call leaves in the tables is what the next one finds, since nobody else writes to them; the memory for a frame may be other
-- memory in each round. What a node's clock shows as a round begins is what the node has it set to.
pub record Run : Type 0 where
  -- round, node, how many calls its driver has made in the round: the node, and the two tables that are lent to it
  pub node : ℕ → ℕ → ℕ → Node
  pub first : ℕ → ℕ → ℕ → List ℕ
  pub second : ℕ → ℕ → ℕ → List ℕ
  -- and what its clock shows as the next call is made
  pub at : ℕ → ℕ → ℕ → Showing
  -- round, node: the memory that is lent to it for its frame, before and after; and the value that it gives, where the round begins a cycle
  pub memory : ℕ → ℕ → List ℕ
  pub filled : ℕ → ℕ → List ℕ
  pub value : ℕ → ℕ → ℕ
  -- round, node: the common time at which the round begins for it; and which showings are of its clock in this round
  pub starts : ℕ → ℕ → ℕ
  pub of_round : ℕ → ℕ → Showing → Bool
  -- round, receiver, sender: the receiver's clock as the sender's message of the round begins to arrive, and as it has ended
  pub begins : ℕ → ℕ → ℕ → Showing
  pub over : ℕ → ℕ → ℕ → Showing
  -- round, receiver, sender: when the receiver's listener for the sender's slot begins, and all that it is told of, on any wire and in this order
  pub opened : ℕ → ℕ → ℕ → ℕ
  pub arrived : ℕ → ℕ → ℕ → List (Arrival (List ℕ))

-- the frame that a node sends in a round: the front of the memory, as long as the call answers
abbrev pub sent : Run → ℕ → ℕ → List ℕ
sent r k p = let node = r.node k p p in take (frame_length_of (turn_of node node.own)) (r.filled k p)

-- The same run as the schedule speaks of it: by the clocks and the messages. Node p sends with call number p of a round, counted from 0: the slots of nodes 0 to p - 1
-- are over before. The call behind those for all slots ends the round. That these calls are the ones that are due is shown. A node's frame is the same on all its wires.
abbrev pub showing : Moment → Showing
showing m = record { common = m.common; shown = m.clock.shown; below = m.clock.below }

abbrev pub moment : Showing → ℕ → Moment
moment s round = record { common = s.common; clock = record { shown = s.shown; round = round; below = s.below } }

abbrev pub round_counted : Run → ℕ → ℕ → ℕ
round_counted r k p = (r.node k p 0).clock.round

abbrev pub on_bus : Schedule → Run → bus.Run (List ℕ)
on_bus s r = record {
  of_round = λ k p m. r.of_round k p (showing m);
  starts = λ k p. record { common = r.starts k p; clock = (r.node k p 0).clock };
  sends = λ k p. moment (r.at k p p) (round_counted r k p);
  ends = λ k p. moment (r.at k p s.cluster.nodes) (round_counted r k p);
  begins = λ k p q. moment (r.begins k p q) (round_counted r k p);
  over = λ k p q. moment (r.over k p q) (round_counted r k p);
  said = sent r;
  opened = r.opened;
  arrived = r.arrived;
  heard = λ k p. (r.node k p s.cluster.nodes).heard;
}

-- What a node's listener for another one's slot in its round answers.
abbrev pub listened : Schedule → Run → ℕ → ℕ → ℕ → ℕ → Option (Received (List ℕ))
listened s r k p calls q = heard_in s (slot_in (r.node k p calls) q) (r.opened k p q) (r.arrived k p q)

-- What a call does, by its contract: the node and what is lent to it before and after. The call that ends a round leads to the next one.
abbrev pub Does : Schedule → Run → ℕ → ℕ → ℕ → ℕ → Call → Type 0
Does s r k p calls time Send =
    Sends (r.node k p calls) time (r.first k p calls) (r.second k p calls) (r.memory k p) (r.node k p (suc calls)) (r.first k p (suc calls))
    (r.second k p (suc calls)) (r.filled k p)
Does s r k p calls time (SlotOver q) =
    Hears (r.node k p calls) time q (listened s r k p calls q) (r.first k p calls) (r.second k p calls) (r.node k p (suc calls)) (r.first k p (suc calls))
    (r.second k p (suc calls))
Does s r k p calls time RoundOver =
    Ends (r.node k p calls) time (r.value (suc k) p) (r.first k p calls) (r.second k p calls) (r.node (suc k) p 0) (r.first (suc k) p 0)
    (r.second (suc k) p 0)

-- Whether a call is made in time, where it is due at `due`, and the one behind it at `next`: sending and the end of a round at just that time; the end of a slot at that
-- time or later, but no later than `next`.
abbrev pub MadeAt : Call → ℕ → ℕ → ℕ → Type 0
MadeAt Send due next shown = shown ≡ due
MadeAt (SlotOver q) due next shown = (due ≤ shown) × (shown ≤ next)
MadeAt RoundOver due next shown = shown ≡ due

-- A driver makes the call that the node names, when its clock shows the time for it.
pub record Called (s : Schedule) (r : Run) (k p calls : ℕ) : Type 0 where
  pub on_time :
      MadeAt (due_of (r.node k p calls)).call (due_of (r.node k p calls)).time (due_of (r.node k p (suc calls))).time (r.at k p calls).shown
  pub does : Does s r k p calls (r.at k p calls).shown (due_of (r.node k p calls)).call

-- What is asked of so many rounds, and of the one behind them up to the call with which each node sends: a message of that round might come too early, so it has to be in
-- the run. Nothing is asked of the faulty nodes, nor of what arrives from them. It is not asked that a call is taken, that a message is heard, or that a frame is not turned
-- away.
pub record Lawful (s : Schedule) (good : ℕ → Bool) (rounds : ℕ) (r : Run) : Type 0 where
  -- clocks run off by no more than the drift in a round, messages between good nodes are carried in time, and their wires carry nothing else
  pub world : World s good rounds (on_bus s r)
  -- drivers make the calls that are due
  pub called : (k p calls : ℕ) → k < rounds → GoodNode s.cluster good p → calls ≤ s.cluster.nodes → Called s r k p calls
  pub called_next : (p calls : ℕ) → GoodNode s.cluster good p → calls ≤ p → Called s r rounds p calls
  -- and lend memory that is long enough for the frame
  pub room : (k p : ℕ) → k ≤ rounds → GoodNode s.cluster good p → frame_length_of (turn_in s.cluster k p) ≤ length (r.memory k p)

-- the call for a slot of a round, and its time
abbrev pub slot_due : Schedule → ℕ → ℕ → ℕ → Due
slot_due s k p q = record {
  call = call_for p (Some q);
  time = cond (q == p) (send_time_of (timing_of s) (slot_of (timing_of s) k q)) (slot_end_of (timing_of s) (slot_of (timing_of s) k q));
}

-- How a good node is made: no later than its first call is due, with the value that it gives in its first cycle, and with two tables as long as the cluster needs.
pub record Begins (s : Schedule) (r : Run) (p : ℕ) : Type 0 where
  pub time : ℕ
  pub early : time ≤ (slot_due s 0 p 0).time
  pub old : List ℕ
  pub made : MadeWith s p time (r.value 0 p) old (r.node 0 p 0) (r.first 0 p 0)
  pub first_fits : length old ≡ table_length_of s.cluster
  pub second_fits : length (r.second 0 p 0) ≡ table_length_of s.cluster

-- How it starts: good nodes are made when their clocks are within the bound, and each no later than the first message of another good node begins to arrive.
pub record Started (s : Schedule) (good : ℕ → Bool) (r : Run) : Type 0 where
  pub begins : (p : ℕ) → GoodNode s.cluster good p → Begins s r p
  pub near : Apart s.cluster good (bound_of s.cluster) ((on_bus s r).starts 0)
  pub listens : (p q : ℕ) → GoodNode s.cluster good p → GoodNode s.cluster good q → (p ≢ q) → r.starts 0 p ≤ (r.begins 0 p q).common

-- the table that a node reads in a round, and the one that it writes, behind so many calls
abbrev pub reads : Run → ℕ → ℕ → List ℕ
reads r k p = read_in k (r.first k p 0) (r.second k p 0)

abbrev pub writes : Run → ℕ → ℕ → ℕ → List ℕ
writes r k p calls = written_in k (r.first k p calls) (r.second k p calls)

-- the call for a slot is due, and its time is not past
pub record Comes (s : Schedule) (r : Run) (k p q : ℕ) : Type 0 where
  pub due : due_of (r.node k p q) ≡ slot_due s k p q
  pub in_time : (r.node k p q).clock.shown ≤ (slot_due s k p q).time

-- A cycle that is over, by the round with which it began: any two good nodes have the same results, and for a good node that is the value that it gave.
pub record Agreed (s : Schedule) (good : ℕ → Bool) (r : Run) (round : ℕ) : Type 0 where
  pub same :
      (p q : ℕ) → GoodNode s.cluster good p → GoodNode s.cluster good q →
      results_in (r.node (round + s.cluster.faults + 1) p 0) ≡ results_in (r.node (round + s.cluster.faults + 1) q 0)
  pub right :
      (p : ℕ) → GoodNode s.cluster good p →
      (results : List ℕ) × (results_in (r.node (round + s.cluster.faults + 1) p 0) ≡ Some results) × (length results ≡ s.cluster.nodes)
      × ((q : ℕ) → GoodNode s.cluster good q → slice_index results q ≡ r.value round q)

-- What holds then.
pub record Standing (s : Schedule) (good : ℕ → Bool) (rounds : ℕ) (r : Run) : Type 0 where
  -- Good clocks stay together, good nodes hear each other, and nothing that they send overlaps: all that holds of a run on the bus.
  pub bus_stands : bus.Standing s good rounds (on_bus s r)
  -- No call is turned away: behind each the next one is due, in each round the one for each slot in its turn, and then the one for the round. And no setting takes a node
  -- past the time of its next call.
  pub slots : (k p q : ℕ) → k < rounds → GoodNode s.cluster good p → q < s.cluster.nodes → Comes s r k p q
  pub slots_next : (p q : ℕ) → GoodNode s.cluster good p → q ≤ p → Comes s r rounds p q
  pub ends :
      (k p : ℕ) → k < rounds → GoodNode s.cluster good p →
      due_of (r.node k p s.cluster.nodes) ≡ record { call = RoundOver; time = round_end_of (timing_of s) k }
  -- The frame of a good node is turned away by no good node in its turn, and what they enter of it is what it tells from the table that it reads.
  pub taken : (k q : ℕ) → k ≤ rounds → GoodNode s.cluster good q → Taken (turn_in s.cluster k q) (sent r k q)
  pub told :
      (k p q : ℕ) → k < rounds → GoodNode s.cluster good p → GoodNode s.cluster good q →
      Entered (turn_in s.cluster k q) (told_from (turn_in s.cluster k q) (reads r k q)) (writes r k p q) (writes r k p (suc q))
  -- At the end of each cycle they agree.
  pub agreed : (round : ℕ) → place_in_cycle s.cluster round ≡ 0 → round + s.cluster.faults < rounds → Agreed s good r round

-- The main theorem: so it holds of any run, for any schedule, any choice of faulty nodes that are no more than the cluster allows, and any number of rounds.
abbrev pub Stands : Type 0
Stands =
    (s : Schedule) (good : ℕ → Bool) (rounds : ℕ) (r : Run) → FewBad s.cluster good → Lawful s good rounds r → Started s good r →
    Standing s good rounds r
