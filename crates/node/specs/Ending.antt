-- A node for which a round is over. Assumes nothing: these are definitions.
use Rattle.std.specs.Prelude.{◌≡◌, ℕ, Bool, false, cond, not, List, [], None, Some, Option, Ok, Err, Result, replicate, filter, ◌==◌}
use Rattle.std.specs.List.{range_with_len}
use Rattle.midpoint.specs.Setting.{SetSays, most_readings}
use Rattle.midpoint.specs.declared.refusal.Refusal.{Refusal}
use Rattle.clock.specs.Setting.{settled, readings, next_round_of}
use Rattle.frame.specs.Layout.{place_in_cycle}
use Rattle.frame.specs.Writing.{written_over}
use Rattle.relay.specs.Nodes.{among}
use Rattle.relay.specs.Tables.{with_entry}
use Rattle.relay.specs.Telling.{told_from, nothing_heard}
use Rattle.relay.specs.Theorems.{EnteredAll}
use Rattle.agreement.specs.Results.{results_of}
use Rattle.node.specs.Nodes.{turn_of, read_in, written_in}
use Rattle.node.specs.Calls.{unended, NothingDone, Leaves}
use Rattle.node.specs.declared.state.Node.{Node}
use Rattle.node.specs.declared.ending.Setting.{Setting}
use Rattle.node.specs.declared.ending.Setting.TheVariants.{SetTo, Kept}

-- What becomes of a node's clock at a time: it is set to the midpoint of what the node reads of all nodes, or kept, where these readings are turned away.
abbrev pub answer_of : Setting → Result ℕ Refusal
answer_of (SetTo time) = Ok time
answer_of (Kept refusal) = Err refusal

abbrev pub IsSet : Node → ℕ → Setting → Type 0
IsSet node time setting =
    SetSays node.schedule.cluster.faults (readings node.schedule.cluster.nodes node.own time node.heard) (answer_of setting)

-- and what it then shows
abbrev pub shown_by : ℕ → Setting → ℕ
shown_by time (SetTo set) = set
shown_by time (Kept refusal) = time

-- The nodes whose slots are not over yet as the round is. Of each of them nothing was heard; if it is this one, it holds what it would have told.
abbrev pub missed : Node → List ℕ
missed node = filter (λ q. not (among node.over q)) (range_with_len 0 node.schedule.cluster.nodes)

abbrev pub value_missed : Node → List ℕ → ℕ → List ℕ
value_missed node read q = cond (q == node.own) (told_from (turn_of node q) read) (nothing_heard (turn_of node q))

abbrev pub Completed : Node → List ℕ → List ℕ → List ℕ → Type 0
Completed node read old new = EnteredAll node.schedule.cluster node.clock.round (value_missed node read) (missed node) old new

-- whether the round is the last one of its cycle, and the results behind it: those of the cycle, for each node in order, or else those from before
abbrev pub is_last : Node → Bool
is_last node = place_in_cycle node.schedule.cluster node.clock.round == node.schedule.cluster.faults

abbrev pub results_after : Node → List ℕ → Option (List ℕ)
results_after node table =
    cond (is_last node) (Some (written_over (results_of node.schedule.cluster table) (replicate most_readings 0))) node.results

-- a node in the next round, and the table that it reads there
pub record Ended (before : Node) (time value : ℕ) (read old : List ℕ) (after : Node) (new : List ℕ) : Type 0 where
  pub whole : List ℕ
  pub completed : Completed before read old whole
  pub begins : new ≡ cond (is_last before) (with_entry before.schedule.cluster [] value whole) whole
  pub its_schedule : after.schedule ≡ before.schedule
  pub its_own : after.own ≡ before.own
  pub shows :
      after.clock.shown
      ≡ settled before.schedule.cluster.faults time (readings before.schedule.cluster.nodes before.own time before.heard)
  pub its_round : after.clock.round ≡ next_round_of before.clock.round
  pub its_over : (other : ℕ) → among after.over other ≡ false
  pub its_heard : after.heard ≡ replicate most_readings None
  pub its_results : after.results ≡ results_after before whole

-- What the call leaves, with the two tables before and after.
pub record EndedBy (before : Node) (time value : ℕ) (first second : List ℕ) (after : Node) (first_after second_after : List ℕ) : Type 0 where
  pub ended :
      Ended before time value (read_in before.clock.round first second) (written_in before.clock.round first second) after
      (written_in before.clock.round first_after second_after)
  pub reads_on : read_in before.clock.round first_after second_after ≡ read_in before.clock.round first second

abbrev pub Ends : Node → ℕ → ℕ → List ℕ → List ℕ → Node → List ℕ → List ℕ → Type 0
Ends before time value first second after first_after second_after =
    Leaves (unended before time first second) (EndedBy before time value first second after first_after second_after)
    (NothingDone before first second after first_after second_after)
