-- A node that sends. Assumes nothing: these are definitions.
use Rattle.std.specs.Prelude.{◌≡◌, ℕ, List, slice_index}
use Rattle.frame.specs.Layout.{value_count_of}
use Rattle.frame.specs.Writing.{FirstFit, with_frame}
use Rattle.relay.specs.Telling.{told_from, Entered}
use Rattle.node.specs.Nodes.{turn_of, read_in, written_in}
use Rattle.node.specs.Calls.{unsent, Passed, NothingDone, Leaves}
use Rattle.node.specs.declared.state.Node.{Node}

-- A node that has sent what it tells from the table that it reads: the memory has the frame, and the written table its own entries.
pub record Sent (before : Node) (time : ℕ) (read old memory : List ℕ) (after : Node) (new filled : List ℕ) : Type 0 where
  pub passed : Passed before time before.own after
  pub its_heard : after.heard ≡ before.heard
  pub frame : filled ≡ with_frame (turn_of before before.own) (slice_index (told_from (turn_of before before.own) read)) memory
  pub fits : FirstFit (slice_index (told_from (turn_of before before.own) read)) (value_count_of (turn_of before before.own))
  pub entered : Entered (turn_of before before.own) (told_from (turn_of before before.own) read) old new

-- What the call leaves, with the two tables and the memory before and after.
pub record SentBy (before : Node) (time : ℕ) (first second memory : List ℕ) (after : Node) (first_after second_after filled : List ℕ) : Type 0 where
  pub sent :
      Sent before time (read_in before.clock.round first second) (written_in before.clock.round first second) memory after
      (written_in before.clock.round first_after second_after) filled
  pub reads_on : read_in before.clock.round first_after second_after ≡ read_in before.clock.round first second

abbrev pub Sends : Node → ℕ → List ℕ → List ℕ → List ℕ → Node → List ℕ → List ℕ → List ℕ → Type 0
Sends before time first second memory after first_after second_after filled =
    Leaves (unsent before time first second memory) (SentBy before time first second memory after first_after second_after filled)
    (NothingDone before first second after first_after second_after × (filled ≡ memory))
