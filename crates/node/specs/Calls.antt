-- When a call is turned away, and what it then leaves. Assumes nothing: these are definitions.
use Rattle.std.specs.Prelude.{◌≡◌, ℕ, true, not, ◌||◌, List, [], ◌∷◌, ◌++◌, map, Ok, Err, Result, ◌==◌, nat_lt, nat_le, MatchOption}
use Rattle.midpoint.specs.Refusals.{Row, refused_if, first_applying}
use Rattle.midpoint.specs.Setting.{shown}
use Rattle.clock.specs.declared.limits.Clock.{Clock}
use Rattle.clock.specs.declared.setting.Refusal.TheVariants.{PastLimit, Earlier}
use Rattle.frame.specs.Writing.{too_short}
use Rattle.frame.specs.declared.turn.Turn.{Turn}
use Rattle.relay.specs.Nodes.{among, added}
use Rattle.relay.specs.Tables as of_tables
use Rattle.agreement.specs.Results.{carried}
use Rattle.node.specs.Nodes.{turn_of}
use Rattle.node.specs.declared.state.Node.{Node}
use Rattle.node.specs.declared.refusal.Refusal.{Refusal}
use Rattle.node.specs.declared.refusal.Refusal.TheVariants.{Time, Frame, Table, OutOfTurn}

-- The two rows of the time: it is one that no clock comes to, at the own number; it is earlier than the last one.
abbrev pub past_limit : ℕ → ℕ → Row Refusal
past_limit own time = refused_if (not (shown time)) (Time (PastLimit own))

abbrev pub earlier : Node → ℕ → Row Refusal
earlier node time = refused_if (nat_lt time node.clock.shown) (Time Earlier)

-- one of the two tables has another length than the cluster needs
abbrev pub unfit_tables : Node → List ℕ → List ℕ → List (Row Refusal)
unfit_tables node first second =
    carried Table (of_tables.unfit node.schedule.cluster first) ∷ carried Table (of_tables.unfit node.schedule.cluster second) ∷ []

-- A call has a list of its own between the two rows of the time.
abbrev pub around : Node → ℕ → List (Row Refusal) → List (Row Refusal)
around node time rows = past_limit node.own time ∷ rows ++ earlier node time ∷ []

-- Why a node does not send in a turn: the memory is too short for the frame; a table; it has sent in this round.
abbrev pub unsent_in : Node → Turn → List ℕ → List ℕ → List ℕ → List (Row Refusal)
unsent_in node turn first second memory =
    map (carried Frame) (too_short turn memory) ++ unfit_tables node first second ++ refused_if (among node.over node.own) OutOfTurn ∷ []

abbrev pub unsent : Node → ℕ → List ℕ → List ℕ → List ℕ → List (Row Refusal)
unsent node time first second memory = around node time (unsent_in node (turn_of node node.own) first second memory)

-- Why a slot is not over for it: a table; it is the slot of no node, or its own, or over already.
abbrev pub unheard_in : Node → ℕ → List ℕ → List ℕ → List (Row Refusal)
unheard_in node sender first second =
    unfit_tables node first second
    ++ refused_if (nat_le node.schedule.cluster.nodes sender || sender == node.own || among node.over sender) OutOfTurn ∷ []

abbrev pub unheard : Node → ℕ → ℕ → List ℕ → List ℕ → List (Row Refusal)
unheard node time sender first second = around node time (unheard_in node sender first second)

-- Why the end of a round is turned away: a table.
abbrev pub unended : Node → ℕ → List ℕ → List ℕ → List (Row Refusal)
unended node time first second = around node time (unfit_tables node first second)

-- an answer as rows: a refusal is one that applies
abbrev pub as_rows : Result (Unit {0}) Refusal → List (Row Refusal)
as_rows (Ok _) = []
as_rows (Err refusal) = refused_if true refusal ∷ []

-- the clock of a node at a local time
pub record At (node : Node) (time : ℕ) (clock : Clock) : Type 0 where
  pub shows : clock.shown ≡ time
  pub its_round : clock.round ≡ node.clock.round

-- the same node in the same round, at a time, where the slot of one node more is over
pub record Passed (before : Node) (time sender : ℕ) (after : Node) : Type 0 where
  pub its_schedule : after.schedule ≡ before.schedule
  pub its_own : after.own ≡ before.own
  pub clock : At before time after.clock
  pub its_over : (other : ℕ) → among after.over other ≡ added (among before.over) sender other
  pub its_results : after.results ≡ before.results

-- a call that was turned away: the node and the two tables are as before
pub record NothingDone (before : Node) (first second : List ℕ) (after : Node) (first_after second_after : List ℕ) : Type 0 where
  pub node : after ≡ before
  pub first_stays : first_after ≡ first
  pub second_stays : second_after ≡ second

-- What a call leaves: what it does, where no row of its list applies, or all as it was.
abbrev pub Leaves : List (Row Refusal) → Type 0 → Type 0 → Type 0
Leaves rows done kept = MatchOption (first_applying rows) done (λ refusal. kept)
