-- How a script is read: which stage each line leads to, and which round ends. Assumes nothing: these are definitions.
use Rattle.std.specs.Prelude.{◌≡◌, ℕ, min, ◌+◌, ◌-◌, ◌^◌, ◌⊎◌, cond, List, Some, None, Option, nat_lt}
use Rattle.midpoint.specs.Refusals.{Row, first_applying}
use Rattle.script.specs.Words.{HasWords, before_comment}
use Rattle.script.specs.Text.{HasNumbers, words_of}
use Rattle.script.specs.Naming as naming
use Rattle.script.specs.Running as running
use Rattle.script.specs.declared.reason.Misfit.{Misfit}
use Rattle.script.specs.declared.reason.Misfit.TheVariants.{Expected}
use Rattle.script.specs.declared.reason.Lines.TheVariants as lines
use Rattle.script.specs.declared.reason.Reason.TheVariants as reasons
use Rattle.script.specs.declared.reason.Fault.{Fault}
use Rattle.script.specs.declared.reason.Fault.TheVariants as faults
use Rattle.script.specs.declared.reason.Untaken.{Untaken}
use Rattle.script.specs.declared.reason.Untaken.TheVariants as untaken
use Rattle.script.specs.declared.entry.Entry.{Entry}
use Rattle.script.specs.declared.entry.Entry.TheVariants as entry
use Rattle.script.specs.declared.setup.Setup.{Setup}
use Rattle.script.specs.declared.round.Round.{Round}
use Rattle.script.specs.declared.reader.Stage.{Stage}
use Rattle.script.specs.declared.reader.Stage.TheVariants as stage
use Rattle.script.specs.declared.naming.Naming.{Naming}
use Rattle.script.specs.declared.reader.Reader.{Reader}

-- a line that does not fit, for this reason
abbrev pub Misfitting : (Misfit → Type 0) → Untaken → Type 0
Misfitting why (untaken.Wrong (reasons.Misfit misfit)) = why misfit
Misfitting why (untaken.Wrong (reasons.Malformed malformed)) = ⊥
Misfitting why untaken.Memory = ⊥

-- a line that cannot be read, or memory was wanting
abbrev pub Unreadable : Untaken → Type 0
Unreadable (untaken.Wrong (reasons.Malformed malformed)) = Unit {0}
Unreadable (untaken.Wrong (reasons.Misfit misfit)) = ⊥
Unreadable untaken.Memory = Unit {0}

-- a line that does not fit, by the first row that applies; or, where none does, memory was wanting
abbrev pub OrMemory : List (Row Misfit) → Untaken → Type 0
OrMemory rows (untaken.Wrong (reasons.Misfit misfit)) = first_applying rows ≡ Some misfit
OrMemory rows (untaken.Wrong (reasons.Malformed malformed)) = ⊥
OrMemory rows untaken.Memory = first_applying rows ≡ None

-- while nodes are named, a line names one; or rounds begin, once all are named
abbrev pub Named : Naming → Entry → Stage → Type 0
Named s entry.Round (stage.Running t) = running.Begun s.setup t
Named s entry.Round other = ⊥
Named s line (stage.Naming t) = naming.NodeNamed s line t
Named s line other = ⊥

-- a line takes a stage to another one, and a round may end with it
abbrev pub Took : Stage → Entry → Stage → Option Round → Type 0
Took stage.Start line (stage.Configured c) round = naming.Configured line c × (round ≡ None)
Took (stage.Configured c) line (stage.Naming t) round = naming.Timed c line t × (round ≡ None)
Took (stage.Naming s) line t round = (first_applying (naming.misfits s line) ≡ None) × Named s line t × (round ≡ None)
Took (stage.Running s) line (stage.Running t) round = (first_applying (running.misfits s line) ≡ None) × running.Took s line t round
Took s line t round = ⊥

abbrev pub NotTaken : Stage → Entry → Untaken → Type 0
NotTaken stage.Start line why = Misfitting (naming.NotConfigured line) why
NotTaken (stage.Configured c) line why = Misfitting (naming.NotTimed c line) why
NotTaken (stage.Naming s) line why = Misfitting (λ misfit. first_applying (naming.misfits s line) ≡ Some misfit) why
NotTaken (stage.Running s) line why = OrMemory (running.misfits s line) why

-- the end of a script: what is missing, or the round under way, which ends
abbrev pub Ended : Stage → Stage → Option Round → Type 0
Ended (stage.Naming s) t round = (first_applying (naming.incomplete s) ≡ None) × (t ≡ stage.Naming s) × (round ≡ None)
Ended (stage.Running s) (stage.Running t) round = running.NextBegun s t × (round ≡ Some s.round)
Ended s t round = ⊥

abbrev pub NotEnded : Stage → Misfit → Type 0
NotEnded stage.Start misfit = misfit ≡ Expected lines.Cluster
NotEnded (stage.Configured c) misfit = misfit ≡ Expected lines.Timing
NotEnded (stage.Naming s) misfit = first_applying (naming.incomplete s) ≡ Some misfit
NotEnded (stage.Running s) misfit = ⊥

-- the cluster and its nodes, once all of them are named
abbrev pub setup_of : Stage → Option Setup
setup_of stage.Start = None
setup_of (stage.Configured c) = None
setup_of (stage.Naming s) = cond (nat_lt (naming.first_unnamed s) s.setup.schedule.cluster.nodes) None (Some s.setup)
setup_of (stage.Running s) = Some s.setup

-- A line with the words of an entry that has only numbers says this entry. What other text says is not stated here.
abbrev pub Says : List ℕ → Option Entry → Type 0
Says text said = (line : Entry) → HasNumbers line → HasWords (before_comment text) (words_of line) → said ≡ Some line

-- The lines that have been read are counted up to 2^64 - 1. A line says something, or nothing.
abbrev pub next_line : Reader → ℕ
next_line s = min (s.lines + 1) (2 ^ 64 - 1)

abbrev pub TookAny : Stage → Option Entry → Stage → Option Round → Type 0
TookAny s None t round = (t ≡ s) × (round ≡ None)
TookAny s (Some line) t round = Took s line t round

pub record Read (text : List ℕ) (s t : Reader) (round : Option Round) : Type 0 where
  pub line : Option Entry
  pub says : Says text line
  pub took : TookAny s.stage line t.stage round

-- a line that cannot be read, or one that does not fit
abbrev pub Unread : List ℕ → Stage → Untaken → Type 0
Unread text s why = (Unreadable why × Says text None) ⊎ ((line : Entry) × Says text (Some line) × NotTaken s line why)

abbrev pub fault_at : ℕ → Untaken → Fault
fault_at line (untaken.Wrong reason) = faults.Line line reason
fault_at line untaken.Memory = faults.Memory

-- the fault of a line that is not taken, and that of an end that comes too early: both name the line, the end the one after the last
abbrev pub FaultOfLine : List ℕ → Reader → Fault → Type 0
FaultOfLine text s fault = (why : Untaken) × Unread text s.stage why × (fault ≡ fault_at (next_line s) why)

abbrev pub FaultOfEnd : Reader → Fault → Type 0
FaultOfEnd s fault = (why : Misfit) × NotEnded s.stage why × (fault ≡ fault_at (next_line s) (untaken.Wrong (reasons.Misfit why)))
