-- What the lines of a round make of it, and why one does not fit. Assumes nothing: these are definitions.
use Rattle.std.specs.Prelude.{◌≡◌, ℕ, min, ◌+◌, ◌-◌, ◌^◌, true, List, [], ◌∷◌, ◌++◌, ℤ, is_some, Some, None, Option, ◌==◌, nat_lt, slice_index_or, unsigned_abs}
use Rattle.midpoint.specs.Refusals.{Row, refused_if}
use Rattle.clock.specs.Config.{error_of}
use Rattle.frame.specs.Layout.{frame_of}
use Rattle.frame.specs.declared.turn.Turn.{Turn}
use Rattle.script.specs.Rounds.{nothing_given, with_entry, with_place}
use Rattle.script.specs.Setup.{not_good, not_bad}
use Rattle.script.specs.declared.reason.Misfit.{Misfit}
use Rattle.script.specs.declared.reason.Misfit.TheVariants.{Expected, OwnClock, JitterPast, DriftPast, JitterTwice, DriftTwice, ValueTwice}
use Rattle.script.specs.declared.reason.Lines.TheVariants as lines
use Rattle.script.specs.declared.entry.Entry.{Entry}
use Rattle.script.specs.declared.entry.Entry.TheVariants as entry
use Rattle.script.specs.declared.entry.Content.{Content}
use Rattle.script.specs.declared.entry.Content.TheVariants.{Values, Bytes}
use Rattle.script.specs.declared.setup.Setup.{Setup}
use Rattle.script.specs.declared.round.Message.{Message}
use Rattle.script.specs.declared.round.Round.{Round}
use Rattle.script.specs.declared.running.Running.{Running}

-- a round of which the script has said nothing yet
pub record NothingSaid (round : Round) : Type 0 where
  pub messages : round.messages.items ≡ []
  pub given : round.given ≡ nothing_given

-- The first round of a cluster has begun; or the one after the round under way. Rounds count up to 2^64 - 1.
pub record Begun (s : Setup) (t : Running) : Type 0 where
  pub setup : t.setup ≡ s
  pub number : t.number ≡ 0
  pub round : NothingSaid t.round

pub record NextBegun (s t : Running) : Type 0 where
  pub setup : t.setup ≡ s.setup
  pub number : t.number ≡ min (s.number + 1) (2 ^ 64 - 1)
  pub round : NothingSaid t.round

-- The bytes of a message: as they are given, or those of a frame of its sender in the round under way with these values.
abbrev pub turn_of : Running → ℕ → Turn
turn_of s sender = record { cluster = s.setup.schedule.cluster; sender = sender; round = s.number }

abbrev pub bytes_said : Running → ℕ → Content → List ℕ
bytes_said s sender (Values values) = frame_of (turn_of s sender) values.items
bytes_said s sender (Bytes bytes) = bytes.items

-- A message is of a bad node to a good one.
abbrev pub unsayable : Running → ℕ → ℕ → List (Row Misfit)
unsayable s from to = not_bad s.setup from ++ not_good s.setup to

pub record MessageOf (s : Running) (q p ahead : ℕ) (content : Content) (message : Message) : Type 0 where
  pub from : message.from ≡ q
  pub to : message.to ≡ p
  pub reading : message.reading ≡ ahead
  pub bytes : message.bytes.items ≡ bytes_said s q content

pub record Said (s : Running) (q p ahead : ℕ) (content : Content) (t : Running) : Type 0 where
  pub message : Message
  pub is : MessageOf s q p ahead content message
  pub messages : t.round.messages.items ≡ s.round.messages.items ++ message ∷ []
  pub given : t.round.given ≡ s.round.given
  pub setup : t.setup ≡ s.setup
  pub number : t.number ≡ s.number

-- A jitter is of two good nodes that differ, at most the error either way, and given once.
abbrev pub no_jitter : Running → ℕ → ℕ → ℤ → List (Row Misfit)
no_jitter s node of by =
    not_good s.setup node ++ not_good s.setup of ++ (
    refused_if (node == of) (OwnClock node)
    ∷ refused_if (nat_lt (error_of s.setup.schedule.cluster) (unsigned_abs by)) (JitterPast (error_of s.setup.schedule.cluster))
    ∷ refused_if (is_some (slice_index_or (slice_index_or s.round.given.jitter node []) of None)) (JitterTwice node of)
    ∷ []
    )

pub record Jittered (s : Running) (node of : ℕ) (by : ℤ) (t : Running) : Type 0 where
  pub messages : t.round.messages ≡ s.round.messages
  pub jitter : t.round.given.jitter ≡ with_entry s.round.given.jitter node of (Some by)
  pub drift : t.round.given.drift ≡ s.round.given.drift
  pub next : t.round.given.next ≡ s.round.given.next
  pub setup : t.setup ≡ s.setup
  pub number : t.number ≡ s.number

-- A drift is of a good node, at most the cluster's either way, and given once.
abbrev pub no_drift : Running → ℕ → ℤ → List (Row Misfit)
no_drift s node by =
    not_good s.setup node ++ (
    refused_if (nat_lt s.setup.schedule.cluster.drift (unsigned_abs by)) (DriftPast s.setup.schedule.cluster.drift)
    ∷ refused_if (is_some (slice_index_or s.round.given.drift node None)) (DriftTwice node)
    ∷ []
    )

pub record Drifted (s : Running) (node : ℕ) (by : ℤ) (t : Running) : Type 0 where
  pub messages : t.round.messages ≡ s.round.messages
  pub jitter : t.round.given.jitter ≡ s.round.given.jitter
  pub drift : t.round.given.drift ≡ with_place s.round.given.drift node (Some by)
  pub next : t.round.given.next ≡ s.round.given.next
  pub setup : t.setup ≡ s.setup
  pub number : t.number ≡ s.number

-- A next value is of a good node, and given once.
abbrev pub no_value : Running → ℕ → List (Row Misfit)
no_value s node = not_good s.setup node ++ (refused_if (is_some (slice_index_or s.round.given.next node None)) (ValueTwice node) ∷ [])

pub record Valued (s : Running) (node value : ℕ) (t : Running) : Type 0 where
  pub messages : t.round.messages ≡ s.round.messages
  pub jitter : t.round.given.jitter ≡ s.round.given.jitter
  pub drift : t.round.given.drift ≡ s.round.given.drift
  pub next : t.round.given.next ≡ with_place s.round.given.next node (Some value)
  pub setup : t.setup ≡ s.setup
  pub number : t.number ≡ s.number

-- a line while rounds run: why it does not fit; what it makes, and the round that ends with it, if one does
abbrev pub misfits : Running → Entry → List (Row Misfit)
misfits s (entry.Says from to reading content) = unsayable s from to
misfits s (entry.Jitter node of by) = no_jitter s node of by
misfits s (entry.Drift node by) = no_drift s node by
misfits s (entry.Value node next) = no_value s node
misfits s entry.Round = []
misfits s other = refused_if true (Expected lines.Rounds) ∷ []

abbrev pub Took : Running → Entry → Running → Option Round → Type 0
Took s (entry.Says from to reading content) t round = Said s from to reading content t × (round ≡ None)
Took s (entry.Jitter node of by) t round = Jittered s node of by t × (round ≡ None)
Took s (entry.Drift node by) t round = Drifted s node by t × (round ≡ None)
Took s (entry.Value node next) t round = Valued s node next t × (round ≡ None)
Took s entry.Round t round = NextBegun s t × (round ≡ Some s.round)
Took s other t round = ⊥
