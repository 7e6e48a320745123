-- A round of the cluster: its slots, one after the other, and its end. What each good node does is the node's own. Assumes nothing: these are definitions.
use Rattle.std.specs.Prelude.{◌≡◌, ℕ, ◌+◌, ◌*◌, ◌<◌, ◌≤◌, min, not, ◌&&◌, Bool, true, ℤ, List, [], ◌∷◌, length, take, slice_index_or, slice_set, Some, None, Option, ◌≢◌, ◌==◌}
use Rattle.std.specs.Option.{option_map}
use Rattle.clock.specs.Deviation.{deviation_of, moved, largest}
use Rattle.clock.specs.Setting.{next_round_of}
use Rattle.schedule.specs.declared.limits.Schedule.{Schedule}
use Rattle.schedule.specs.declared.listening.Received.{Received}
use Rattle.frame.specs.Layout.{place_in_cycle}
use Rattle.frame.specs.declared.turn.TheConstants.{MAX_FRAME_LENGTH}
use Rattle.script.specs.Rounds.{only_message, jitter_of, drift_of, next_of}
use Rattle.cluster.specs.Stations.{Starts, SentBy, HeardBy, EndedBy}
use Rattle.script.specs.declared.round.Message.{Message}
use Rattle.script.specs.declared.round.Given.{Given}
use Rattle.script.specs.declared.round.Round.{Round}
use Rattle.script.specs.declared.setup.Setup.{Setup}
use Rattle.script.specs.declared.setup.Starting.{Starting}
use Rattle.script.specs.declared.setup.Starting.TheVariants as starting
use Rattle.cluster.specs.declared.station.Station.{Station}
use Rattle.cluster.specs.declared.bus.Player.{Player}
use Rattle.cluster.specs.declared.bus.Player.TheVariants.{Bad, Good}
use Rattle.cluster.specs.declared.bus.Sent.{Sent}
use Rattle.cluster.specs.declared.bus.Sent.TheVariants as sent
use Rattle.cluster.specs.declared.bus.Bus.{Bus}

-- a node of the cluster, and how long a round is
abbrev pub player : Bus → ℕ → Player
player b p = slice_index_or b.players p Bad

abbrev pub span_of : Schedule → ℕ
span_of s = s.cluster.nodes * s.length

-- The cluster as it begins, with each good node as it starts; common time is 0.
abbrev pub StartsWith : Schedule → ℕ → Starting → Player → Type 0
StartsWith s p starting.Bad node = node ≡ Bad
StartsWith s p (starting.Good value ahead) node = (station : Station) × (node ≡ Good station) × Starts s p value ahead station

abbrev pub StartsAs : Setup → ℕ → Player → Type 0
StartsAs setup p node = StartsWith setup.schedule p (slice_index_or setup.starting p starting.Bad) node

pub record Begins (setup : Setup) (b : Bus) : Type 0 where
  pub schedule : b.schedule ≡ setup.schedule
  pub round : b.round ≡ 0
  pub common : b.common ≡ 0
  pub players : (p : ℕ) → p < setup.schedule.cluster.nodes → StartsAs setup p (player b p)
  pub past : (p : ℕ) → setup.schedule.cluster.nodes ≤ p → player b p ≡ Bad
  pub memory : length b.memory.items ≡ MAX_FRAME_LENGTH

-- A node's own slot: of a bad one the script says what there is on the wires; a good one makes its call, and its frame is there, or nothing.
abbrev pub sent_of : ℕ → Option ℕ → Sent
sent_of time None = sent.Nothing
sent_of time (Some length) = sent.Frame time length

abbrev pub SendsAs : Player → List ℕ → Player → List ℕ → Sent → Type 0
SendsAs Bad memory after filled w = (after ≡ Bad) × (filled ≡ memory) × (w ≡ sent.ByScript)
SendsAs (Good before) memory after filled w =
    (station : Station) × (after ≡ Good station) × (answer : Option ℕ) × SentBy before memory station filled answer × (w ≡ sent_of before.time answer)

-- What a node that shows the own time hears in a slot. Of a bad node it hears the only message that the script has from that one to it, with the reading that stands
-- there; of a good one its frame, as a listener would give it: that one's clock, read wrong by the jitter.
abbrev pub of_script : ℕ → ℕ → Message → Received (List ℕ)
of_script common own m = record { deviation = deviation_of (min (common + m.reading) largest) own; message = m.bytes.items }

abbrev pub of_frame : ℕ → ℤ → ℕ → List ℕ → Received (List ℕ)
of_frame time jitter own frame = record { deviation = deviation_of (moved time jitter) own; message = frame }

abbrev pub slot_heard : Sent → ℕ → List ℕ → Round → ℕ → ℕ → ℕ → Option (Received (List ℕ))
slot_heard sent.ByScript common memory r q p own = option_map (of_script common own) (only_message r p q)
slot_heard sent.Nothing common memory r q p own = None
slot_heard (sent.Frame time length) common memory r q p own = Some (of_frame time (jitter_of r.given p q) own (take length memory))

abbrev pub HearsAs : ℕ → (ℕ → Option (Received (List ℕ))) → Player → Player → Type 0
HearsAs q heard Bad after = after ≡ Bad
HearsAs q heard (Good before) after = (station : Station) × (after ≡ Good station) × HeardBy before q (heard before.time) station

-- One slot. The other nodes hear of it what there is on the wires as its node has sent; and nothing else changes.
abbrev pub OthersHear : Bus → Round → ℕ → Sent → Bus → Type 0
OthersHear before r q on_wires after =
    (p : ℕ) → p < 16 → (p ≢ q) → HearsAs q (slot_heard on_wires before.common before.memory.items r q p) (player before p) (player after p)

-- all is the same but the nodes
pub record SameBus (before after : Bus) : Type 0 where
  pub schedule : after.schedule ≡ before.schedule
  pub round : after.round ≡ before.round
  pub common : after.common ≡ before.common
  pub memory : after.memory.items ≡ before.memory.items

pub record SlotOver (before : Bus) (r : Round) (q : ℕ) (after : Bus) : Type 0 where
  pub between : Bus
  pub on_wires : Sent
  pub sends : SendsAs (player before q) before.memory.items (player between q) between.memory.items on_wires
  pub players : between.players ≡ slice_set before.players q (player between q)
  pub schedule : between.schedule ≡ before.schedule
  pub round : between.round ≡ before.round
  pub common : between.common ≡ before.common
  pub room : length between.memory.items ≡ length before.memory.items
  pub hears : OthersHear between r q on_wires after
  pub own : player after q ≡ player between q
  pub same : SameBus between after

-- the slots of so many nodes, one after the other
pub data Slots (before : Bus) (r : Round) : ℕ → Bus → Type 0 where
  none_yet : Slots before r 0 before
  one_more : (count : ℕ) (between after : Bus) → Slots before r count between → SlotOver between r count after → Slots before r (count + 1) after

-- The end of the round, for each good node. Common time goes on by a round.
abbrev pub is_last : Bus → Bool
is_last b = place_in_cycle b.schedule.cluster b.round == b.schedule.cluster.faults

abbrev pub EndsAs : Bool → ℕ → Given → ℕ → Player → Player → Type 0
EndsAs last span given p Bad after = after ≡ Bad
EndsAs last span given p (Good before) after =
    (station : Station) × (after ≡ Good station) × EndedBy before (next_of given p) last span (drift_of given p) station

pub record RoundOver (before : Bus) (r : Round) (after : Bus) : Type 0 where
  pub ends : (p : ℕ) → p < 16 → EndsAs (is_last before) (span_of before.schedule) r.given p (player before p) (player after p)
  pub schedule : after.schedule ≡ before.schedule
  pub round : after.round ≡ next_round_of before.round
  pub common : after.common ≡ min (before.common + span_of before.schedule) largest
  pub memory : after.memory.items ≡ before.memory.items

-- a round that was played
pub record Plays (before : Bus) (r : Round) (after : Bus) : Type 0 where
  pub between : Bus
  pub slots : Slots before r before.schedule.cluster.nodes between
  pub over : RoundOver between r after

-- rounds, one after the other
pub data PlaysAll : Bus → List Round → Bus → Type 0 where
  no_more : (b : Bus) → PlaysAll b [] b
  one_first : (before between after : Bus) (r : Round) (rest : List Round) → Plays before r between → PlaysAll between rest after → PlaysAll before (r ∷ rest) after

-- What whoever watches made of them: of each round that was played, one after the other, with the cluster as it was behind that round. More was wanted behind each
-- but the last one; whether it was behind the last one too is said.
abbrev pub wanted : Bool → List Round → Bool
wanted more [] = more
wanted more (_ ∷ _) = true

abbrev pub SeenIn : {W : Type 0} (sees : W → Bus → Round → Bool → W → Type 0) (before after : Bus) (rounds : List Round) → PlaysAll before rounds after →
    W → Bool → W → Type 0
SeenIn sees _ _ _ (no_more b) watch more watched = watched ≡ watch
SeenIn {W} sees _ _ _ (one_first before between after r rest plays played) watch more watched =
    (then : W) × sees watch between r (wanted more rest) then × SeenIn sees between after rest played then more watched

-- whether the last round that was played was the last one of its cycle
abbrev pub has_ended_cycle : Bus → Bool
has_ended_cycle b = not (b.round == 0) && place_in_cycle b.schedule.cluster b.round == 0
