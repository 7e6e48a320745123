-- What is proved of frames. Each statement is demanded by the contract of a function of src/theorems.rt. Assumes nothing.
use Rattle.std.specs.Prelude.{◌≡◌, ℕ, ℤ, ◌+◌, ◌-◌, ◌*◌, ◌^◌, ◌<◌, ◌≤◌, ◌↔◌, List, length, take, slice_set, All, None}
use Rattle.midpoint.specs.Refusals.{first_applying}
use Rattle.clock.specs.declared.limits.Cluster.{Cluster}
use Rattle.frame.specs.Numbers.{Bytes}
use Rattle.frame.specs.Layout.{header_length, value_length, place_in_cycle, value_count_of, frame_length_of, header_round_of, header_of, frame_of, payload_of, values_in}
use Rattle.frame.specs.Reading.{untaken, Receives}
use Rattle.frame.specs.Writing.{first_values, FirstFit, with_frame, with_value}
use Rattle.frame.specs.declared.turn.Turn.{Turn}
use Rattle.frame.specs.declared.turn.TheConstants.{HEADER_LENGTH, VALUE_LENGTH, MAX_FRAME_LENGTH}
use Rattle.frame.specs.declared.reading.Reception.{Reception}
use Rattle.frame.specs.declared.reading.Reception.TheVariants.{Whole, TurnedAway}

-- values that a frame can carry: as many as its round asks, each below 2^32
pub record Carried (t : Turn) (values : List ℕ) : Type 0 where
  pub as_many : length values ≡ value_count_of t
  pub fit : All (λ value. value < 2 ^ 32) values

-- a frame that no check turns away
abbrev pub Taken : Turn → List ℕ → Type 0
Taken t frame = first_applying (untaken t frame) ≡ None

-- Round trip: where a frame was written into memory, the front of it, as long as the frame, is the frame of these values; it is taken, and has them.
pub record ReadAs (t : Turn) (frame values : List ℕ) : Type 0 where
  pub carried : Carried t values
  pub written : frame ≡ frame_of t values
  pub taken : Taken t frame
  pub same_values : values_in (payload_of frame) ≡ values

abbrev pub written_frame : Turn → (ℕ → ℕ) → List ℕ → List ℕ
written_frame t value memory = take (frame_length_of t) (with_frame t value memory)

abbrev pub RoundTrip : Type 0
RoundTrip =
    (t : Turn) (value : ℕ → ℕ) (memory : List ℕ) → FirstFit value (value_count_of t) →
    ReadAs t (written_frame t value memory) (first_values value (value_count_of t))

-- So what was written and is heard in its turn is never turned away: it is received whole, with its deviation and the values that were written.
abbrev pub WholeWith : ℤ → List ℕ → Reception → Type 0
WholeWith deviation values (Whole ahead payload) = (ahead ≡ deviation) × (values_in payload.now ≡ values)
WholeWith deviation values (TurnedAway refusal) = ⊥

abbrev pub ReceivedWhole : Type 0
ReceivedWhole =
    (t : Turn) (value : ℕ → ℕ) (memory : List ℕ) (deviation : ℤ) (reception : Reception) → FirstFit value (value_count_of t) →
    Receives t deviation (written_frame t value memory) reception → WholeWith deviation (first_values value (value_count_of t)) reception

-- Exactness: a row of bytes is taken if it is what writing gives for some values, and only then.
abbrev pub Exact : Type 0
Exact = (t : Turn) (row : List ℕ) → Bytes row → Taken t row ↔ ((values : List ℕ) × Carried t values × (row ≡ frame_of t values))

-- So no two frames of a turn say the same.
abbrev pub SaidOneWay : Type 0
SaidOneWay =
    (t : Turn) (one two : List ℕ) → Bytes one → Bytes two → Taken t one → Taken t two → values_in (payload_of one) ≡ values_in (payload_of two) → one ≡ two

-- What was written in one turn and is taken in another is of the same sender, and of the same round modulo 2^32: of the same round, if the two are less
-- than 2^32 rounds apart.
pub record SameTurn (t u : Turn) : Type 0 where
  pub sender : t.sender ≡ u.sender
  pub header_round : header_round_of t ≡ header_round_of u
  pub round : t.round < u.round + 2 ^ 32 → u.round < t.round + 2 ^ 32 → t.round ≡ u.round

abbrev pub TakenInItsTurn : Type 0
TakenInItsTurn = (t u : Turn) (values : List ℕ) → Taken t (frame_of u values) → SameTurn t u

-- The header tells the sender, and the round modulo 2^32, and no more: it is the same for the same sender and rounds that are equal modulo 2^32, and only
-- then. So it is the same again 2^32 rounds later.
pub record HeaderTells (t u : Turn) : Type 0 where
  pub same : header_of t ≡ header_of u ↔ ((t.sender ≡ u.sender) × (header_round_of t ≡ header_round_of u))
  pub again : t.sender ≡ u.sender → t.round ≡ u.round + 2 ^ 32 → header_of t ≡ header_of u

abbrev pub HeaderTellsTheRound : Type 0
HeaderTellsTheRound = (t u : Turn) → HeaderTells t u

-- Cycles begin with round 0 and follow one another, and each has a round more than the cluster allows faults.
pub record Cycles (c : Cluster) : Type 0 where
  pub begins : place_in_cycle c 0 ≡ 0
  pub goes_on : (round : ℕ) → place_in_cycle c round < c.faults → place_in_cycle c (round + 1) ≡ place_in_cycle c round + 1
  pub begins_again : (round : ℕ) → place_in_cycle c round ≡ c.faults → place_in_cycle c (round + 1) ≡ 0
  pub within : (round : ℕ) → place_in_cycle c round ≤ c.faults

abbrev pub CyclesFollow : Type 0
CyclesFollow = (c : Cluster) → Cycles c

-- In a cycle's first round a frame carries one value, and in the next ones n - 1, (n - 1)(n - 2) and (n - 1)(n - 2)(n - 3), where n is the number of
-- nodes. So it has 9 bytes or more, and at most 10,925: those of the last round of a cycle of 16 nodes that allow 3 faults. The constants that callers
-- see are these numbers.
pub record Lengths (t : Turn) : Type 0 where
  pub first : place_in_cycle t.cluster t.round ≡ 0 → value_count_of t ≡ 1
  pub second : place_in_cycle t.cluster t.round ≡ 1 → value_count_of t ≡ t.cluster.nodes - 1
  pub third : place_in_cycle t.cluster t.round ≡ 2 → value_count_of t ≡ (t.cluster.nodes - 1) * (t.cluster.nodes - 2)
  pub fourth : place_in_cycle t.cluster t.round ≡ 3 → value_count_of t ≡ (t.cluster.nodes - 1) * (t.cluster.nodes - 2) * (t.cluster.nodes - 3)
  pub least : 9 ≤ frame_length_of t
  pub most : frame_length_of t ≤ MAX_FRAME_LENGTH
  pub constants : (HEADER_LENGTH ≡ header_length) × (VALUE_LENGTH ≡ value_length) × (MAX_FRAME_LENGTH ≡ 10925)
  pub longest : t.cluster.nodes ≡ 16 → place_in_cycle t.cluster t.round ≡ 3 → frame_length_of t ≡ MAX_FRAME_LENGTH

abbrev pub LengthsAreWithin : Type 0
LengthsAreWithin = (t : Turn) → Lengths t

-- A value that was put at an index is read there, and all others are as before.
abbrev pub PutIsRead : Type 0
PutIsRead =
    (index value : ℕ) (payload : List ℕ) → value < 2 ^ 32 → values_in (with_value index value payload) ≡ slice_set (values_in payload) index value
