-- When a script keeps the cluster's limits, told by the script alone. Assumes nothing: these are definitions.
use Rattle.std.specs.Prelude.{◌≡◌, ◌≢◌, ℕ, ◌+◌, ◌*◌, ◌<◌, ◌≤◌, false, List, [], ◌∷◌, length, Some, slice_index_or, unsigned_abs}
use Rattle.midpoint.specs.Setting.{clock_limit}
use Rattle.clock.specs.Config.{error_of, bound_of}
use Rattle.clock.specs.Rounds.{GoodNode, FewBad}
use Rattle.schedule.specs.declared.limits.Schedule.{Schedule}
use Rattle.script.specs.Rounds.{nothing_given, only_message, jitter_of, drift_of}
use Rattle.script.specs.Setup.{good_at}
use Rattle.script.specs.declared.round.Message.{Message}
use Rattle.script.specs.declared.round.Round.{Round}
use Rattle.script.specs.declared.setup.Setup.{Setup}
use Rattle.script.specs.declared.setup.Starting.{Starting}
use Rattle.script.specs.declared.setup.Starting.TheVariants as starting
use Rattle.cluster.specs.Playing.{span_of, Begins, PlaysAll}
use Rattle.cluster.specs.Standing.{LimitsIn, Each, KeptWithin}
use Rattle.cluster.specs.declared.bus.Bus.{Bus}

-- how a node starts, and a node of the cluster that starts as a good one
abbrev pub start_of : Setup → ℕ → Starting
start_of setup p = slice_index_or setup.starting p starting.Bad

abbrev pub StartsGood : Setup → ℕ → Type 0
StartsGood setup p = GoodNode setup.schedule.cluster (good_at setup) p

-- What a script says of the round of this number: good nodes read each other wrong by no more than the error, and run off by no more than the drift; and what another
-- one has them read, does not come to the limit. What a script says of messages of good nodes makes no difference.
pub record KeptInRound (setup : Setup) (number : ℕ) (r : Round) : Type 0 where
  pub jitters :
      (p q : ℕ) → StartsGood setup p → StartsGood setup q → (p ≢ q) → unsigned_abs (jitter_of r.given p q) ≤ error_of setup.schedule.cluster
  pub drifts : (p : ℕ) → StartsGood setup p → unsigned_abs (drift_of r.given p) ≤ setup.schedule.cluster.drift
  pub lies :
      (p q : ℕ) (m : Message) → StartsGood setup p → q < setup.schedule.cluster.nodes → good_at setup q ≡ false → only_message r p q ≡ Some m →
      number * span_of setup.schedule + m.reading < clock_limit

abbrev pub KeptFrom : Setup → ℕ → List Round → Type 0
KeptFrom setup number [] = Unit {0}
KeptFrom setup number (r ∷ rest) = KeptInRound setup number r × KeptFrom setup (number + 1) rest

-- by how much the good clocks go on at most in a round: by its length, the error, and the drift
abbrev pub most_of : Schedule → ℕ
most_of s = span_of s + error_of s.cluster + s.cluster.drift

-- A script that keeps the limits in all rounds: no more nodes are bad than the cluster allows, good clocks begin early enough to stay below the limit, and each round
-- keeps the limits. There may be as many rounds as clocks have room for below 10^12: of 16 of the longest slots, which are 10^9, some 60, and of slots of 10^6 some
-- 60000.
pub record KeptByScript (setup : Setup) (rounds : List Round) : Type 0 where
  pub few : FewBad setup.schedule.cluster (good_at setup)
  pub first : ℕ
  pub early : (p value ahead : ℕ) → p < setup.schedule.cluster.nodes → start_of setup p ≡ starting.Good value ahead → ahead ≤ first
  pub room : first + length rounds * most_of setup.schedule < clock_limit
  pub each : KeptFrom setup 0 rounds

-- Then the limits are kept in each round that is played of it.
abbrev pub ScriptsKeep : Type 0
ScriptsKeep =
    (setup : Setup) (rounds : List Round) (b after : Bus) → Begins setup b → KeptByScript setup rounds → (played : PlaysAll b rounds after) →
    LimitsIn b after rounds played

-- So where good clocks also begin within the bound, all that a round keeps is kept in each.
abbrev pub StartTogether : Setup → Type 0
StartTogether setup =
    (p q value other ahead behind : ℕ) → p < setup.schedule.cluster.nodes → q < setup.schedule.cluster.nodes →
    start_of setup p ≡ starting.Good value ahead → start_of setup q ≡ starting.Good other behind → ahead ≤ behind + bound_of setup.schedule.cluster

abbrev pub ScriptsStand : Type 0
ScriptsStand =
    (setup : Setup) (rounds : List Round) (b after : Bus) → Begins setup b → KeptByScript setup rounds → StartTogether setup →
    (played : PlaysAll b rounds after) → Each KeptWithin b after rounds played

-- And there are such scripts: nothing is given of the good nodes, their clocks begin within 10^11, and no message says more than that. Of these there may be
-- 50 rounds, however long the slots are.
pub record SaysLittle (r : Round) : Type 0 where
  pub nothing : r.given ≡ nothing_given
  pub little : (p q : ℕ) (m : Message) → only_message r p q ≡ Some m → m.reading < 100000000000

abbrev pub AllSayLittle : List Round → Type 0
AllSayLittle [] = Unit {0}
AllSayLittle (r ∷ rest) = SaysLittle r × AllSayLittle rest

abbrev pub LimitsCanBeKept : Type 0
LimitsCanBeKept =
    (setup : Setup) (rounds : List Round) → FewBad setup.schedule.cluster (good_at setup) →
    ((p value ahead : ℕ) → p < setup.schedule.cluster.nodes → start_of setup p ≡ starting.Good value ahead → ahead ≤ 100000000000) →
    length rounds ≤ 50 → AllSayLittle rounds → KeptByScript setup rounds
