-- The cluster's limits, kept by a script in each round that is played of it. Assumes nothing.
use Rattle.std.proofs.Common.{◌≡◌, ℕ, zero, suc, ◌+◌, ◌*◌, ◌<◌, ◌≤◌, Bool, not, List, [], ◌∷◌, length, unsigned_abs, refl, sym, ap, subst, ◌∙◌, mul-le-mul_left, arith}
use Rattle.std.specs.List.{range_with_len}
use Rattle.midpoint.specs.Order.{count}
use Rattle.midpoint.specs.Setting.{clock_limit}
use Rattle.clock.specs.Config.{error_of, bound_of}
use Rattle.clock.specs.Deviation.{largest}
use Rattle.clock.specs.Rounds.{faulty, FewBad}
use Rattle.schedule.specs.declared.limits.Schedule.{Schedule}
use Rattle.script.specs.Rounds.{jitter_of, drift_of}
use Rattle.script.specs.Setup.{good_at}
use Rattle.script.specs.Setup as of_setup
use Rattle.script.specs.declared.round.Round.{Round}
use Rattle.script.specs.declared.setup.Setup.{Setup}
use Rattle.script.specs.declared.setup.Starting.{Starting}
use Rattle.script.specs.declared.setup.Starting.TheVariants as starting
use Rattle.cluster.specs.Playing.{player, span_of, StartsWith, Begins, PlaysAll}
use Rattle.cluster.specs.Playing.PlaysAll.{no_more, one_first}
use Rattle.cluster.specs.Standing.{is_good, good_in, Shows, InStep, KeepsLimits, Apart, Kept, LimitsIn}
use Rattle.cluster.specs.Limits.{start_of, StartsGood, KeptInRound, KeptFrom, KeptByScript, most_of, ScriptsKeep, StartTogether, ScriptsStand}
use Rattle.cluster.specs.declared.station.Station.{Station}
use Rattle.cluster.specs.declared.bus.Player.{Player}
use Rattle.cluster.specs.declared.bus.Bus.{Bus}
use Rattle.cluster.proofs.Keeping.{all_over_in, keeps_in_step, all_kept}
use Rattle.cluster.proofs.Over.{AllOver}
use Rattle.cluster.proofs.Starting.{starts_good, starts_in_step}

-- as many are faulty of nodes of which the same ones are good
count_same : (x y : ℕ → Bool) (low n : ℕ) → ((q : ℕ) → q < low + n → x q ≡ y q) →
    count (λ q. not (x q)) (range_with_len low n) ≡ count (λ q. not (y q)) (range_with_len low n)
unfolding count
count_same x y low zero same = refl
count_same x y low (suc n) same =
    let here = same low (omega arith) in
    let rest = count_same x y (low + 1) n (λ q l. same q (omega arith)) in
    rw (here, rest) refl

-- a node is good as the cluster begins if it starts as one
good_by : (s : Schedule) (p : ℕ) (start : Starting) (node : Player) → StartsWith s p start node → is_good node ≡ of_setup.is_good start
good_by s p starting.Bad node is = ap is_good is
good_by s p (starting.Good value ahead) node (_, is, _) = ap is_good is

-- the cluster behind so many rounds of a script that keeps the limits
record Going (setup : Setup) (first number : ℕ) (b : Bus) : Type 0 where
  schedule : b.schedule ≡ setup.schedule
  round : b.round ≡ number
  common : b.common ≡ number * span_of setup.schedule
  good : (p : ℕ) → p < setup.schedule.cluster.nodes → good_in b p ≡ good_at setup p
  in_step : InStep b
  times : (p : ℕ) (a : Station) → Shows b p a → a.time ≤ first + number * most_of setup.schedule

module _ (setup : Setup) (rounds : List Round) (kept : KeptByScript setup rounds) where
  abbrev s : Schedule
  s = setup.schedule

  -- as it begins it is behind none
  begins_going : (b : Bus) → Begins setup b → Going setup kept.first 0 b
  begins_going b begins = record {
    schedule = begins.schedule;
    round = begins.round;
    common = omega (arith, begins.common);
    good = λ p h. good_by s p (start_of setup p) (player b p) (begins.players p h);
    in_step = starts_in_step setup b begins;
    times = λ p a shows.
        let g = starts_good setup b begins p a shows in
        let within : p < s.cluster.nodes = subst (λ (s : Schedule). p < s.cluster.nodes) begins.schedule shows.0 in
        omega (arith, g.starts.time, kept.early p g.value g.ahead within g.is);
  }

  -- a round takes some time
  some_room : 1 ≤ most_of s
  some_room =
      let m : s.cluster.nodes * 1 ≤ span_of s = mul-le-mul_left s.cluster.nodes (omega (arith, s.before, s.behind)) in
      omega (arith, s.cluster.enough)

  module _ (number : ℕ) (b : Bus) (r : Round) (going : Going setup kept.first number b) (room : kept.first + (number + 1) * most_of s < clock_limit)
      (in_round : KeptInRound setup number r) where
    -- a good node started as one
    started : (p : ℕ) (a : Station) → Shows b p a → StartsGood setup p
    started p a (h, is) =
        let within : p < s.cluster.nodes = subst (λ (s : Schedule). p < s.cluster.nodes) going.schedule h in
        (within, sym (going.good p within) ∙ ap is_good is)

    -- no more nodes are bad than started as bad
    few : FewBad b.schedule.cluster (good_in b)
    few =
        subst (λ (s : Schedule). faulty s.cluster.nodes (good_in b) ≤ s.cluster.faults) (sym going.schedule)
        (omega (arith, kept.few, count_same (good_in b) (good_at setup) 0 s.cluster.nodes (λ q h. going.good q (omega (arith, h)))))

    -- what a round takes of room
    one_more : (x : ℕ) → (number + 1) * x ≡ number * x + x
    one_more x = omega arith

    -- common time is below the limit
    length_below : number * span_of s + span_of s < clock_limit
    length_below =
        let m : number * span_of s ≤ number * most_of s = mul-le-mul_left number (omega arith) in
        omega (arith, room, one_more (most_of s))

    -- and so are rounds, as they are counted
    number_below : number < clock_limit
    number_below =
        let m : (number + 1) * 1 ≤ (number + 1) * most_of s = mul-le-mul_left (number + 1) some_room in
        omega (arith, room)

    -- so the limits are kept in this round
    keeps : KeepsLimits b r
    keeps = record {
      few = few;
      jitters = λ p q a c sp sq differs.
          subst (λ (s : Schedule). unsigned_abs (jitter_of r.given p q) ≤ error_of s.cluster) (sym going.schedule) (in_round.jitters p q (started p a sp) (started q c sq) differs);
      drifts = λ p a sp. subst (λ (s : Schedule). unsigned_abs (drift_of r.given p) ≤ s.cluster.drift) (sym going.schedule) (in_round.drifts p (started p a sp));
      below = λ p a sp.
          subst (λ (s : Schedule). a.time + span_of s + error_of s.cluster + s.cluster.drift < clock_limit) (sym going.schedule)
          (omega (arith, going.times p a sp, one_more (most_of s), room));
      lies = λ p q a m sp h bad only.
          let known : q < setup.schedule.cluster.nodes = subst (λ (s : Schedule). q < s.cluster.nodes) going.schedule h in
          subst (λ common. common + m.reading < clock_limit) (sym going.common)
          (in_round.lies p q m (started p a sp) known (sym (going.good q known) ∙ bad) only);
      counted = subst (λ (s : Schedule). b.common + span_of s ≤ largest) (sym going.schedule) (omega (arith, going.common, length_below));
      counts = omega (arith, going.round, number_below);
    }

    -- and the cluster is behind one more
    goes_on : (next : Bus) → AllOver b r next → Kept b next → Going setup kept.first (number + 1) next
    goes_on next over step = record {
      schedule = over.schedule ∙ going.schedule;
      round = over.round ∙ ap (λ k. k + 1) going.round;
      common = over.common ∙ subst (λ (s : Schedule). b.common + span_of s ≡ (number + 1) * span_of setup.schedule) (sym going.schedule)
          (omega (arith, going.common, one_more (span_of setup.schedule)));
      good = λ p h. step.same_good p (subst (λ (s : Schedule). p < s.cluster.nodes) (sym going.schedule) h) ∙ going.good p h;
      in_step = step.in_step;
      times = λ p e shows.
          let top = kept.first + number * most_of setup.schedule in
          let (_, above) = step.between 0 top (λ q a s. (omega arith, going.times q a s)) p e shows in
          let below = subst (λ (s : Schedule). e.time ≤ top + span_of s + error_of s.cluster + s.cluster.drift) going.schedule above in
          omega (arith, below, one_more (most_of setup.schedule));
    }

-- room for some rounds more is room for one, and for the others behind it
room_of : (first number more x : ℕ) → first + (number + suc more) * x < clock_limit →
    (first + (number + 1) * x < clock_limit) × (first + (number + 1 + more) * x < clock_limit)
room_of first number more x room =
    let e : (number + suc more) * x ≡ number * x + more * x + x = omega arith in
    let one : (number + 1) * x ≡ number * x + x = omega arith in
    let others : (number + 1 + more) * x ≡ number * x + more * x + x = omega arith in
    (omega (arith, e, one, room), omega (arith, e, others, room))

-- So a script that keeps the limits keeps them in each round that is played of it.
keeps_from : (setup : Setup) (all : List Round) (kept : KeptByScript setup all) (number : ℕ) (rounds : List Round) (b after : Bus) →
    Going setup kept.first number b → kept.first + (number + length rounds) * most_of setup.schedule < clock_limit → KeptFrom setup number rounds →
    (played : PlaysAll b rounds after) → LimitsIn b after rounds played
keeps_from setup all kept number [] _ _ going room each (no_more b) = tt
keeps_from setup all kept number (_ ∷ _) _ _ going room each (one_first b next after r rest plays played) =
    let (room_now, room_behind) = room_of kept.first number (length rest) (most_of setup.schedule) room in
    let limits = keeps setup all kept number b r going room_now each.0 in
    let going_on = goes_on setup all kept number b r going room_now each.0 next (all_over_in b next r plays going.in_step limits)
    (keeps_in_step b next r plays going.in_step limits) in
    (limits, keeps_from setup all kept (number + 1) rest next after going_on room_behind each.1 played)

-- from the first one on
pub script_keeps : ScriptsKeep
script_keeps setup rounds b after begins kept played =
    keeps_from setup rounds kept 0 rounds b after (begins_going setup rounds kept b begins)
    (subst (λ k. kept.first + k * most_of setup.schedule < clock_limit) (omega arith) kept.room) kept.each played

-- good clocks that begin within the bound are within it as the cluster begins
begin_together : (setup : Setup) (b : Bus) → Begins setup b → StartTogether setup → Apart b (bound_of b.schedule.cluster)
begin_together setup b begins together p q a c sp sq =
    let x = starts_good setup b begins p a sp in
    let y = starts_good setup b begins q c sq in
    let within : (k : ℕ) → k < b.schedule.cluster.nodes → k < setup.schedule.cluster.nodes = λ k. subst (λ (s : Schedule). k < s.cluster.nodes) begins.schedule in
    let near = together p q x.value y.value x.ahead y.ahead (within p sp.0) (within q sq.0) x.is y.is in
    subst (λ (s : Schedule). a.time ≤ c.time + bound_of s.cluster) (sym begins.schedule) (omega (arith, x.starts.time, y.starts.time, near))

-- so all that a round keeps is kept in each
pub scripts_stand : ScriptsStand
scripts_stand setup rounds b after begins kept together played =
    all_kept b after rounds played (starts_in_step setup b begins) (begin_together setup b begins together)
    (script_keeps setup rounds b after begins kept played)
