-- A round that was played keeps good nodes in step, and so do any number of them. Assumes nothing.
use borrow.Author.Differences.{ints}
use Rattle.relay.specs.Tables.{table_length_of}
use Rattle.std.proofs.Common.{Bool, true, ◌≢◌, length, get_or, ◌≡◌, ℕ, ◌+◌, ◌*◌, ◌<◌, mul-le-mul_right, mul-le-mul_left, ℤ, unsigned_abs, ◌≤◌, List, refl, sym, ap, subst, ◌∙◌, arith}
use Rattle.clock.specs.Config.{bound_of}
use Rattle.clock.specs.Deviation.{largest}
use Rattle.schedule.specs.Slots.{longest}
use Rattle.script.specs.declared.round.Round.{Round}
use Rattle.cluster.specs.Playing.{player, span_of, Plays, PlaysAll, SeenIn}
use Rattle.cluster.specs.Playing.PlaysAll.{no_more, one_first}
use Rattle.cluster.specs.Standing.{Shows, is_good, is_whole, InRound, InStep, KeepsLimits, Apart, KeepsInStep, LimitsIn, Kept, Each, KeptWithin, SeenRun}
use Rattle.cluster.specs.Stations.{run_on}
use Rattle.script.specs.Rounds.{drift_of}
use Rattle.cluster.specs.declared.station.Came.TheVariants as came
use Rattle.cluster.specs.declared.station.Station.{Station}
use Rattle.cluster.specs.declared.bus.Player.{Player}
use Rattle.cluster.specs.declared.bus.Player.TheVariants.{Bad, Good}
use Rattle.cluster.specs.declared.bus.Bus.{Bus}
use Rattle.cluster.proofs.Along.{slots_behind}
use Rattle.cluster.proofs.Clocks.{clocks_halve, clocks_stay, clocks_between}
use Rattle.cluster.proofs.Cycles.{same_good, cycle_goes_on, they_agree}
use Rattle.cluster.proofs.Ending.{all_over}
use Rattle.cluster.proofs.Behind.{WholeIf}
use Rattle.cluster.proofs.Over.{Over, AllOver}

-- a clock that runs on by a span, and off by no more than a drift that is less, does not go back
not_back : (time span drift : ℕ) (by : ℤ) → time + span ≤ largest → drift ≤ span → unsigned_abs by ≤ drift → time ≤ run_on span by time
not_back time span drift by room enough h = grind (arith, ints)

-- a good node behind the round is in the next one
module _ (b after : Bus) (r : Round) (limits : KeepsLimits b r) (over : AllOver b r after) where
  -- its clock has run on since it was set
  shows_later : (p : ℕ) (a last e : Station) → Shows b p a → Over b r p a last e → e.node.clock.shown ≤ e.time
  shows_later p a last e shows ended =
      let s = b.schedule in
      let long : 1 * s.length ≤ s.cluster.nodes * s.length = mul-le-mul_right s.length (omega (arith, s.cluster.enough)) in
      let most : s.cluster.nodes * s.length ≤ s.cluster.nodes * longest = mul-le-mul_left s.cluster.nodes s.most in
      let enough : s.cluster.drift ≤ span_of s = omega (arith, long, s.before, s.behind) in
      let room : e.node.clock.shown + span_of s ≤ largest = omega (arith, most, e.node.clock.below, s.cluster.most) in
      rw ended.time (not_back e.node.clock.shown (span_of s) s.cluster.drift (drift_of r.given p) room enough (limits.drifts p a shows))

  in_next : (p : ℕ) (e : Station) → Shows after p e → (node : Player) → player b p ≡ node → InRound after p e
  in_next p e shows Bad is = absurd (let l : p < b.schedule.cluster.nodes = rw over.schedule at shows.0 in let bad = over.bad p l is in cc)
  in_next p e shows (Good a) is =
      let l : p < b.schedule.cluster.nodes = rw over.schedule at shows.0 in
      let (last, f, there, ended) = over.good p a (l, is) in
      let same : f ≡ e = cc in
      subst (λ x. InRound after p x) same (record {
        its_schedule = ended.its_schedule ∙ sym over.schedule;
        its_own = ended.its_own;
        counts = ended.counts ∙ sym over.round;
        its_over = ended.its_over;
        its_heard = ended.its_heard;
        later = shows_later p a last f (l, is) ended;
        first_fits = ended.first_fits ∙ ap (λ s. table_length_of s.cluster) (sym over.schedule);
        second_fits = ended.second_fits ∙ ap (λ s. table_length_of s.cluster) (sym over.schedule);
        sixteen = ap length ended.came ∙ ended.behind.came_sixteen;
      })

  -- and has heard each other good node
  has_heard : (p q : ℕ) (e : Station) → Shows after p e → q < b.schedule.cluster.nodes → (p ≢ q) → (own other : Player) → player b p ≡ own → player b q ≡ other →
      is_good other ≡ true → is_whole (get_or e.came q came.Nothing) ≡ true
  has_heard p q e shows h differs Bad other is there good =
      absurd (let l : p < b.schedule.cluster.nodes = rw over.schedule at shows.0 in let bad = over.bad p l is in cc)
  has_heard p q e shows h differs (Good a) Bad is there good = absurd (cc)
  has_heard p q e shows h differs (Good a) (Good c) is there good =
      let l : p < b.schedule.cluster.nodes = rw over.schedule at shows.0 in
      let (last, f, now_is, ended) = over.good p a (l, is) in
      let same : f ≡ e = cc in
      let whole : WholeIf b r (Good c) (get_or last.came q came.Nothing) =
      subst (λ node. WholeIf b r node (get_or last.came q came.Nothing)) there (ended.behind.hears q h (λ e. differs (sym e))) in
      ap (λ list. is_whole (get_or list q came.Nothing)) (ap (λ x. x.came) (sym same) ∙ ended.came) ∙ whole

-- the round that was played is over for all nodes
pub all_over_in : (b after : Bus) (r : Round) → Plays b r after → InStep b → KeepsLimits b r → AllOver b r after
all_over_in b after r plays step limits =
    let behind = slots_behind b r step limits b.schedule.cluster.nodes plays.between (omega arith) plays.slots in
    all_over b plays.between after r step limits behind plays.over

pub keeps_in_step : (b after : Bus) (r : Round) → Plays b r after → KeepsInStep b r after
keeps_in_step b after r plays step limits =
    let over = all_over_in b after r plays step limits in
    record {
      same_schedule = over.schedule;
      same_good = same_good b after r over;
      in_step = record {
        nodes = λ p e shows. in_next b after r limits over p e shows (player b p) refl;
        room = omega (arith, step.room, over.room);
        cycle = cycle_goes_on b after r step over;
      };
      hears = λ p q e shows h good differs. has_heard b after r limits over p q e shows h differs (player b p) (player b q) refl refl good;
      halves = λ d apart. clocks_halve b after r step limits over d apart;
      together = λ apart. clocks_stay b after r step limits over apart;
      between = clocks_between b after r limits over;
      agreed = λ ended. they_agree b after r step limits.few over ended;
    }

-- each round of several
each_kept : (b after : Bus) (rounds : List Round) (played : PlaysAll b rounds after) → InStep b → LimitsIn b after rounds played → Each Kept b after rounds played
each_kept _ _ _ (no_more b) step limits = tt
each_kept _ _ _ (one_first b between after r rest plays played) step limits =
    let kept = keeps_in_step b between r plays step limits.0 in
    (kept, each_kept between after rest played kept.in_step limits.1)

-- so where good clocks begin within the bound they are within it behind each
stay_within : (b after : Bus) (rounds : List Round) (played : PlaysAll b rounds after) → Each Kept b after rounds played → Apart b (bound_of b.schedule.cluster) →
    Each KeptWithin b after rounds played
stay_within _ _ _ (no_more b) kept near = tt
stay_within _ _ _ (one_first b between after r rest plays played) kept near =
    let still : Apart between (bound_of between.schedule.cluster) =
    subst (λ s. Apart between (bound_of s.cluster)) (sym kept.0.same_schedule) (kept.0.together near) in
    ((kept.0, still), stay_within between after rest played kept.1 still)

pub all_kept : (b after : Bus) (rounds : List Round) (played : PlaysAll b rounds after) → InStep b → Apart b (bound_of b.schedule.cluster) →
    LimitsIn b after rounds played → Each KeptWithin b after rounds played
all_kept b after rounds played step near limits = stay_within b after rounds played (each_kept b after rounds played step limits) near

-- so it is of rounds that were played, whoever has seen them
pub seen_run : {W : Type 0} (sees : W → Bus → Round → Bool → W → Type 0) (b after : Bus) (rounds : List Round) (watch : W) (more : Bool) (watched : W) →
    (played : PlaysAll b rounds after) × SeenIn sees b after rounds played watch more watched → SeenRun sees b rounds after watch more watched
seen_run sees b after rounds watch more watched (played, seen) =
    (record { played = played; keeps = each_kept b after rounds played; stands = all_kept b after rounds played }, seen)
