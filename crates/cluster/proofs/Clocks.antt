-- What a round makes of the good clocks. Assumes nothing.
use borrow.Author.Differences.{ints}
use Rattle.std.proofs.Common.{pos, ◌-ℤ◌, ◌≡◌, ℕ, ◌+◌, ◌-◌, ◌/◌, ◌<◌, ◌≤◌, min, true, map, ℤ, unsigned_abs, Some, None, Option, refl, sym, ap, ◌∙◌, inl, inr, is_none, arith}
use Rattle.std.specs.List.{range_with_len}
use Rattle.std.specs.Option.{option_map}
use Rattle.std.proofs.lemmas.Bool.{cases_Bool, cases_eq, cases_lt, eq-eqb, ne_eqb}
use Rattle.midpoint.specs.Midpoint.{midpoint}
use Rattle.midpoint.specs.Refusals.{first_applying}
use Rattle.midpoint.specs.Setting.{clock_limit}
use Rattle.clock.specs.Config.{error_of, bound_of}
use Rattle.clock.specs.Deviation.{deviation_of, moved, largest}
use Rattle.clock.specs.Rounds.{Moment, GoodNode}
use Rattle.clock.specs.Rounds as clocks
use Rattle.clock.specs.Setting.{read_of, reads, readings}
use Rattle.clock.specs.Theorems.{rest_of}
use Rattle.clock.proofs.Nodes.{midpoint_within}
use Rattle.clock.proofs.Rounds.{not_turned_away}
use Rattle.schedule.specs.declared.limits.Schedule.{Schedule}
use Rattle.frame.specs.Reading.{untaken}
use Rattle.frame.specs.declared.turn.Turn.{Turn}
use Rattle.relay.specs.Theorems.{turn_in}
use Rattle.node.specs.Hearing.{taken, deviation_of_taken}
use Rattle.node.specs.Settings.{RoundSet}
use Rattle.node.proofs.Settings.{sets_closer, sets_between}
use Rattle.script.specs.Rounds.{only_message, jitter_of, drift_of}
use Rattle.script.specs.declared.round.Message.{Message}
use Rattle.script.specs.declared.round.Round.{Round}
use Rattle.cluster.specs.Playing.{player, span_of, of_script}
use Rattle.cluster.specs.Standing.{is_good, good_in, Shows, InStep, KeepsLimits, Apart, Spanned, Between}
use Rattle.cluster.specs.Stations.{run_on}
use Rattle.cluster.specs.declared.station.Station.{Station}
use Rattle.cluster.specs.declared.bus.Player.{Player}
use Rattle.cluster.specs.declared.bus.Player.TheVariants.{Bad, Good}
use Rattle.cluster.specs.declared.bus.Bus.{Bus}
use Rattle.cluster.proofs.Over.{Over, AllOver}

-- a clock that is read wrong by no more than the most
read_near : (own time most : ℕ) (jitter : ℤ) → own < clock_limit → time < clock_limit → most ≤ clock_limit → unsigned_abs jitter ≤ most →
    (time ≤ moved own (deviation_of (moved time jitter) own) + most) × (moved own (deviation_of (moved time jitter) own) ≤ time + most)
read_near own time most jitter l h m n = (grind (arith, ints), grind (arith, ints))

-- a clock that runs on by a span, and off by no more than the drift
runs_on : (time span drift : ℕ) (by : ℤ) → time + span + drift < clock_limit → unsigned_abs by ≤ drift →
    (run_on span by time ≤ time + span + drift) × (time + span ≤ run_on span by time + drift)
runs_on time span drift by l h = (grind (arith, ints), grind (arith, ints))

-- what is read of a message that says a time below the limit
said_below : (own due : ℕ) → own < clock_limit → due < clock_limit → moved own (deviation_of (min due largest) own) < clock_limit
said_below own due l h = grind (arith, ints)

-- what is read of a bad node, of which the only message says one
lie_below : (t : Turn) (common own : ℕ) (m : Option Message) → own < clock_limit → ((one : Message) → m ≡ Some one → common + one.reading < clock_limit) →
    read_of own (deviation_of_taken (taken t (option_map (of_script common own) m))) < clock_limit
lie_below t common own None l h = l
lie_below t common own (Some one) l h =
    elim (cases_Bool (is_none (first_applying (untaken t one.bytes.items)))) [
      | inl whole ↦ rw whole (said_below own (common + one.reading) l (h one refl))
      | inr other ↦ rw other l
    ]

-- a node that is good shows something
shows_as : (b : Bus) (p : ℕ) (node : Player) → p < b.schedule.cluster.nodes → player b p ≡ node → good_in b p ≡ true → (a : Station) × Shows b p a
shows_as b p Bad h is good = absurd (let no = sym good ∙ ap is_good is in cc)
shows_as b p (Good a) h is good = (a, (h, is))

-- and so does one of which the clock's theorems speak
shows_good : (b : Bus) (p : ℕ) → GoodNode b.schedule.cluster (good_in b) p → (a : Station) × Shows b p a
shows_good b p (h, good) = shows_as b p (player b p) h refl good

module _ (b after : Bus) (r : Round) (limits : KeepsLimits b r) (over : AllOver b r after) where
  -- how many nodes there are, and by how much a good one is read wrong
  abbrev n : ℕ
  n = b.schedule.cluster.nodes

  abbrev error : ℕ
  error = error_of b.schedule.cluster

  -- a good node: it was a as the round began, last behind all slots, and is e behind the round
  record Went (p : ℕ) (a last e : Station) : Type 0 where
    shows : Shows b p a
    shows_next : player after p ≡ Good e
    its_over : Over b r p a last e

  module _ (p : ℕ) (a last e : Station) (went : Went p a last e) where
    -- what it reads at the end of the round
    abbrev read : ℕ → ℕ
    read = reads p a.time last.node.heard

    -- its own clock is below the limit, also where it is read wrong
    a_below : a.time + error < clock_limit
    a_below = omega (arith, limits.below p a went.shows)

    -- of a good node its clock, but for the error
    read_good : (q : ℕ) (c : Station) → Shows b q c → (p ≡ q → ⊥) → (c.time ≤ read q + error) × (read q ≤ c.time + error)
    read_good q c s differs =
        let other : q ≡ p → ⊥ = λ same. differs (sym same) in
        let heard = went.its_over.behind.has_heard q s.0 other in
        let is = s.1 in
        let near = read_near a.time c.time error (jitter_of r.given p q) (omega (arith, a_below)) (omega (arith, limits.below q c s))
        (omega (arith, b.schedule.cluster.steady, b.schedule.cluster.exact)) (limits.jitters p q a c went.shows s differs) in
        rw (ne_eqb q p other, heard, is) near

    -- of any good node, itself among them, no more than that
    read_right : (q : ℕ) (c : Station) → Shows b q c → read q ≤ c.time + error
    read_right q c s =
        elim (cases_eq p q) [
          | inl same ↦
              let is : Good a ≡ Good c = sym went.shows.1 ∙ ap (λ x. player b x) same ∙ s.1 in
              let time : a.time ≡ c.time = cc in
              rw (eq-eqb q p (sym same)) (omega arith)
          | inr differs ↦ (read_good q c s differs).1
        ]

    -- of any other node nothing that comes to the limit
    read_as : (q : ℕ) (node : Player) → q < n → player b q ≡ node → (p ≡ q → ⊥) → read q < clock_limit
    read_as q Bad h is differs =
        let other : q ≡ p → ⊥ = λ same. differs (sym same) in
        let heard = went.its_over.behind.has_heard q h other in
        rw (ne_eqb q p other, heard, is)
        (lie_below (turn_in b.schedule.cluster b.round q) b.common a.time (only_message r p q) (omega (arith, a_below))
        (λ m only. limits.lies p q a m went.shows h (rw is refl) only))
    read_as q (Good c) h is differs = omega (arith, read_good q c (h, is) differs, limits.below q c (h, is))

    -- nor of itself
    read_below : (q : ℕ) → q < n → read q < clock_limit
    read_below q h =
        elim (cases_eq p q) [
          | inl same ↦ rw (eq-eqb q p (sym same)) (omega (arith, a_below))
          | inr differs ↦ read_as q (player b q) h refl differs
        ]

    -- So what it sets its clock to is no more than what good clocks show, but for the error.
    shown_below : e.node.clock.shown + span_of b.schedule + b.schedule.cluster.drift < clock_limit
    unfolding readings
    shown_below =
        let none = not_turned_away b.schedule.cluster read read_below in
        let most = clock_limit - 1 - span_of b.schedule - b.schedule.cluster.drift in
        let (_, high) = midpoint_within b.schedule.cluster (good_in b) read 0 most limits.few
        (λ q h good.
        let (c, s) = shows_good b q (h, good) in
        (omega arith, omega (arith, read_right q c s, limits.below q c s))) in
        let shown : e.node.clock.shown ≡ midpoint b.schedule.cluster.faults (map read (range_with_len 0 n)) = went.its_over.shows ∙ rw none refl in
        omega (arith, shown, high, limits.below p a went.shows)

    -- then it runs on by a round, but for the drift
    ran : (e.time ≤ e.node.clock.shown + span_of b.schedule + b.schedule.cluster.drift)
        × (e.node.clock.shown + span_of b.schedule ≤ e.time + b.schedule.cluster.drift)
    ran = rw went.its_over.time (runs_on e.node.clock.shown (span_of b.schedule) b.schedule.cluster.drift (drift_of r.given p) shown_below (limits.drifts p a went.shows))

    -- and does not come to the limit
    e_below : e.time < clock_limit
    e_below = omega (arith, ran.0, shown_below)

  -- of a good node, how the round went
  went_on : (p : ℕ) (a : Station) → Shows b p a → (last : Station) × (e : Station) × Went p a last e
  went_on p a s = let (last, e, is, its) = over.good p a s in (last, e, record { shows = s; shows_next = is; its_over = its })

  -- a node that is good behind the round was good before
  was_as : (p : ℕ) (e : Station) (node : Player) → p < n → player after p ≡ Good e → player b p ≡ node → (a : Station) × Shows b p a
  was_as p e Bad h now is = absurd (let no = sym now ∙ over.bad p h is in cc)
  was_as p e (Good a) h now is = (a, (h, is))

  -- whatever it was
  was : (p : ℕ) (e : Station) → Shows after p e → (a : Station) × Shows b p a
  was p e s =
      let h : p < n = omega (arith, s.0, ap (λ (x : Schedule). x.cluster.nodes) over.schedule) in
      was_as p e (player b p) h s.1 refl

  -- what a node was, and for a bad one what any good one was
  record Found (p : ℕ) : Type 0 where
    a : Station
    last : Station
    e : Station
    before : a.time < clock_limit
    behind : e.time < clock_limit
    if_good : GoodNode b.schedule.cluster (good_in b) p → Went p a last e

  module _ (some : ℕ) (one : Station) (is_one : Shows b some one) where
    -- of a good node the round itself
    find_good : (p : ℕ) (a : Station) → Shows b p a → Found p
    find_good p a s =
        let (last, e, went) = went_on p a s in
        record {
          a = a;
          last = last;
          e = e;
          before = omega (arith, a_below p a last e went);
          behind = e_below p a last e went;
          if_good = λ g. went;
        }

    -- of another one the round of the good one
    find_other : (p : ℕ) → (GoodNode b.schedule.cluster (good_in b) p → ⊥) → Found p
    find_other p bad =
        let other = find_good some one is_one in
        record { a = other.a; last = other.last; e = other.e; before = other.before; behind = other.behind; if_good = λ g. absurd (bad g) }

    -- of any
    find : (p : ℕ) → Found p
    find p =
        elim (cases_lt p n) [
          | inl less ↦
              elim (cases_Bool (good_in b p)) [
                | inl good ↦ let (a, s) = shows_good b p (less, good) in find_good p a s
                | inr bad ↦ find_other p (λ g. let e = sym bad ∙ g.1 in cc)
              ]
          | inr past ↦ find_other p (λ g. omega (arith, g.0, past))
        ]

    -- the clocks at the end of the round, and of the next
    abbrev ends : ℕ → Moment
    ends p = record { common = b.common; clock = record { shown = (find p).a.time; round = b.round; below = (find p).before } }

    abbrev next : ℕ → Moment
    next p = record { common = b.common + span_of b.schedule; clock = record { shown = (find p).e.time; round = b.round; below = (find p).behind } }

    -- This is a round of which the node's theorems speak.
    round_set : RoundSet b.schedule (good_in b) (λ p. (find p).last.node) (λ p. (find p).e.node) ends next
    round_set = record {
      config = λ p g. ((find p).if_good g).its_over.behind.its_schedule;
      own = λ p g. ((find p).if_good g).its_over.behind.its_own;
      over = λ p g. ((find p).if_good g).its_over.ended;
      fair = λ p q gp gq differs.
          let f = find p in
          let t = find q in
          let (under, above) = read_good p f.a f.last f.e (f.if_good gp) q t.a (t.if_good gq).shows differs in
          (omega (arith, ints, under, above), omega (arith, ints, under, above));
      readable = λ p q g h. let f = find p in read_below p f.a f.last f.e (f.if_good g) q h;
      runs = λ p g.
          let f = find p in
          let (up, down) = ran p f.a f.last f.e (f.if_good g) in
          (omega (arith, ints, up, down), omega (arith, ints, up, down));
    }

    -- so it halves what clocks are apart
    closer : (d : ℕ) → Apart b d → clocks.Apart b.schedule.cluster (good_in b) (d / 2 + rest_of b.schedule.cluster) next
    closer d apart =
        sets_closer b.schedule (good_in b) (λ p. (find p).last.node) (λ p. (find p).e.node) ends next d limits.few round_set
        (λ p q gp gq. let near = apart p q (find p).a (find q).a ((find p).if_good gp).shows ((find q).if_good gq).shows in omega (arith, ints, near))

    middle : (low high p : ℕ) → Spanned b low high → (g : GoodNode b.schedule.cluster (good_in b) p) →
        (low + span_of b.schedule ≤ (find p).e.time + error + b.schedule.cluster.drift)
        × ((find p).e.time ≤ high + span_of b.schedule + error + b.schedule.cluster.drift)
    middle low high p spanned g =
        let (under, above) = sets_between b.schedule (good_in b) (λ p. (find p).last.node) (λ p. (find p).e.node) ends next
        (pos low -ℤ pos b.common) (pos high -ℤ pos b.common) limits.few round_set
        (λ q gq. let (l, h) = spanned q (find q).a ((find q).if_good gq).shows in (omega (arith, ints, l), omega (arith, ints, h))) p g in
        (omega (arith, ints, under), omega (arith, ints, above))

    -- what a good node shows behind the round is what is found there
    found : (p : ℕ) (e : Station) → Shows after p e → GoodNode b.schedule.cluster (good_in b) p × ((find p).e.time ≡ e.time)
    found p e s =
        let (a, (h, is)) = was p e s in
        let g : GoodNode b.schedule.cluster (good_in b) p = (h, ap is_good is) in
        let same : Good (find p).e ≡ Good e = sym ((find p).if_good g).shows_next ∙ s.1 in
        (g, cc)

-- Whatever good clocks are apart, the round halves it, up to a rest.
pub clocks_halve : (b after : Bus) (r : Round) → InStep b → KeepsLimits b r → AllOver b r after → (d : ℕ) → Apart b d →
    Apart after (d / 2 + rest_of b.schedule.cluster)
clocks_halve b after r _ limits over d apart p q x y sp sq =
    let (a, s) = was b after r limits over p x sp in
    let (gp, ep) = found b after r limits over p a s p x sp in
    let (gq, eq) = found b after r limits over p a s q y sq in
    omega (arith, ints, ep, eq, closer b after r limits over p a s d apart p q gp gq)

-- So the bound stays.
pub clocks_stay : (b after : Bus) (r : Round) → InStep b → KeepsLimits b r → AllOver b r after → Apart b (bound_of b.schedule.cluster) →
    Apart after (bound_of b.schedule.cluster)
clocks_stay b after r step limits over apart p q x y sp sq =
    omega (arith, clocks_halve b after r step limits over (bound_of b.schedule.cluster) apart p q x y sp sq)

-- And no good clock comes to the limit.
pub time_below : (b after : Bus) (r : Round) → InStep b → KeepsLimits b r → AllOver b r after → (p : ℕ) (e : Station) → Shows after p e → e.time < clock_limit
time_below b after r _ limits over p e s =
    let (a, t) = was b after r limits over p e s in
    let (_, same) = found b after r limits over p a t p e s in
    omega (arith, same, (find b after r limits over p a t p).behind)

-- Nobody is pulled out.
pub clocks_between : (b after : Bus) (r : Round) → KeepsLimits b r → AllOver b r after → (low high : ℕ) → Spanned b low high →
    (p : ℕ) (e : Station) → Shows after p e → Between b low high e
clocks_between b after r limits over low high spanned p e s =
    let (a, t) = was b after r limits over p e s in
    let (g, same) = found b after r limits over p a t p e s in
    let (under, above) = middle b after r limits over p a t low high p spanned g in
    (omega (arith, same, under), omega (arith, same, above))
