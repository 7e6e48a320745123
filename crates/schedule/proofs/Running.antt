-- Runs of good nodes, made round by round from what may be chosen of them. Assumes nothing.
use borrow.Author.Differences.{up, down, ints}
use Rattle.std.proofs.Common.{◌≡◌, ℕ, zero, suc, ◌+◌, ◌-◌, ◌*◌, ◌<◌, ◌≤◌, min, Bool, true, ◌&&◌, ◌||◌, cond, ◌==◌, leb, List, [], ◌∷◌, get_or, ℤ, pos, negsuc, nat_abs, Some, None, Option, ◌⊎◌, refl, ap, subst, ◌∙◌, sym, inl, inr, mul-le-mul_right, arith}
use Rattle.std.proofs.lemmas.Bool.{cases_Bool, cases_lt}
use Rattle.std.proofs.lemmas.Bool.Decides.{nat_tests}
use Rattle.std.specs.List.{AllByRecursion}
use Rattle.std.specs.Option.{option_map}
use Rattle.midpoint.specs.Setting.{clock_limit}
use Rattle.clock.specs.Config.{width_of}
use Rattle.clock.specs.Rounds.{Moment, GoodNode, FewBad, Apart}
use Rattle.clock.specs.Setting.{readings, settled, next_round_of}
use Rattle.clock.proofs.Heard.{as_heard, heard_of}
use Rattle.schedule.specs.Config.{timing_of}
use Rattle.schedule.specs.Listening.{heard_in}
use Rattle.schedule.specs.Messages.{FromSlot}
use Rattle.schedule.specs.Runs.{Run, arrival_of, OtherThan, Delivered, World, Duties, Lawful, Started, Choice, OnOtherWires, TakesTheGood, taken_by, RunGiven, RunCanBeGiven}
use Rattle.schedule.specs.Slots.{Timing, slot_of, send_time_of, round_end_of}
use Rattle.schedule.specs.declared.limits.Schedule.{Schedule}
use Rattle.schedule.specs.declared.listening.Arrival.{Arrival}
use Rattle.schedule.specs.declared.listening.Received.{Received}
use Rattle.schedule.proofs.Answered.{none_or_from_slot}
use Rattle.schedule.proofs.Passing.{set_ahead, settles_no_farther, rises, in_round, behind_round}
use Rattle.schedule.proofs.Standing.{stands}

pub below_limit : (time : ℕ) → min time (clock_limit - 1) < clock_limit
below_limit time = grind arith

-- a round's clock as it shows a time at a common time
abbrev showing : Moment → ℕ → ℕ → Moment
showing m x time = record {
  common = x;
  clock = record { shown = min time (clock_limit - 1); round = m.clock.round; below = below_limit time };
}

-- A clock that runs off by so much in a round, at a later common time: one that gains has passed through all of that at the round's start, and one
-- that loses stands for so many ticks; then each goes on.
abbrev later : Moment → ℤ → ℕ → Moment
later m off x = showing m x (m.clock.shown + (x - m.common + up off - down off))

-- it as it first shows a time
abbrev comes_to : Moment → ℤ → ℕ → ℕ
comes_to m off time = m.common + (time + down off - m.clock.shown - up off)

abbrev coming_to : Moment → ℤ → ℕ → Moment
coming_to m off time = showing m (comes_to m off time) time

shows : (m : Moment) (off : ℤ) (time : ℕ) → time < clock_limit → (coming_to m off time).clock.shown ≡ time
shows m off time h = omega arith

-- Its moments, from the start on: it shows what it should, or at the start what it passes through, and has not run off farther, either way.
abbrev keeps_up : Moment → ℤ → Moment → Bool
keeps_up m off a =
    leb m.common a.common
    && leb m.clock.shown a.clock.shown
    && (a.clock.shown == (later m off a.common).clock.shown || a.common == m.common && leb a.clock.shown (later m off a.common).clock.shown)
    && leb (a.clock.shown + m.common) (m.clock.shown + a.common + up off)
    && leb (m.clock.shown + a.common) (a.clock.shown + m.common + down off)

kept_up : (m : Moment) (off : ℤ) (a : Moment) → keeps_up m off a ≡ true →
    (a.clock.shown + m.common ≤ m.clock.shown + a.common + up off) × (m.clock.shown + a.common ≤ a.clock.shown + m.common + down off)
kept_up m off a is = (grind (arith, nat_tests), grind (arith, nat_tests))

goes_forward : (m : Moment) (off : ℤ) (a b : Moment) → keeps_up m off a ≡ true → keeps_up m off b ≡ true → a.common < b.common →
    a.clock.shown ≤ b.clock.shown
goes_forward m (pos gain) a b ia ib less = grind (arith, nat_tests)
goes_forward m (negsuc loss) a b ia ib less = grind (arith, nat_tests)

-- it keeps up until it comes to a time, and as it does
runs_on : (m : Moment) (off : ℤ) (x time : ℕ) → m.common ≤ x → x ≤ comes_to m off time → m.clock.shown ≤ time → time < clock_limit →
    keeps_up m off (later m off x) ≡ true
runs_on m (pos gain) x time low high le h = grind (arith, nat_tests)
runs_on m (negsuc loss) x time low high le h = grind (arith, nat_tests)

comes_up : (m : Moment) (off : ℤ) (time : ℕ) → m.clock.shown ≤ time → time < clock_limit → keeps_up m off (coming_to m off time) ≡ true
comes_up m (pos gain) time le h = grind (arith, nat_tests)
comes_up m (negsuc loss) time le h = grind (arith, nat_tests)

-- one of the two ways is none
run_off : (off : ℤ) → up off + down off ≡ nat_abs off
run_off (pos gain) = omega arith
run_off (negsuc loss) = omega arith

-- with all that it gains in the first round, no clock shows more than the pause at first
pub first_in_pause : {s : Schedule} {good : ℕ → Bool} {rounds : ℕ} {first : ℕ → Moment} {offs : ℕ → ℕ → ℤ} {delays lengths : ℕ → ℕ → ℕ → ℕ} →
    Choice s good rounds first offs delays lengths → (p : ℕ) → GoodNode s.cluster good p → (first p).clock.shown + up (offs 0 p) ≤ s.pause
first_in_pause {s} {offs = offs} choice p g =
    let early = choice.early p p g g in omega (arith, ints, choice.steady 0 p, run_off (offs 0 p))

-- what is heard of an answer is nothing, or the answer
none_or_taken : {M : Type 0} (takes : M → Bool) (answer : Option (Received M)) →
    (option_map (λ received. received.deviation) (taken_by takes answer) ≡ None)
    ⊎ (option_map (λ received. received.deviation) (taken_by takes answer) ≡ option_map (λ received. received.deviation) answer)
none_or_taken takes None = inl refl
none_or_taken takes (Some received) =
    elim (cases_Bool (takes received.message)) [ inl is ↦ rw is (inr refl) | inr turned ↦ rw turned (inl refl) ]

-- and the answer, where that is taken
takes_it : {M : Type 0} (takes : M → Bool) (answer : Option (Received M)) (received : Received M) (said : M) → answer ≡ Some received →
    received.message ≡ said → takes said ≡ true → option_map (λ received. received.deviation) (taken_by takes answer) ≡ Some received.deviation
takes_it takes answer received said e holds is = let taken : takes received.message ≡ true = rw holds is in rw (e, taken) refl

module _ {M : Type 0} (s : Schedule) (good : ℕ → Bool) (rounds : ℕ) (first : ℕ → Moment) (offs : ℕ → ℕ → ℤ) (delays lengths : ℕ → ℕ → ℕ → ℕ)
    (said : ℕ → ℕ → M) (lies noise : ℕ → ℕ → ℕ → List (Arrival M)) (takes : ℕ → ℕ → ℕ → M → Bool) where
  abbrev t : Timing
  t = timing_of s

  abbrev n : ℕ
  n = s.cluster.nodes

  abbrev due : ℕ → ℕ → ℕ
  due k q = send_time_of t (slot_of t k q)

  -- what happens in round k, from the moments at which it begins
  module _ (start : ℕ → Moment) (k : ℕ) where
    abbrev at : ℕ → ℕ → Moment
    at p x = later (start p) (offs k p) x

    abbrev sending : ℕ → ℕ
    sending q = comes_to (start q) (offs k q) (due k q)

    abbrev beginning : ℕ → ℕ → ℕ
    beginning p q = sending q + delays k p q

    abbrev ending : ℕ → Moment
    ending p = coming_to (start p) (offs k p) (round_end_of t k)

    -- of a good node its message arrives, and then what comes on other wires
    abbrev seen : ℕ → Moment → Moment → Arrival M
    seen q begun over = record { wire = q; began = begun.clock.shown; ended = over.clock.shown; message = said k q }

    abbrev message : ℕ → ℕ → Arrival M
    message p q = seen q (at p (beginning p q)) (at p (beginning p q + lengths k p q))

    abbrev arrivals : ℕ → ℕ → List (Arrival M)
    arrivals p q = cond (good q) (message p q ∷ noise k p q) (lies k p q)

    -- what the listener answers, and what is heard of it
    abbrev answer : ℕ → ℕ → Option (Received M)
    answer p q = heard_in s (slot_of t k q) 0 (arrivals p q)

    abbrev hears : ℕ → ℕ → Option ℤ
    hears p q = option_map (λ received. received.deviation) (taken_by (takes k p q) (answer p q))

    abbrev all_heard : ℕ → List (Option ℤ)
    all_heard p = as_heard n (hears p)

    abbrev middle : ℕ → ℕ
    middle p = settled s.cluster.faults (ending p).clock.shown (readings n p (ending p).clock.shown (all_heard p))

    abbrev next : ℕ → Moment
    next p = record {
      common = (ending p).common;
      clock = record { shown = min (middle p) (clock_limit - 1); round = next_round_of (start p).clock.round; below = below_limit (middle p) };
    }

  starts : ℕ → ℕ → Moment
  starts zero = first
  starts (suc k) = next (starts k) k

  -- the last round up to a number that has begun for a node at a common time
  round_at : ℕ → ℕ → ℕ → ℕ
  round_at zero p x = 0
  round_at (suc k) p x = cond (leb (starts (suc k) p).common x) (suc k) (round_at k p x)

  -- the clock then, where the round is that of an earlier time
  abbrev clock_at : ℕ → ℕ → ℕ → Moment
  clock_at p earlier x = let k = round_at rounds p earlier in at (starts k) k p x

  run : Run M
  run = record {
    of_round = λ k p m. keeps_up (starts k p) (offs k p) m;
    starts = starts;
    sends = λ k p. coming_to (starts k p) (offs k p) (due k p);
    ends = λ k p. ending (starts k) k p;
    begins = λ k p q. let x = beginning (starts k) k p q in clock_at p x x;
    over = λ k p q. let x = beginning (starts k) k p q + lengths k p q in clock_at p (x - 1) x;
    said = said;
    opened = λ k p q. 0;
    arrived = λ k. arrivals (starts k) k;
    heard = λ k. all_heard (starts k) k;
  }

  starts_rise : (k p : ℕ) → (starts k p).common ≤ (starts (suc k) p).common
  unfolding starts
  starts_rise k p = omega arith

  in_round_at : (m k p x : ℕ) → k ≤ m → (starts k p).common ≤ x → x < (starts (suc k) p).common → round_at m p x ≡ k
  unfolding round_at
  in_round_at zero k p x h low high = omega arith
  in_round_at (suc m) k p x h low high =
      elim (cases_lt k (suc m)) [
        | inl less ↦
            let rise = rises (λ i. (starts i p).common) (suc m) (λ i l. starts_rise i p) (suc k) (suc m) less (omega arith) in
            let ih = in_round_at m k p x (omega arith) low high in
            grind (arith, nat_tests)
        | inr same ↦ let e : k ≡ suc m = omega arith in let l : (starts (suc m) p).common ≤ x = rw e at low in grind (arith, nat_tests)
      ]

  -- what comes on other wires is not asked about
  noises : (k p q : ℕ) (xs : List (Arrival M)) → AllByRecursion (λ a. a.wire ≡ q → ⊥) xs → AllByRecursion (OtherThan run rounds k p q) xs
  noises k p q [] others = tt
  noises k p q (a ∷ xs) (other, others) = (λ own. absurd (other own), noises k p q xs others)

  module _ (choice : Choice s good rounds first offs delays lengths) (other_wires : OnOtherWires noise)
      (takes_good : TakesTheGood s good rounds said takes) where
    -- what is due in a round is below the limit, and lies in it
    due_below : (k p : ℕ) → k ≤ rounds → GoodNode s.cluster good p → due k p < clock_limit
    due_below k p h g =
        let turn : k * n ≤ rounds * n = mul-le-mul_right n h in
        let before : slot_of t k p * s.length ≤ slot_of t rounds p * s.length = mul-le-mul_right s.length (omega arith) in
        omega (arith, choice.room p g)

    ends_below : (k p : ℕ) → k < rounds → GoodNode s.cluster good p → round_end_of t k + s.pause < clock_limit
    ends_below k p h g = omega (arith, behind_round s k p, due_below (suc k) p h g)

    due_in : (k p : ℕ) → GoodNode s.cluster good p → due k p ≤ round_end_of t k
    due_in k p g = omega (arith, in_round s k p g.0, s.behind)

    -- what is heard is what a listener answers, or nothing, and so it is of its slot
    listens_or_none : (start : ℕ → Moment) (k p q : ℕ) → q < n →
        (get_or (all_heard start k p) q None ≡ None)
        ⊎ (get_or (all_heard start k p) q None ≡ option_map (λ received. received.deviation) (answer start k p q))
    listens_or_none start k p q h =
        let e = heard_of n s.cluster.most (hears start k p) q h in rw e (none_or_taken (takes k p q) (answer start k p q))

    from_slots : (start : ℕ → Moment) (k p q : ℕ) → q < n → FromSlot t (slot_of t k q) (get_or (all_heard start k p) q None)
    from_slots start k p q h =
        none_or_from_slot s (slot_of t k q) 0 (arrivals start k p q) (get_or (all_heard start k p) q None) (listens_or_none start k p q h)

    -- a round ends when it should, and the next one begins in time
    ends_right : (k p : ℕ) → k < rounds → GoodNode s.cluster good p → (ending (starts k) k p).clock.shown ≡ round_end_of t k
    ends_right k p h g = shows (starts k p) (offs k p) (round_end_of t k) (omega (arith, ends_below k p h g))

    sets_le : (k p : ℕ) → k < rounds → GoodNode s.cluster good p → middle (starts k) k p ≤ round_end_of t k + s.pause
    sets_le k p h g =
        let e = ends_right k p h g in
        omega (arith, settles_no_farther s k (ending (starts k) k p).clock.shown p (all_heard (starts k) k p) (from_slots (starts k) k p))

    early : (k p : ℕ) → k ≤ rounds → GoodNode s.cluster good p → (starts k p).clock.shown ≤ due k p
    unfolding starts
    early zero p h g = omega (arith, first_in_pause choice p g)
    early (suc k) p h g = omega (arith, behind_round s k p, sets_le k p h g)

    -- the clock keeps up until the round ends
    in_its_round : (k p x : ℕ) → k < rounds → GoodNode s.cluster good p → (starts k p).common ≤ x → x ≤ (run.ends k p).common →
        run.of_round k p (at (starts k) k p x) ≡ true
    unfolding run
    in_its_round k p x h g low high =
        runs_on (starts k p) (offs k p) x (round_end_of t k) low high (omega (arith, early k p (omega arith) g, due_in k p g))
        (omega (arith, ends_below k p h g))

    ends_later : (k p q : ℕ) → (run.begins k p q).common < (run.over k p q).common
    unfolding run
    ends_later k p q = omega (arith, (choice.lasting k p q).0)

    -- a message that falls into a round of the receiver is timed by its clock in that round
    module _ (k j p q : ℕ) (h : k < rounds) (g : GoodNode s.cluster good p) (low : (starts k p).common ≤ (run.begins j p q).common)
        (high : (run.over j p q).common ≤ (run.ends k p).common) where
      timed : (run.begins j p q ≡ at (starts k) k p (run.begins j p q).common) × (run.over j p q ≡ at (starts k) k p (run.over j p q).common)
      unfolding run starts
      timed =
          let x = beginning (starts j) j p q in
          let y = x + lengths j p q in
          let later = ends_later j p q in
          let e = in_round_at rounds k p x (omega arith) low (omega arith) in
          let f = in_round_at rounds k p (y - 1) (omega arith) (omega arith) (omega arith) in
          (ap (λ i. at (starts i) i p x) e, ap (λ i. at (starts i) i p y) f)

      in_round_then : (run.of_round k p (run.begins j p q) ≡ true) × (run.of_round k p (run.over j p q) ≡ true)
          × ((run.begins j p q).clock.shown ≤ (run.over j p q).clock.shown)
      unfolding run
      in_round_then =
          let (begun, over) = timed in
          let later = ends_later j p q in
          let first = subst (λ a. run.of_round k p a ≡ true) (sym begun) (in_its_round k p (run.begins j p q).common h g low (omega arith)) in
          let last = subst (λ a. run.of_round k p a ≡ true) (sym over) (in_its_round k p (run.over j p q).common h g (omega arith) high) in
          (first, last, goes_forward (starts k p) (offs k p) (run.begins j p q) (run.over j p q) first last (omega arith))

    -- and it is what arrives first in its slot
    arrives : (k p q : ℕ) → k < rounds → GoodNode s.cluster good p → GoodNode s.cluster good q → (run.starts k p).common ≤ (run.begins k p q).common →
        (run.over k p q).common ≤ (run.ends k p).common → run.arrived k p q ≡ arrival_of run k p q ∷ noise k p q
    unfolding run
    arrives k p q h gp gq low high =
        let (begun, over) = timed k k p q h gp low high in
        let g = gq.1 in
        let same : arrival_of run k p q ≡ message (starts k) k p q =
        ap (λ a. seen (starts k) k q a (run.over k p q)) begun ∙ ap (seen (starts k) k q (at (starts k) k p (beginning (starts k) k p q))) over in
        rw g (ap (λ a. a ∷ noise k p q) (sym same))

    told : (k p q : ℕ) → k < rounds → GoodNode s.cluster good p → GoodNode s.cluster good q → (run.starts k p).common ≤ (run.begins k p q).common →
        (run.over k p q).common ≤ (run.ends k p).common → Delivered run rounds k p q
    unfolding run
    told k p q h gp gq low high = record {
      earlier = [];
      later = noise k p q;
      all = arrives k p q h gp gq low high;
      others_earlier = tt;
      others_later = noises k p q (noise k p q) (other_wires k p q);
      in_order = tt;
      in_time = omega arith;
    }

    world : World s good rounds run
    unfolding run starts
    world = record {
      drifts = λ k p a b h g ia ib.
          let (gains, loses) = kept_up (starts k p) (offs k p) a ia in
          let (gains_other, loses_other) = kept_up (starts k p) (offs k p) b ib in
          let few = choice.steady k p in
          omega (arith, ints, run_off (offs k p));
      begun = λ k p h g. grind (arith, nat_tests);
      sent = λ k p h g. comes_up (starts k p) (offs k p) (due k p) (early k p h g) (due_below k p h g);
      ended = λ k p h g.
          comes_up (starts k p) (offs k p) (round_end_of t k) (omega (arith, early k p (omega arith) g, due_in k p g)) (omega (arith, ends_below k p h g));
      at_once = λ k p h g. refl;
      carried = λ k p q h gp gq d.
          let (wire, jitter) = choice.on_time k p q in
          let (some, most) = choice.lasting k p q in
          (record { leaves = omega arith; arrives = omega arith; lasts = omega arith }, omega arith, omega arith);
      falls_in = λ k j p q h u gp gq d low high. in_round_then k j p q h gp low high;
      wires = λ k p q h gp gq d low high is. told k p q h gp gq low high;
    }

    duties : Duties s good rounds run
    unfolding run starts
    duties = record {
      sending = λ k p h g. shows (starts k p) (offs k p) (due k p) (due_below k p h g);
      ending = λ k p h g. ends_right k p h g;
      setting = λ k p h g. record { its_shown = omega (arith, sets_le k p h g, ends_below k p h g); its_round = refl };
      counts = λ k p h g. refl;
      listened = λ k p q h g l. listens_or_none (starts k) k p q l;
      taken = λ k p q h gp gq d received e holds.
          heard_of n s.cluster.most (hears (starts k) k p) q gq.0
          ∙ takes_it (takes k p q) (answer (starts k) k p q) received (said k q) e holds (takes_good k p q h gp gq d);
    }

    lawful : Lawful s good rounds run
    lawful = record { world = world; duties = duties }

    started : Started s good run
    unfolding run starts
    started = record {
      near = choice.near;
      first = choice.from_zero;
      listens = λ p q gp gq d.
          let near = choice.near q p gq gp in let in_time = choice.early p q gp gq in omega (arith, ints);
    }

    -- Where few are bad, a clock has gained what it gains when its node is to send: it is set to no less than that before.
    gains_first : FewBad s.cluster good → (k p : ℕ) → k ≤ rounds → GoodNode s.cluster good p → (starts k p).clock.shown + up (offs k p) ≤ due k p
    unfolding run starts
    gains_first few zero p h g = omega (arith, first_in_pause choice p g)
    gains_first few (suc k) p h g =
        let standing = stands s good rounds run few lawful started in
        let round = standing.goes_round k h in
        let sets = (round.sets p g).its_shown ∙ sym (duties.setting k p h g).its_shown in
        let le : k ≤ rounds = omega arith in
        let apart : Apart s.cluster good (width_of s.cluster) (run.ends k) =
        λ a b ga gb. standing.within k a b (run.ends k a) (run.ends k b) le ga gb (world.ended k a h ga) (world.ended k b h gb) in
        let ahead = set_ahead s good (run.heard k) (run.ends k) (run.starts (suc k)) p p few round apart g g in
        omega (arith, ints, sets, ends_right k p h g, behind_round s k p, choice.steady (suc k) p, run_off (offs (suc k) p))

    given : RunGiven s good rounds first offs delays lengths said lies noise takes
    unfolding run starts
    given = record {
      run = run;
      lawful = lawful;
      started = started;
      first_start = λ p. refl;
      ran = λ few k p h g.
          let gains = gains_first few k p h g in
          let e = shows (starts k p) (offs k p) (due k p) (due_below k p h g) in
          omega (arith, ints);
      by_showing = λ k p a b same shows. rw (same, shows) refl;
      forward = λ k p a b. goes_forward (starts k p) (offs k p) a b;
      delayed = λ k p q. refl;
      lasted = λ k p q. refl;
      says = λ k q. refl;
      lied = λ k p q b. rw b;
      noisy = arrives;
      opens = λ k p q. refl;
      hears = λ k p q h. heard_of n s.cluster.most (hears (starts k) k p) q h;
    }

pub run_can_be_given_lem : {M : Type 0} → RunCanBeGiven M
run_can_be_given_lem s good rounds first offs delays lengths said lies noise takes choice other_wires takes_good =
    given s good rounds first offs delays lengths said lies noise takes choice other_wires takes_good
