-- A run of good nodes, by induction on its rounds: where the clocks are within the bound as a round begins, and no message was missed, each hears each
-- in it, so that they are as the next one begins. Assumes nothing.
use borrow.Author.Differences.{ints}
use Rattle.std.proofs.Common.{◌≡◌, ℕ, zero, suc, ◌+◌, ◌*◌, ◌<◌, ◌≤◌, Bool, true, false, List, [], ◌∷◌, pos, ◌+ℤ◌, ◌≤ℤ◌, Some, None, get_or, sym, subst, refl, ap, ◌∙◌, inl, inr, add-mul, mul-le-mul_left, arith}
use Rattle.std.proofs.lemmas.Bool.{cases_Bool, cases_lt}
use Rattle.std.proofs.lemmas.Bool.Decides.{nat_tests}
use Rattle.std.proofs.lemmas.Nat.{mod-mul-add, div-mul-add}
use Rattle.std.specs.List.{AllByRecursion}
use Rattle.midpoint.specs.Setting.{clock_limit}
use Rattle.clock.specs.Config.{bound_of, width_of}
use Rattle.clock.specs.Deviation.{deviation_of}
use Rattle.clock.specs.Rounds.{Moment, lead, GoodNode, FewBad, Apart, Round}
use Rattle.clock.proofs.Rounds.{set_closer}
use Rattle.schedule.specs.Config.{timing_of}
use Rattle.schedule.specs.Listening.{whole_in, came_whole, as_heard, heard_as, heard_in, only}
use Rattle.schedule.specs.Messages.{instant, AheadBy, SameRound, Course, FromSlot, HeardRound}
use Rattle.schedule.specs.Runs.{Run, answered, arrival_of, EndsIn, OtherThan, World, Duties, Started, Standing, Stands}
use Rattle.schedule.specs.Slots.{Timing, slot_of, slot_start, slot_end_of, send_time_of, round_end_of}
use Rattle.schedule.specs.declared.limits.Schedule.{Schedule}
use Rattle.schedule.specs.declared.listening.Arrival.{Arrival}
use Rattle.schedule.proofs.Answered.{one_whole, none_or_from_slot}
use Rattle.schedule.proofs.Passing.{hears_whole, ahead_by, makes_a_round, settles_no_farther, sets_before, rises, slot_long, starts_later, in_round, behind_round, over_in_round, nothing_overlaps_lem}

-- what is whole in the slot of a node came on its wire
on_its_wire : {M : Type 0} (s : Schedule) (k q : ℕ) (a : Arrival M) → q < s.cluster.nodes → came_whole s (slot_of (timing_of s) k q) a ≡ true →
    a.wire ≡ q
on_its_wire s k q a l is = grind (arith, nat_tests, is, mod-mul-add k s.cluster.nodes q l)

module _ {M : Type 0} (s : Schedule) (good : ℕ → Bool) (rounds : ℕ) (r : Run M) (few : FewBad s.cluster good)
    (world : World s good rounds r) (duties : Duties s good rounds r) where
  abbrev t : Timing
  t = timing_of s

  abbrev Good : ℕ → Type 0
  Good = GoodNode s.cluster good

  abbrev slot : ℕ → ℕ → ℕ
  slot k p = slot_of t k p

  -- between two moments of a round
  steady : (k p : ℕ) (a b : Moment) → k ≤ rounds → Good p → r.of_round k p a ≡ true → r.of_round k p b ≡ true → SameRound s.cluster a b
  steady k p a b h g ia ib = (world.drifts k p a b h g ia ib, world.drifts k p b a h g ib ia)

  drifted : (k p : ℕ) (a b : Moment) → k ≤ rounds → Good p → r.of_round k p a ≡ true → r.of_round k p b ≡ true →
      AheadBy s.cluster.drift (instant a) (instant b)
  drifted k p a b h g ia ib = ahead_by a b s.cluster.drift (world.drifts k p a b h g ia ib)

  -- a round ends a pause before the limit, since the node still sends in the next one
  room : (k p : ℕ) → k < rounds → Good p → (r.ends k p).clock.shown + s.pause < clock_limit
  room k p h g =
      omega (arith, duties.ending k p h g, behind_round s k p, duties.sending (suc k) p h g, (r.sends (suc k) p).clock.below)

  -- what is heard of any node is of its slot
  from_slots : (k p q : ℕ) → k < rounds → Good p → q < s.cluster.nodes → FromSlot t (slot k q) (get_or (r.heard k p) q None)
  from_slots k p q h g l =
      none_or_from_slot s (slot k q) (r.opened k p q) (r.arrived k p q) (get_or (r.heard k p) q None) (duties.listened k p q h g l)

  -- whatever was heard, no clock is set farther ahead than by the pause
  pub set_le : (k p : ℕ) → k < rounds → Good p → (r.starts (suc k) p).clock.shown ≤ round_end_of t k + s.pause
  set_le k p h g =
      let high = settles_no_farther s k (r.ends k p).clock.shown p (r.heard k p) (λ q l. from_slots k p q h g l) in
      omega (arith, high, (duties.setting k p h g).its_shown, duties.ending k p h g)

  -- so a node does not send in the next round long before that begins, nor is a round over before it begins
  sends_behind : (k p : ℕ) → k < rounds → Good p →
      slot_start t (slot (suc k) p) + (r.ends k p).common ≤ round_end_of t k + (r.sends (suc k) p).common + s.cluster.drift
  sends_behind k p h g =
      let sent = world.sent (suc k) p h g in
      let due = duties.sending (suc k) p h g in
      omega (
        arith,
        drifted (suc k) p (r.sends (suc k) p) (r.starts (suc k) p) h g sent (world.begun (suc k) p h g),
        set_le k p h g,
        world.at_once k p h g,
      )

  ends_behind : (k p : ℕ) → 0 < k → k < rounds → Good p → (r.starts k p).common ≤ (r.ends k p).common
  ends_behind zero p more h g = absurd (omega arith)
  ends_behind (suc k) p more h g =
      let ended = world.ended (suc k) p h g in
      let shows = duties.ending (suc k) p h g in
      omega (
        arith,
        drifted (suc k) p (r.ends (suc k) p) (r.starts (suc k) p) (omega arith) g ended (world.begun (suc k) p (omega arith) g),
        set_le k p (omega arith) g,
        behind_round s k p,
        in_round s (suc k) p g.0,
        s.behind,
      )

  sends_end : (k p : ℕ) → k < rounds → Good p → (r.sends k p).common + s.wire + s.cluster.drift ≤ (r.ends k p).common
  sends_end k p h g =
      let sent = world.sent k p (omega arith) g in
      let due = duties.sending k p (omega arith) g in
      let ended = world.ended k p h g in
      let shows = duties.ending k p h g in
      omega (arith, drifted k p (r.ends k p) (r.sends k p) (omega arith) g ended sent, in_round s k p g.0, s.behind)

  sends_rise : (k j p : ℕ) → k ≤ j → j ≤ rounds → Good p → (r.sends k p).common ≤ (r.sends j p).common
  sends_rise k j p le h g =
      rises (λ i. (r.sends i p).common) rounds (λ i l. omega (arith, sends_end i p l g, sends_behind i p l g, behind_round s i p)) k j le h

  -- the round that is counted stays below the limit, as the time to send in it does
  counts_on : (k p : ℕ) → k < rounds → Good p → (r.starts k p).clock.round ≡ k → (r.starts (suc k) p).clock.round ≡ suc k
  counts_on k p h g e =
      let turn : suc k * 1 ≤ suc k * s.cluster.nodes = mul-le-mul_left (suc k) (omega (arith, s.cluster.enough)) in
      let long : slot (suc k) p * 1 ≤ slot (suc k) p * s.length = mul-le-mul_left (slot (suc k) p) (omega (arith, s.behind)) in
      omega (arith, turn, long, duties.sending (suc k) p h g, (r.sends (suc k) p).clock.below, (duties.setting k p h g).its_round, duties.counts k p h g)

  -- What is known of a round as it begins: the clocks are within the bound, each counts it right, no message of it was missed, and those of earlier
  -- ones are over.
  record Ready (k : ℕ) : Type 0 where
    near : Apart s.cluster good (bound_of s.cluster) (r.starts k)
    counted : (p : ℕ) → Good p → (r.starts k p).clock.round ≡ k
    listens : (p q : ℕ) → Good p → Good q → (p ≡ q → ⊥) → (r.starts k p).common ≤ (r.begins k p q).common
    past : (j p q : ℕ) → j < k → Good p → Good q → (p ≡ q → ⊥) → (r.over j p q).common ≤ (r.starts k p).common

  module _ (k : ℕ) (ready : Ready k) where
    within : (p q : ℕ) (a b : Moment) → k ≤ rounds → Good p → Good q → r.of_round k p a ≡ true → r.of_round k q b ≡ true →
        lead a ≤ℤ (lead b +ℤ pos (width_of s.cluster))
    within p q a b h gp gq ia ib =
        let up = world.drifts k p a (r.starts k p) h gp ia (world.begun k p h gp) in
        let down = world.drifts k q (r.starts k q) b h gq (world.begun k q h gq) ib in
        let near = ready.near p q gp gq in
        omega (arith, ints)

    near_by : (p q : ℕ) (a b : Moment) → k ≤ rounds → Good p → Good q → r.of_round k p a ≡ true → r.of_round k q b ≡ true →
        AheadBy (width_of s.cluster) (instant a) (instant b)
    near_by p q a b h gp gq ia ib = ahead_by a b (width_of s.cluster) (within p q a b h gp gq ia ib)

    module _ (h : k < rounds) where
      le : k ≤ rounds
      le = omega arith

      -- a message between two good nodes
      module _ (p q : ℕ) (gp : Good p) (gq : Good q) (d : p ≡ q → ⊥) where
        lasts : (r.over k p q).common ≤ (r.ends k p).common
        lasts =
            let (way, _, _) = world.carried k p q le gp gq d in
            let sent = world.sent k q le gq in
            let due = duties.sending k q le gq in
            let ended = world.ended k p h gp in
            let shows = duties.ending k p h gp in
            let near = near_by p q (r.ends k p) (r.sends k q) le gp gq ended sent in
            omega (arith, way.arrives, way.lasts, over_in_round s k q (instant (r.sends k q)) (instant (r.ends k p)) gq.0 due shows near)

        falls_in : (r.of_round k p (r.begins k p q) ≡ true) × (r.of_round k p (r.over k p q) ≡ true)
            × ((r.begins k p q).clock.shown ≤ (r.over k p q).clock.shown)
        falls_in = world.falls_in k k p q h le gp gq d (ready.listens p q gp gq d) lasts

        whole : whole_in t (slot k q) q (r.begins k p q).clock.shown (r.over k p q).clock.shown ≡ true
        whole =
            let (way, _, _) = world.carried k p q le gp gq d in
            let sent = world.sent k q le gq in
            let due = duties.sending k q le gq in
            subst (λ wire. whole_in t (slot k q) wire (r.begins k p q).clock.shown (r.over k p q).clock.shown ≡ true)
            (mod-mul-add k s.cluster.nodes q gq.0)
            (hears_whole s (slot k q) (instant (r.sends k q)) (instant (r.begins k p q)) (instant (r.over k p q)) due way
            (near_by q p (r.sends k q) (r.begins k p q) le gq gp sent falls_in.0)
            (near_by p q (r.over k p q) (r.sends k q) le gp gq falls_in.1 sent))

        -- it begins in its slot, before the round ends
        in_its_slot : (slot_start t (slot k q) ≤ (r.begins k p q).clock.shown) × ((r.begins k p q).clock.shown ≤ (r.ends k p).clock.shown)
        in_its_slot =
            let (way, _, _) = world.carried k p q le gp gq d in
            let sent = world.sent k q le gq in
            let due = duties.sending k q le gq in
            let near = near_by p q (r.begins k p q) (r.sends k q) le gp gq falls_in.0 sent in
            let fits = in_round s k q gq.0 in
            (grind (arith, nat_tests, whole), omega (arith, way.arrives, s.behind, duties.ending k p h gp))

        -- one of a later round begins behind the start of this one, and comes, by the receiver's clock, when the slot is over
        later_out : (j : ℕ) → k < j → j ≤ rounds → EndsIn r k j p q →
            whole_in t (slot k q) q (r.begins j p q).clock.shown (r.over j p q).clock.shown ≡ true → ⊥
        later_out j after u (_, ends_in) is =
            let (way, _, _) = world.carried k p q le gp gq d in
            let (way_later, _, lasts_later) = world.carried j p q u gp gq d in
            let ended = world.ended k p h gp in
            let shows = duties.ending k p h gp in
            let other = world.ended k q h gq in
            let shows_other = duties.ending k q h gq in
            let sends_later = sends_rise (suc k) j q after u gq in
            let begun_in : (r.starts k p).common ≤ (r.begins j p q).common =
            omega (
              arith,
              ready.listens p q gp gq d,
              way.arrives,
              sends_end k q h gq,
              sends_behind k q h gq,
              behind_round s k q,
              sends_later,
              way_later.leaves,
            ) in
            let (_, over, _) = world.falls_in k j p q h u gp gq d begun_in ends_in in
            let inside : (r.over j p q).clock.shown ≤ slot_end_of t (slot k q) = grind (arith, nat_tests, is) in
            let turn : slot k q + 1 < slot (suc k) q = omega (arith, add-mul k 1 s.cluster.nodes, s.cluster.enough) in
            omega (
              arith,
              drifted k p (r.ends k p) (r.over j p q) le gp ended over,
              near_by q p (r.ends k q) (r.ends k p) le gq gp other ended,
              sends_behind k q h gq,
              sends_later,
              starts_later t (slot k q + 1) (slot (suc k) q) turn,
              slot_long t (slot k q + 1),
              way_later.leaves,
              lasts_later,
              s.before,
              s.behind,
            )

        other_out : (j : ℕ) → j ≤ rounds → (j ≡ k → ⊥) → EndsIn r k j p q →
            whole_in t (slot k q) q (r.begins j p q).clock.shown (r.over j p q).clock.shown ≡ true → ⊥
        other_out j u other ends_in is =
            elim (cases_lt j k) [
              | inl less ↦ omega (arith, ready.past j p q less gp gq d, ends_in.0)
              | inr more ↦
                  elim (cases_lt k j) [
                    | inl after ↦ later_out j after u ends_in is
                    | inr same ↦ other (omega arith)
                  ]
            ]

        -- so nothing else that the listener is told of is whole in the slot
        other_part : (a : Arrival M) → OtherThan r rounds k p q a → came_whole s (slot k q) a ≡ false
        other_part a other =
            elim (cases_Bool (came_whole s (slot k q) a)) [
              | inl is ↦
                  let (j, u, differs, ends_in, e) = other (on_its_wire s k q a gq.0 is) in
                  absurd (other_out j u differs ends_in (subst (λ x. came_whole s (slot k q) x ≡ true) {y = arrival_of r j p q} e is))
              | inr part ↦ part
            ]

        others_part : (xs : List (Arrival M)) → AllByRecursion (OtherThan r rounds k p q) xs →
            AllByRecursion (λ x. came_whole s (slot k q) x ≡ false) xs
        others_part [] others = tt
        others_part (a ∷ xs) (other, others) = (other_part a other, others_part xs others)

        answer : answered s r k p q ≡ Some (as_heard t (slot k q) (arrival_of r k p q))
        answer =
            let told = world.wires k p q h gp gq d (ready.listens p q gp gq d) lasts whole in
            let one =
            one_whole s (slot k q) (r.opened k p q) told.earlier (arrival_of r k p q) told.later whole falls_in.2 told.in_time
            (others_part told.earlier told.others_earlier) told.in_order (others_part told.later told.others_later) in
            ap (heard_in s (slot k q) (r.opened k p q)) told.all ∙ ap (λ xs. heard_as t (slot k q) (only xs)) one

        heard : get_or (r.heard k p) q None ≡ Some (deviation_of (send_time_of t (slot k q)) (r.begins k p q).clock.shown)
        heard = duties.taken k p q h gp gq d (as_heard t (slot k q) (arrival_of r k p q)) answer refl

      heard_round : HeardRound s good k (r.heard k) (r.ends k)
      heard_round = record {
        sent = r.sends k;
        began = r.begins k;
        sends = λ q g. duties.sending k q le g;
        leaves = λ p q gp gq d. (world.carried k p q le gp gq d).0.leaves;
        on_time = λ p q gp gq d. (world.carried k p q le gp gq d).1;
        sender_runs = λ q g. steady k q (r.ends k q) (r.sends k q) le g (world.ended k q h g) (world.sent k q le g);
        receiver_runs = λ p q gp gq d. steady k p (r.ends k p) (r.begins k p q) le gp (world.ended k p h gp) (falls_in p q gp gq d).0;
        in_its_slot = in_its_slot;
        hears = heard;
        from_slots = λ p q g l. from_slots k p q h g l;
        room = λ p g. room k p h g;
      }

      goes_round : Round s.cluster good (r.heard k) (r.ends k) (r.starts (suc k))
      goes_round =
          makes_a_round s good k (r.heard k) (r.ends k) (r.starts (suc k)) (λ p. (r.starts (suc k) p).clock) heard_round
          (λ p g. duties.setting k p h g) (λ p g. let e = world.at_once k p h g in (omega (arith, ints), omega (arith, ints))) (λ p g. refl)

      -- The clock as the node sends in the next round. What number it gives that round makes no difference here.
      next : ℕ → Moment
      next p = record {
        common = (r.sends (suc k) p).common;
        clock = record {
          shown = (r.sends (suc k) p).clock.shown;
          round = (r.starts (suc k) p).clock.round;
          below = (r.sends (suc k) p).clock.below;
        };
      }

      one_round : Round s.cluster good (r.heard k) (r.ends k) next
      unfolding next
      one_round =
          makes_a_round s good k (r.heard k) (r.ends k) next (λ p. (r.starts (suc k) p).clock) heard_round (λ p g. duties.setting k p h g)
          (λ p g.
          let e = world.at_once k p h g in
          let (up, down) = steady (suc k) p (r.sends (suc k) p) (r.starts (suc k) p) h g (world.sent (suc k) p h g) (world.begun (suc k) p h g) in
          (omega (arith, ints), omega (arith, ints)))
          (λ p g. refl)

      ends_apart : Apart s.cluster good (width_of s.cluster) (r.ends k)
      ends_apart p q gp gq = within p q (r.ends k p) (r.ends k q) le gp gq (world.ended k p h gp) (world.ended k q h gq)

      sets_to : (p : ℕ) → Good p → (one_round.set p).shown ≡ (r.starts (suc k) p).clock.shown
      sets_to p g = (one_round.sets p g).its_shown ∙ sym (duties.setting k p h g).its_shown

      set_before : (p q : ℕ) → Good p → Good q → (r.ends k p).common ≤ (r.sends (suc k) q).common
      unfolding next
      set_before p q gp gq =
          let later = div-mul-add (suc k) s.cluster.nodes q gq.0 in
          sets_before s good (r.heard k) (r.ends k) next k (slot (suc k) q) q p few one_round ends_apart gq gp (duties.ending k p h gp) (omega arith)
          (duties.sending (suc k) q h gq)

      ready_next : Ready (suc k)
      unfolding next
      ready_next = record {
        near = λ p q gp gq.
            let closer = set_closer s.cluster good (r.heard k) (r.ends k) next few one_round (width_of s.cluster) ends_apart p q gp gq in
            omega (arith, ints, sets_to p gp, sets_to q gq, world.at_once k p h gp, world.at_once k q h gq);
        counted = λ p g. counts_on k p h g (ready.counted p g);
        listens = λ p q gp gq d. omega (arith, set_before p q gp gq, world.at_once k p h gp, (world.carried (suc k) p q h gp gq d).0.leaves);
        past = λ j p q less gp gq d.
            elim (cases_lt j k) [
              | inl before ↦
                  omega (
                    arith,
                    ready.past j p q before gp gq d,
                    ends_behind k p (omega arith) h gp,
                    world.at_once k p h gp,
                  )
              | inr same ↦ let e : j ≡ k = omega arith in rw e (omega (arith, lasts p q gp gq d, world.at_once k p h gp))
            ];
      }

  all_ready : Started s good r → (k : ℕ) → k ≤ rounds → Ready k
  all_ready start zero h = record {
    near = start.near;
    counted = start.first;
    listens = start.listens;
    past = λ j p q less gp gq d. absurd (omega arith);
  }
  all_ready start (suc k) h = ready_next k (all_ready start k (omega arith)) h

  module _ (start : Started s good r) where
    known : (k : ℕ) → k ≤ rounds → Ready k
    known = all_ready start

    course : Course s good rounds (λ k p. instant (r.sends k p)) (λ k p. instant (r.ends k p))
    course = record {
      sent = λ k p h g. duties.sending k p h g;
      over = λ k p h g. duties.ending k p h g;
      before_the_end = λ k p h g. omega (arith, sends_end k p h g);
      behind_it = λ k p h g. set_before k (known k (omega arith)) h p p g g;
      sends_together = λ k p q h gp gq.
          near_by k (known k h) q p (r.sends k q) (r.sends k p) h gq gp (world.sent k q h gq) (world.sent k p h gp);
      ends_together = λ k p q h gp gq.
          near_by k (known k (omega arith)) q p (r.ends k q) (r.sends k p) (omega arith) gq gp (world.ended k q h gq) (world.sent k p (omega arith) gp);
    }

    standing : Standing s good rounds r
    standing = record {
      together = λ k h. (known k h).near;
      within = λ k p q a b h. within k (known k h) p q a b h;
      counted = λ k p h. (known k h).counted p;
      listens = λ k p q h. (known k h).listens p q;
      lasts = λ k p q h. lasts k (known k (omega arith)) h p q;
      whole = λ k p q h. whole k (known k (omega arith)) h p q;
      alone = λ k j p q h u gp gq d. (
        λ less. (known k (omega arith)).past j p q less gp gq d,
        λ more.
            omega (
              arith,
              set_before k (known k (omega arith)) h p q gp gq,
              sends_rise (suc k) j q more u gq,
              (world.carried j p q u gp gq d).0.leaves,
            ),
      );
      heard = λ k p q h gp gq d.
          let ready = known k (omega arith) in (answer k ready h p q gp gq d, heard k ready h p q gp gq d);
      goes_round = λ k h. goes_round k (known k (omega arith)) h;
      over_before = λ k j p q hk hj gp gq order.
          nothing_overlaps_lem s good rounds (λ i n. instant (r.sends i n)) (λ i n. instant (r.ends i n)) k j p q course hk hj gp gq order;
      set_before = λ k p q h. set_before k (known k (omega arith)) h p q;
      in_time = λ k p h g. omega (arith, set_le k p h g, behind_round s k p);
    }

pub stands : {M : Type 0} → Stands M
stands s good rounds r few law start = standing s good rounds r few law.world law.duties start
