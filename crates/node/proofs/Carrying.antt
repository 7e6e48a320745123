-- A run of good nodes, round by round: no call is turned away, so it is a run on the bus as the schedule speaks of it, and the tables are those of a cycle. Assumes
-- nothing.
use borrow.Author.Differences.{ints}
use Rattle.std.proofs.Common.{◌≡◌, ℕ, ℤ, zero, suc, ◌<◌, ◌≤◌, Bool, List, length, get_or, take, slice_index, Some, None, Option, refl, sym, ap, subst, ◌∙◌, inl, inr, arith}
use Rattle.std.proofs.lemmas.Bool.{cases_eq, cases_lt, eq-eqb, ne_eqb, lt-ltb, le-ltb}
use Rattle.std.proofs.lemmas.Bool.Decides.{nat_tests}
use Rattle.std.proofs.lemmas.List.{length-set, length-replicate}
use Rattle.midpoint.specs.Refusals.{first_applying}
use Rattle.clock.specs.Rounds.{GoodNode, FewBad}
use Rattle.clock.specs.Setting.{next_round_of}
use Rattle.schedule.specs.Config.{timing_of}
use Rattle.schedule.specs.Runs.{Duties, answered}
use Rattle.schedule.specs.Runs as bus
use Rattle.schedule.specs.Slots.{slot_of, send_time_of, round_end_of}
use Rattle.schedule.specs.declared.limits.Schedule.{Schedule}
use Rattle.schedule.specs.declared.listening.Received.{Received}
use Rattle.schedule.proofs.Standing.{stands}
use Rattle.frame.specs.Layout.{frame_length_of, value_count_of, payload_of}
use Rattle.frame.specs.Reading.{untaken}
use Rattle.frame.specs.Theorems.{Taken, written_frame}
use Rattle.frame.specs.Writing.{FirstFit, with_frame}
use Rattle.frame.proofs.Frames.{round_trip}
use Rattle.relay.specs.Tables.{table_length_of}
use Rattle.relay.specs.Telling.{told_from, heard_in, Entered}
use Rattle.relay.specs.Theorems.{turn_in}
use Rattle.relay.proofs.Relaying.{heard_as_told}
use Rattle.node.specs.Nodes.{turn_of, read_in}
use Rattle.node.specs.Hearing.{taken, values_of, deviation_of_taken}
use Rattle.node.specs.Runs.{Run, on_bus, sent, Called, Lawful, Started, Standing, Stands, reads, writes}
use Rattle.node.specs.Settings.{RoundSet, RunsAreSet}
use Rattle.node.proofs.Stages.{Stage, Moved, heard_of, entered_of, moves, next_stage, sends_at, did_send, comes}
use Rattle.node.proofs.Rounds.{next_round, none_there, either_heard, ends_at, does_end, sets_to, counts_on, reads_next, results_next, end_due_is}
use Rattle.node.proofs.Roles.{by_role}
use Rattle.node.proofs.Cycling.{Kept, agreed}

module _ (s : Schedule) (good : ℕ → Bool) (rounds : ℕ) (r : Run) (law : Lawful s good rounds r) (start : Started s good r) where
  abbrev n : ℕ
  n = s.cluster.nodes

  abbrev Good : ℕ → Type 0
  Good = GoodNode s.cluster good

  begins : (p : ℕ) → Good p → Stage s r 0 p 0
  begins p g =
      let made = start.begins p g in
      let node = r.node 0 p 0 in
      record {
        place = record {
          config = made.made.made.its_schedule;
          own = made.made.made.its_own;
          counts = made.made.made.its_round;
          passed = λ q. made.made.made.its_over q ∙ grind (arith, nat_tests);
        };
        shows = rw (lt-ltb 0 n (omega (arith, s.cluster.enough))) (omega (arith, made.made.made.shows, made.early));
        read_fits = ap length made.made.first ∙ length-set made.old 0 (r.value 0 p) ∙ made.first_fits;
        write_fits = made.second_fits;
        sixteen = ap length made.made.made.its_heard ∙ length-replicate {A = Option ℤ} 16 None;
        unheard = λ q l. ap (λ heard. get_or heard q None) made.made.made.its_heard ∙ none_there q;
        own_unheard = ap (λ heard. get_or heard p None) made.made.made.its_heard ∙ none_there p;
        heard = λ q l other. absurd (omega (arith, l));
      }

  -- behind as many calls as were made
  behind : (k p : ℕ) (most : ℕ) → k ≤ rounds → Good p → most ≤ n → ((calls : ℕ) → calls < most → Called s r k p calls) → Stage s r k p 0 →
      (calls : ℕ) → calls ≤ most → Stage s r k p calls
  behind k p most h g few called first zero le = first
  behind k p most h g few called first (suc calls) le =
      let stage = behind k p most h g few called first calls (omega (arith, le)) in
      let now = called calls (omega (arith, le)) in
      let more : calls < n = omega (arith, le, few) in
      next_stage s r k p calls stage more now (moves s r k p calls stage more now (law.room k p h g))

  stage : (k p : ℕ) → k ≤ rounds → Good p → Stage s r k p 0
  stage zero p h g = begins p g
  stage (suc k) p h g =
      let last = behind k p n (omega (arith, h)) g (omega arith) (λ calls l. law.called k p calls (omega (arith, h)) g (omega (arith, l)))
      (stage k p (omega (arith, h)) g) n (omega arith) in
      next_round s r k p last (law.called k p n (omega (arith, h)) g (omega arith))

  within : (k p calls : ℕ) → k < rounds → Good p → calls ≤ n → Stage s r k p calls
  within k p calls h g le =
      behind k p n (omega (arith, h)) g (omega arith) (λ i l. law.called k p i h g (omega (arith, l))) (stage k p (omega (arith, h)) g) calls le

  moved : (k p calls : ℕ) (h : k < rounds) (g : Good p) (le : calls < n) → Moved s r k p calls (within k p calls h g (omega (arith, le)))
  moved k p calls h g le =
      moves s r k p calls (within k p calls h g (omega (arith, le))) le (law.called k p calls h g (omega (arith, le))) (law.room k p (omega (arith, h)) g)

  -- up to the call with which a node sends, in the next round too
  until : (k p calls : ℕ) → k ≤ rounds → Good p → calls ≤ p → Stage s r k p calls × Called s r k p calls
  until k p calls h g le =
      elim (cases_lt k rounds) [
        | inl less ↦ (within k p calls less g (omega (arith, le, g.0)), law.called k p calls less g (omega (arith, le, g.0)))
        | inr last ↦
            let e : k ≡ rounds = omega (arith, h, last) in
            subst (λ j. Stage s r j p calls × Called s r j p calls) (sym e) (
              behind rounds p p (omega arith) g (omega (arith, g.0)) (λ i l. law.called_next p i g (omega (arith, l))) (stage rounds p (omega arith) g) calls le,
              law.called_next p calls g le,
            )
      ]

  sends_in_time : (k p : ℕ) → k ≤ rounds → Good p → (r.at k p p).shown ≡ send_time_of (timing_of s) (slot_of (timing_of s) k p)
  sends_in_time k p h g = let (there, called) = until k p p h g (omega arith) in sends_at s r k p p there g.0 called refl

  -- the table that a node reads is the same until it sends
  reads_stay : (k p calls : ℕ) → k ≤ rounds → Good p → calls ≤ p → read_in k (r.first k p calls) (r.second k p calls) ≡ reads r k p
  reads_stay k p zero h g le = refl
  reads_stay k p (suc calls) h g le =
      let (there, called) = until k p calls h g (omega (arith, le)) in
      (moves s r k p calls there (omega (arith, le, g.0)) called (law.room k p h g)).reads_on ∙ reads_stay k p calls h g (omega (arith, le))

  -- What a node sends is what it tells from that table, written as a frame.
  record IsFrame (k p : ℕ) : Type 0 where
    fits : FirstFit (slice_index (told_from (turn_in s.cluster k p) (reads r k p))) (value_count_of (turn_in s.cluster k p))
    is : sent r k p ≡ written_frame (turn_in s.cluster k p) (slice_index (told_from (turn_in s.cluster k p) (reads r k p))) (r.memory k p)

  is_frame : (k p : ℕ) → k ≤ rounds → Good p → IsFrame k p
  is_frame k p h g =
      let (there, called) = until k p p h g (omega arith) in
      let by = did_send s r k p p there g.0 called refl (law.room k p h g) in
      let node = r.node k p p in
      let read = read_in node.clock.round (r.first k p p) (r.second k p p) in
      let turn : turn_of node node.own ≡ turn_in s.cluster k p = (λ i. turn_in (there.place.config i).cluster (there.place.counts i) (there.place.own i)) in
      let table : read ≡ reads r k p =
      ap (λ j. read_in j (r.first k p p) (r.second k p p)) there.place.counts ∙ reads_stay k p p h g (omega arith) in
      record {
        fits = subst (λ x. FirstFit (slice_index (told_from (turn_in s.cluster k p) x)) (value_count_of (turn_in s.cluster k p))) table
            (subst (λ t. FirstFit (slice_index (told_from t read)) (value_count_of t)) turn by.sent.fits);
        is = ap (take (frame_length_of (turn_of node node.own))) by.sent.frame
            ∙ (λ i. take (frame_length_of (turn i)) (with_frame (turn i) (slice_index (told_from (turn i) (table i))) (r.memory k p)));
      }

  taken_in_turn : (k q : ℕ) → k ≤ rounds → Good q → Taken (turn_in s.cluster k q) (sent r k q)
  taken_in_turn k q h g =
      let frame = is_frame k q h g in
      rw frame.is (round_trip (turn_in s.cluster k q) (slice_index (told_from (turn_in s.cluster k q) (reads r k q))) (r.memory k q) frame.fits).taken

  -- so what is heard of a good node with this frame is taken
  takes_it : (k p q : ℕ) (received : Received (List ℕ)) → k < rounds → Good q → answered s (on_bus s r) k p q ≡ Some received → received.message ≡ sent r k q →
      heard_of s r k p q ≡ Some received
  takes_it k p q received h g answers same =
      let t = turn_in s.cluster k q in
      let none : first_applying (untaken t received.message) ≡ None = rw same (taken_in_turn k q (omega (arith, h)) g) in
      ap (taken t) answers ∙ rw none refl

  duties : Duties s good rounds (on_bus s r)
  duties = record {
    sending = sends_in_time;
    ending = λ k p h g. ends_at s r k p (within k p n h g (omega arith)) (law.called k p n h g (omega arith));
    setting = λ k p h g.
        let last = within k p n h g (omega arith) in
        let called = law.called k p n h g (omega arith) in
        record {
          its_shown = sets_to s r k p last called;
          its_round = counts_on s r k p last called ∙ ap next_round_of (sym (stage k p (omega (arith, h)) g).place.counts);
        };
    counts = λ k p h g. refl;
    listened = λ k p q h g l. either_heard s r k p (within k p n h g (omega arith)) q l;
    taken = λ k p q h gp gq differs received answers same.
        (within k p n h gp (omega arith)).heard q gq.0 (λ e. differs (sym e)) ∙ ap deviation_of_taken (takes_it k p q received h gq answers same);
  }

  on_the_bus : bus.Lawful s good rounds (on_bus s r)
  on_the_bus = record { world = law.world; duties = duties }

  started : bus.Started s good (on_bus s r)
  started = record { near = start.near; first = λ p g. (begins p g).place.counts; listens = start.listens }

  module _ (few : FewBad s.cluster good) where
    bus_stands : bus.Standing s good rounds (on_bus s r)
    bus_stands = stands s good rounds (on_bus s r) few on_the_bus started

    -- what is entered of a good node is what it tells
    told_by : (k p q : ℕ) → k < rounds → Good p → Good q → entered_of s r k p q ≡ told_from (turn_in s.cluster k q) (reads r k q)
    told_by k p q h gp gq =
        let t = turn_in s.cluster k q in
        elim (cases_eq q p) [
          | inl same ↦
              rw (eq-eqb q p same)
              (ap (λ x. told_from (turn_in s.cluster k p) x) (reads_stay k p q (omega (arith, h)) gp (omega (arith, same)))
              ∙ ap (λ x. told_from (turn_in s.cluster k x) (reads r k x)) (sym same))
          | inr differs ↦
              let (answers, _) = bus_stands.heard k p q h gp gq (λ e. differs (sym e)) in
              let frame = is_frame k q (omega (arith, h)) gq in
              let values = slice_index (told_from t (reads r k q)) in
              let heard : values_of t (heard_of s r k p q) ≡ heard_in t (payload_of (sent r k q)) = ap (values_of t) (takes_it k p q _ h gq answers refl) in
              rw (ne_eqb q p differs)
              (heard ∙ heard_as_told t (reads r k q) (payload_of (sent r k q)) gq.0
              (rw frame.is (round_trip t values (r.memory k q) frame.fits).same_values))
        ]

    kept : Kept s good rounds r (entered_of s r)
    kept = record {
      begins = λ p g. let made = start.begins p g in (made.old, made.first_fits, made.made.first);
      entered = λ k p q h g l. (moved k p q h g l).entered;
      told = told_by;
      fits = λ k p h g. (within k p n h g (omega arith)).write_fits;
      next = λ k p h g. reads_next s r k p (within k p n h g (omega arith)) (law.called k p n h g (omega arith));
      config = λ k p h g. (stage k p h g).place.config;
      results = λ k p h g is. results_next s r k p (within k p n h g (omega arith)) (law.called k p n h g (omega arith)) is;
    }

    standing : Standing s good rounds r
    standing = record {
      bus_stands = bus_stands;
      slots = λ k p q h g l. comes s r k p q (within k p q h g (omega (arith, l))) (law.called k p q h g (omega (arith, l))) l;
      slots_next = λ p q g le. let (there, called) = until rounds p q (omega arith) g le in comes s r rounds p q there called (omega (arith, le, g.0));
      ends = λ k p h g. end_due_is s r k p (within k p n h g (omega arith)) (law.called k p n h g (omega arith));
      taken = taken_in_turn;
      told = λ k p q h gp gq. subst (λ values. Entered (turn_in s.cluster k q) values (writes r k p q) (writes r k p (suc q))) (told_by k p q h gp gq)
          (moved k p q h gp gq.0).entered;
      agreed = λ first is_first h. agreed s good rounds r (entered_of s r) first few kept is_first h;
    }

    -- the end of a round of a run, as one of which the setting's theorems speak
    set_in : (k : ℕ) → k < rounds → RoundSet s good (λ p. r.node k p n) (λ p. r.node (suc k) p 0) ((on_bus s r).ends k) ((on_bus s r).starts (suc k))
    set_in k h =
        let round = bus_stands.goes_round k h in
        record {
          config = λ p g. (within k p n h g (omega arith)).place.config;
          own = λ p g. (within k p n h g (omega arith)).place.own;
          over = λ p g.
              let last = within k p n h g (omega arith) in
              let called = law.called k p n h g (omega arith) in
              let (first_fits, second_fits) = by_role k (table_length_of s.cluster) (r.first k p n) (r.second k p n) last.read_fits last.write_fits in
              let shows : (r.node k p n).clock.shown ≤ round_end_of (timing_of s) k = rw (le-ltb n n (omega arith)) at last.shows in
              record {
                value = r.value (suc k) p;
                first = r.first k p n;
                second = r.second k p n;
                first_after = r.first (suc k) p 0;
                second_after = r.second (suc k) p 0;
                first_fits = first_fits;
                second_fits = second_fits;
                later = omega (arith, shows, ends_at s r k p last called);
                ends = does_end s r k p last called;
              };
          fair = round.fair;
          readable = round.taken;
          runs = λ p g. let e = law.world.at_once k p h g in (omega (arith, ints, e), omega (arith, ints, e));
        }

pub runs_are_set : RunsAreSet
runs_are_set s good rounds r few law start k h = set_in s good rounds r law start few k h

pub stands_always : Stands
stands_always s good rounds r few law start = standing s good rounds r law start few
