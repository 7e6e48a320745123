-- The calls of the run that was made: each is done, when it is due. Assumes nothing.
use Rattle.std.proofs.Common.{◌≡◌, ℕ, zero, suc, ◌<◌, ◌≤◌, false, cond, ◌==◌, List, length, slice_index, slice_set, ◌≢◌, inl, inr, sym, refl, ap, subst, ◌∙◌, arith}
use Rattle.std.proofs.lemmas.Bool.{cases_eq, eq-eqb, ne_eqb, lt-ltb, le-ltb}
use Rattle.midpoint.specs.Setting.{clock_limit}
use Rattle.clock.specs.Setting.{readings, next_round_of, settled}
use Rattle.clock.specs.declared.limits.Cluster.{Cluster}
use Rattle.schedule.specs.Config.{timing_of}
use Rattle.schedule.specs.Listening.{heard_in}
use Rattle.schedule.specs.Runs.{answered}
use Rattle.schedule.specs.Runs as bus
use Rattle.schedule.specs.Slots.{Timing, slot_of, send_time_of, slot_end_of}
use Rattle.schedule.specs.declared.limits.Schedule.{Schedule}
use Rattle.schedule.proofs.Passing.{slot_long, starts_later, behind_round}
use Rattle.schedule.proofs.Running.{first_in_pause}
use Rattle.schedule.proofs.Standing.{set_le}
use Rattle.frame.specs.Layout.{value_count_of, frame_length_of}
use Rattle.frame.specs.Writing.{FirstFit, with_frame}
use Rattle.relay.specs.Nodes.{among, added}
use Rattle.relay.specs.Telling.{told_from, Entered}
use Rattle.relay.specs.Theorems.{turn_in, EnteredAll}
use Rattle.node.specs.Due.{due_of}
use Rattle.node.specs.Calls.{Passed, unsent, unheard, unended}
use Rattle.node.specs.Sending.{Sent, SentBy}
use Rattle.node.specs.Hearing.{values_of, deviation_of_taken, HasHeard, HeardBy}
use Rattle.node.specs.Ending.{Ended, EndedBy, value_missed, missed}
use Rattle.node.specs.Runs.{Run, listened, Does, MadeAt, Called}
use Rattle.node.specs.declared.due.Call.{Call}
use Rattle.node.specs.declared.due.Call.TheVariants.{Send, SlotOver, RoundOver}
use Rattle.node.proofs.Open.{none_left}
use Rattle.node.proofs.Accepted.{Timely, is_done, sending_taken, hearing_taken, ending_taken, slot_does_not_stop}
use Rattle.node.proofs.Placing.{next_time, next_behind, next_of_first, Place, due_to_send, due_to_hear, due_to_end, due_by, due_from, due_then}
use Rattle.node.proofs.Firsts.{first_nodes, among_first, none_first, one_more_first}
use Rattle.node.proofs.Evolving.{next_table, tells, says_small, zeros_long}
use Rattle.node.proofs.Building.{Chosen, bus_run, node_run, own, own_is, at, shows, got, heard, values, reads, writes, node, reads_in, writes_in, next_reads, next_writes, both_long, enters, at_own, at_end, at_other}
use Rattle.node.proofs.Entries.{Good, stands_so, reads_as_bus, written_so}

module _ (x : Chosen) where
  abbrev s : Schedule
  s = x.s

  abbrev c : Cluster
  c = x.s.cluster

  abbrev n : ℕ
  n = x.s.cluster.nodes

  abbrev t : Timing
  t = timing_of x.s

  abbrev r : bus.Run (List ℕ)
  r = bus_run x

  abbrev run : Run
  run = node_run x

  abbrev Made : ℕ → ℕ → ℕ → Type 0
  Made k p q = Called s run k p q

  -- when a node sends, and what its clock shows at most as a round begins
  sends_then : (k p : ℕ) → k ≤ x.rounds → Good x p → (at x k p p).shown ≡ send_time_of t (slot_of t k p)
  sends_then k p h g = ap (λ m. m.shown) (at_own x k p p refl) ∙ x.given.lawful.duties.sending k p h g

  starts_by : (k p : ℕ) → k ≤ x.rounds → Good x p → (r.starts k p).clock.shown ≤ send_time_of t (slot_of t k 0)
  starts_by zero p h g = omega (arith, ap (λ m. m.clock.shown) (x.given.first_start p), first_in_pause x.choice p g)
  starts_by (suc k) p h g =
      omega (arith, set_le s x.good x.rounds r x.few x.given.lawful.world x.given.lawful.duties k p h g, behind_round s k 0)

  -- A call is made when the slot is over at the latest, and the next one is not due before that: so no clock shows more than the time of the next call.
  by_then : (k p q : ℕ) → k ≤ x.rounds → Good x p → q < n → (at x k p q).shown ≤ slot_end_of t (slot_of t k q)
  by_then k p q h g l =
      elim (cases_eq q p) [
        | inl e ↦
            let sends : (at x k p p).shown ≤ slot_end_of t (slot_of t k p) = omega (arith, sends_then k p h g, slot_long t (slot_of t k p), s.behind) in
            subst (λ i. (at x k p i).shown ≤ slot_end_of t (slot_of t k i)) (sym e) sends
        | inr differs ↦ omega (arith, at_other x k p q differs l)
      ]

  shows_by : (k p q : ℕ) → k ≤ x.rounds → Good x p → q ≤ n → (shows x k p q).shown ≤ next_time s k p q
  shows_by k p zero h g l = omega (arith, starts_by k p h g, next_of_first s k p)
  shows_by k p (suc q) h g l = omega (arith, by_then k p q h g (omega (arith, l)), next_behind s k p q (omega (arith, l)))

  -- a slot before one in which the node is still to send ends below the limit
  pub ends_below : (k j p q : ℕ) → j ≤ x.rounds → Good x p → slot_of t k q < slot_of t j p → slot_end_of t (slot_of t k q) < clock_limit
  ends_below k j p q h g less = omega (arith, starts_later t (slot_of t k q) (slot_of t j p) less, sends_then j p h g, (at x j p p).below)

  -- So behind as many calls a node is where it should be,
  placed : (k p q : ℕ) → Good x p → q ≤ n → Place s run k p q
  placed k p q g l = record {
    config = refl;
    own = own_is x p g.0;
    counts = refl;
    passed = λ other. among_first q other (omega (arith, l, c.most));
  }

  -- and a call that is not made before its time is taken by its time and its tables.
  timely : (k p q : ℕ) → k ≤ x.rounds → Good x p → q ≤ n → next_time s k p q ≤ (at x k p q).shown →
      Timely (node x k p q) (at x k p q).shown (run.first k p q) (run.second k p q)
  timely k p q h g l late =
      let (first_fits, second_fits) = both_long x k p q l in
      record { below = (at x k p q).below; later = omega (arith, late, shows_by k p q h g l); first_fits = first_fits; second_fits = second_fits }

  -- A call is the one that is due where the node names it and it is made when it should be.
  called_as : (k p q : ℕ) (call : Call) → (due_of (node x k p q)).call ≡ call →
      MadeAt call (due_of (node x k p q)).time (due_of (node x k p (suc q))).time (at x k p q).shown → Does s run k p q (at x k p q).shown call → Made k p q
  called_as k p q call is on_time does = record {
    on_time = subst (λ made. MadeAt made (due_of (node x k p q)).time (due_of (node x k p (suc q))).time (at x k p q).shown) (sym is) on_time;
    does = subst (λ made. Does s run k p q (at x k p q).shown made) (sym is) does;
  }

  -- what a call in a round leaves of a node
  passed_on : (k p q sender : ℕ) → ((other : ℕ) → among (first_nodes (suc q)) other ≡ added (among (first_nodes q)) sender other) →
      Passed (node x k p q) (at x k p q).shown sender (node x k p (suc q))
  passed_on k p q sender over = record {
    its_schedule = refl;
    its_own = refl;
    clock = record { shows = refl; its_round = refl };
    its_over = over;
    its_results = refl;
  }

  -- So each call is done: where a node sends, where another one's slot is over,
  pub called_send : (k p : ℕ) → k ≤ x.rounds → Good x p → Made k p p
  called_send k p h g =
      let time = (at x k p p).shown in
      let is : own x p ≡ p = own_is x p g.0 in
      let few_nodes : n ≤ 16 = c.most in
      let within : p ≤ n = omega (arith, g.0) in
      let sends : next_time s k p p ≡ send_time_of t (slot_of t k p) = rw (lt-ltb p n g.0, eq-eqb p p refl) refl in
      let next : next_time s k p p ≡ time = sends ∙ sym (sends_then k p h g) in
      let there = placed k p p g within in
      let due : (due_of (node x k p p)).time ≡ next_time s k p p = due_then s run k p p there (omega (arith, next, (at x k p p).below)) in
      let room : frame_length_of (turn_in c k (own x p)) ≤ length (run.memory k p) =
      omega (arith, ap (λ o. frame_length_of (turn_in c k o)) is, zeros_long (frame_length_of (turn_in c k p))) in
      let free : among (first_nodes p) (own x p) ≡ false = ap (among (first_nodes p)) is ∙ among_first p p (omega (arith, g.0, few_nodes)) ∙ le-ltb p p (omega arith) in
      let none =
      sending_taken (node x k p p) time (run.first k p p) (run.second k p p) (timely k p p h g within (omega (arith, next))) (run.memory k p) room free in
      let over : (other : ℕ) → among (first_nodes (suc p)) other ≡ added (among (first_nodes p)) (own x p) other =
      λ other. one_more_first p other (omega (arith, g.0, few_nodes)) ∙ ap (λ o. added (among (first_nodes p)) o other) (sym is) in
      let own_values : values x k p p ≡ tells s x.good x.value x.lies k p =
      ap (λ b. cond b (tells s x.good x.value x.lies k p) (values_of (turn_in c k p) (got x k p p))) (eq-eqb p p refl) in
      let entered : Entered (turn_in c k (own x p)) (told_from (turn_in c k (own x p)) (reads x k p)) (writes x k p p) (writes x k p (suc p)) =
      subst (λ o. Entered (turn_in c k o) (told_from (turn_in c k o) (reads x k p)) (writes x k p p) (writes x k p (suc p))) (sym is)
      (subst (λ told. Entered (turn_in c k p) told (writes x k p p) (writes x k p (suc p))) own_values (enters x k p p g.0)) in
      let told_now : Sent (node x k p p) time (reads x k p) (writes x k p p) (run.memory k p) (node x k p (suc p)) (writes x k p (suc p)) (run.filled k p) = record {
        passed = passed_on k p p (own x p) over;
        its_heard = ap (λ b. cond b (heard x k p p) (slice_set (heard x k p p) p (deviation_of_taken (got x k p p)))) (eq-eqb p p refl);
        frame = ap (λ o. with_frame (turn_in c k o) (slice_index (told_from (turn_in c k o) (reads x k p))) (run.memory k p)) (sym is);
        fits =
            subst (λ o. FirstFit (slice_index (told_from (turn_in c k o) (reads x k p))) (value_count_of (turn_in c k o))) (sym is)
            (says_small s x.good x.value x.lies x.fits x.bytes k p);
        entered = entered;
      } in
      let sent_by : SentBy (node x k p p) time (run.first k p p) (run.second k p p) (run.memory k p) (node x k p (suc p)) (run.first k p (suc p)) (run.second k p (suc p)) (run.filled k p) =
      record {
        sent = rw (reads_in x k p p, writes_in x k p p, writes_in x k p (suc p)) told_now;
        reads_on = reads_in x k p (suc p) ∙ sym (reads_in x k p p);
      } in
      called_as k p p Send (ap (λ d. d.call) (due_to_send s run k p p there refl g.0)) (omega (arith, due, next))
      (is_done (unsent (node x k p p) time (run.first k p p) (run.second k p p) (run.memory k p)) _ _ none sent_by)

  -- (this one before some slot in which the node is still to send)
  pub called_slot : (k p q : ℕ) → k ≤ x.rounds → Good x p → q < n → q ≢ p → slot_end_of t (slot_of t k q) < clock_limit → Made k p q
  called_slot k p q h g l differs below =
      let time = (at x k p q).shown in
      let few_nodes : n ≤ 16 = c.most in
      let within : q ≤ n = omega (arith, l) in
      let shown : time ≡ slot_end_of t (slot_of t k q) = omega (arith, at_other x k p q differs l, below) in
      let hears : next_time s k p q ≡ slot_end_of t (slot_of t k q) = rw (lt-ltb q n l, ne_eqb q p differs) refl in
      let next : next_time s k p q ≡ time = hears ∙ sym shown in
      let there = placed k p q g within in
      let no_later : (due_of (node x k p q)).time ≤ time = omega (arith, due_by s run k p q there, next) in
      let no_earlier : time ≤ (due_of (node x k p (suc q))).time =
      due_from s run k p (suc q) (placed k p (suc q) g (omega (arith, l))) time (at x k p q).below (omega (arith, shown, next_behind s k p q l)) in
      let free : among (first_nodes q) q ≡ false = among_first q q (omega (arith, l, few_nodes)) ∙ le-ltb q q (omega arith) in
      let other : (q == own x p) ≡ false = ne_eqb q (own x p) (λ e. differs (e ∙ own_is x p g.0)) in
      let none =
      hearing_taken (node x k p q) time (run.first k p q) (run.second k p q) (timely k p q h g within (omega (arith, next))) q l other free in
      let values_are : values x k p q ≡ values_of (turn_in c k q) (got x k p q) =
      ap (λ b. cond b (tells s x.good x.value x.lies k p) (values_of (turn_in c k q) (got x k p q))) (ne_eqb q p differs) in
      let heard_now : HasHeard (node x k p q) time q (answered s r k p q) (writes x k p q) (node x k p (suc q)) (writes x k p (suc q)) = record {
        passed = passed_on k p q q (λ other. one_more_first q other (omega (arith, l, few_nodes)));
        its_heard = ap (λ b. cond b (heard x k p q) (slice_set (heard x k p q) q (deviation_of_taken (got x k p q)))) (ne_eqb q p differs);
        entered = subst (λ told. Entered (turn_in c k q) told (writes x k p q) (writes x k p (suc q))) values_are (enters x k p q l);
      } in
      let answers : listened s run k p q q ≡ answered s r k p q =
      ap (λ slot. heard_in s slot (r.opened k p q) (r.arrived k p q)) (slot_does_not_stop (slot_of t k q) s.length (omega (arith, s.behind, s.before)) below) in
      let heard_by : HeardBy (node x k p q) time q (listened s run k p q q) (run.first k p q) (run.second k p q) (node x k p (suc q)) (run.first k p (suc q)) (run.second k p (suc q)) =
      record {
        has_heard = rw (writes_in x k p q, writes_in x k p (suc q), answers) heard_now;
        reads_on = reads_in x k p (suc q) ∙ sym (reads_in x k p q);
      } in
      called_as k p q (SlotOver q) (ap (λ d. d.call) (due_to_hear s run k p q there differs l)) (no_later, no_earlier)
      (is_done (unheard (node x k p q) time q (run.first k p q) (run.second k p q)) _ _ none heard_by)

  -- and where the round is, which leads to the next one, with the clock that the bus has then.
  next_round_is : (k p : ℕ) → k < x.rounds → Good x p → suc k ≡ next_round_of k
  next_round_is k p h g =
      sym ((stands_so x).counted (suc k) p h g)
      ∙ (x.given.lawful.duties.setting k p h g).its_round
      ∙ ap next_round_of (x.given.lawful.duties.counts k p h g ∙ (stands_so x).counted k p (omega (arith, h)) g)

  pub called_end : (k p : ℕ) → k < x.rounds → Good x p → Made k p n
  called_end k p h g =
      let time = (at x k p n).shown in
      let is : own x p ≡ p = own_is x p g.0 in
      let here : k ≤ x.rounds = omega (arith, h) in
      let all : n ≤ n = omega arith in
      let at_it : time ≡ (r.ends k p).clock.shown = ap (λ m. m.shown) (at_end x k p g.0) in
      let next : next_time s k p n ≡ time = rw (le-ltb n n all) (omega (arith, at_it, x.given.lawful.duties.ending k p h g)) in
      let there = placed k p n g all in
      let due : (due_of (node x k p n)).time ≡ next_time s k p n = due_then s run k p n there (omega (arith, next, (at x k p n).below)) in
      let none = ending_taken (node x k p n) time (run.first k p n) (run.second k p n) (timely k p n here g all (omega (arith, next))) in
      let set : (r.starts (suc k) p).clock.shown ≡ settled c.faults time (readings n (own x p) time (heard x k p n)) =
      (x.given.lawful.duties.setting k p h g).its_shown
      ∙ ap (λ shown. settled c.faults shown (readings n p shown (r.heard k p))) (sym at_it)
      ∙ ap (settled c.faults time) (sym (reads_as_bus x k p time))
      ∙ ap (λ o. settled c.faults time (readings n o time (heard x k p n))) (sym is) in
      let completed : EnteredAll c k (value_missed (node x k p n) (reads x k p)) (missed (node x k p n)) (writes x k p n) (writes x k p n) =
      subst (λ senders. EnteredAll c k (value_missed (node x k p n) (reads x k p)) senders (writes x k p n) (writes x k p n))
      (sym (none_left (among (first_nodes n)) n there.passed 0 n (omega arith))) refl in
      let ended_now : Ended (node x k p n) time (x.value (suc k) p) (reads x k p) (writes x k p n) (node x (suc k) p 0) (reads x (suc k) p) = record {
        whole = writes x k p n;
        completed = completed;
        begins = ap (next_table s x.good x.value x.lies k p) (sym (written_so x k p h g));
        its_schedule = refl;
        its_own = refl;
        shows = set;
        its_round = next_round_is k p h g;
        its_over = none_first;
        its_heard = refl;
        its_results = refl;
      } in
      let ended_by : EndedBy (node x k p n) time (x.value (suc k) p) (run.first k p n) (run.second k p n) (node x (suc k) p 0) (run.first (suc k) p 0) (run.second (suc k) p 0) =
      record {
        ended = rw (reads_in x k p n, writes_in x k p n, next_writes x k p) ended_now;
        reads_on = next_reads x k p ∙ sym (reads_in x k p n);
      } in
      called_as k p n RoundOver (ap (λ d. d.call) (due_to_end s run k p n there all)) (omega (arith, due, next))
      (is_done (unended (node x k p n) time (run.first k p n) (run.second k p n)) _ _ none ended_by)
