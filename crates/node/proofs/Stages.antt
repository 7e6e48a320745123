-- What is known of a node behind each call of a run: no call for a slot is turned away. Assumes nothing.
use Rattle.std.proofs.Common.{◌≡◌, ℕ, suc, ◌+◌, ◌*◌, ◌<◌, ◌≤◌, min, false, cond, nat_lt, ◌==◌, ◌&&◌, ◌||◌, List, length, get_or, None, Option, refl, sym, ap, subst, ◌∙◌, inl, inr, add-mul, arith}
use Rattle.std.proofs.lemmas.Bool.{cases_eq, eq-eqb, ne_eqb, lt-ltb}
use Rattle.std.proofs.lemmas.Bool.Decides.{nat_tests}
use Rattle.std.proofs.lemmas.List.{length-set, get_or-set_same, get_or-set_other}
use Rattle.midpoint.specs.Setting.{clock_limit}
use Rattle.clock.specs.Deviation.{largest}
use Rattle.schedule.specs.Config.{timing_of}
use Rattle.schedule.specs.Listening.{heard_in}
use Rattle.schedule.specs.Runs.{answered}
use Rattle.schedule.specs.Slots.{send_time_of, Timing, slot_of, slot_end_of}
use Rattle.schedule.specs.declared.limits.Schedule.{Schedule}
use Rattle.schedule.specs.declared.listening.Received.{Received}
use Rattle.frame.specs.Layout.{frame_length_of}
use Rattle.frame.specs.declared.turn.Turn.{Turn}
use Rattle.relay.specs.Nodes.{among}
use Rattle.relay.specs.Tables.{table_length_of}
use Rattle.relay.specs.Telling.{told_from, Entered}
use Rattle.relay.specs.Theorems.{turn_in}
use Rattle.node.specs.Nodes.{slot_in, turn_of, read_in, written_in}
use Rattle.node.specs.Due.{due_of}
use Rattle.node.specs.Calls.{unsent, unheard, Passed}
use Rattle.node.specs.Sending.{SentBy}
use Rattle.node.specs.Hearing.{taken, values_of, deviation_of_taken, HeardBy}
use Rattle.node.specs.Runs.{MadeAt, Comes, Run, on_bus, listened, Does, Called, writes}
use Rattle.node.specs.declared.due.Call.TheVariants.{Send, SlotOver}
use Rattle.node.specs.declared.due.Due.{Due}
use Rattle.node.specs.declared.state.Node.{Node}
use Rattle.node.proofs.Roles.{by_role}
use Rattle.node.proofs.Accepted.{Timely, done, sending_taken, hearing_taken, does_not_stop, slot_does_not_stop}
use Rattle.node.proofs.Placing.{sending_at, over_at, next_time, sends_before, next_behind, Place, turn_is, due_to_send, due_to_hear, due_by}

module _ (s : Schedule) (r : Run) where
  abbrev t : Timing
  t = timing_of s

  abbrev n : ℕ
  n = s.cluster.nodes

  abbrev slot : ℕ → ℕ → ℕ
  slot k p = slot_of t k p

  -- what is heard of a node, where its frame is taken in its turn
  abbrev pub heard_of : ℕ → ℕ → ℕ → Option (Received (List ℕ))
  heard_of k p q = taken (turn_in s.cluster k q) (answered s (on_bus s r) k p q)

  -- what is entered of a node: of itself what it tells from the table that it reads
  abbrev pub entered_of : ℕ → ℕ → ℕ → List ℕ
  entered_of k p q =
      cond (q == p) (told_from (turn_in s.cluster k p) (read_in k (r.first k p q) (r.second k p q))) (values_of (turn_in s.cluster k q) (heard_of k p q))

  -- What is known of a node in a round behind so many calls: where it is, and all else.
  pub record Stage (k p calls : ℕ) : Type 0 where
    pub place : Place s r k p calls
    pub shows : (r.node k p calls).clock.shown ≤ next_time s k p calls
    pub read_fits : length (read_in k (r.first k p calls) (r.second k p calls)) ≡ table_length_of s.cluster
    pub write_fits : length (writes r k p calls) ≡ table_length_of s.cluster
    pub sixteen : length (r.node k p calls).heard ≡ 16
    pub unheard : (q : ℕ) → calls ≤ q → get_or (r.node k p calls).heard q None ≡ None
    pub own_unheard : get_or (r.node k p calls).heard p None ≡ None
    pub heard : (q : ℕ) → q < calls → (q ≡ p → ⊥) → get_or (r.node k p calls).heard q None ≡ deviation_of_taken (heard_of k p q)

  module _ (k p calls : ℕ) (stage : Stage k p calls) where
    abbrev here : Node
    here = r.node k p calls

    abbrev place : Place s r k p calls
    place = stage.place

    -- What a call for a slot did.
    pub record Moved : Type 0 where
      pub passes : Passed here (r.at k p calls).shown calls (r.node k p (suc calls))
      pub entered : Entered (turn_in s.cluster k calls) (entered_of k p calls) (writes r k p calls) (writes r k p (suc calls))
      pub reads_on : read_in k (r.first k p (suc calls)) (r.second k p (suc calls)) ≡ read_in k (r.first k p calls) (r.second k p calls)
      pub sixteen : length (r.node k p (suc calls)).heard ≡ 16
      pub others : (q : ℕ) → (q ≡ calls → ⊥) → get_or (r.node k p (suc calls)).heard q None ≡ get_or here.heard q None
      pub this : get_or (r.node k p (suc calls)).heard calls None ≡ cond (calls == p) None (deviation_of_taken (heard_of k p calls))

    -- what was entered, and the table that is read, by the round that is counted right
    enters : (values : List ℕ) (turn : Turn) → turn ≡ turn_in s.cluster k calls → values ≡ entered_of k p calls →
        Entered turn values (written_in here.clock.round (r.first k p calls) (r.second k p calls))
        (written_in here.clock.round (r.first k p (suc calls)) (r.second k p (suc calls))) →
        Entered (turn_in s.cluster k calls) (entered_of k p calls) (writes r k p calls) (writes r k p (suc calls))
    enters values turn same_turn same_values entered =
        subst (λ j. Entered (turn_in s.cluster k calls) (entered_of k p calls) (written_in j (r.first k p calls) (r.second k p calls))
        (written_in j (r.first k p (suc calls)) (r.second k p (suc calls)))) place.counts
        (subst (λ told. Entered (turn_in s.cluster k calls) told (written_in here.clock.round (r.first k p calls) (r.second k p calls))
        (written_in here.clock.round (r.first k p (suc calls)) (r.second k p (suc calls)))) same_values
        (subst (λ u. Entered u values (written_in here.clock.round (r.first k p calls) (r.second k p calls))
        (written_in here.clock.round (r.first k p (suc calls)) (r.second k p (suc calls)))) same_turn entered))

    on_reading : read_in here.clock.round (r.first k p (suc calls)) (r.second k p (suc calls)) ≡ read_in here.clock.round (r.first k p calls) (r.second k p calls) →
        read_in k (r.first k p (suc calls)) (r.second k p (suc calls)) ≡ read_in k (r.first k p calls) (r.second k p calls)
    on_reading same =
        subst (λ j. read_in j (r.first k p (suc calls)) (r.second k p (suc calls)) ≡ read_in j (r.first k p calls) (r.second k p calls)) place.counts same

    -- no call is made later than the next one is due
    shown_before : calls < n → Called s r k p calls → Place s r k p (suc calls) → (r.at k p calls).shown ≤ next_time s k p (suc calls)
    shown_before h called next =
        let as_due = λ (due : Due). MadeAt due.call due.time (due_of (r.node k p (suc calls))).time (r.at k p calls).shown in
        elim (cases_eq calls p) [
          | inl same ↦
              let on_time : (r.at k p calls).shown ≡ sending_at s k p = subst as_due (due_to_send s r k p calls place same h) called.on_time in
              omega (arith, on_time, ap (λ q. slot_end_of t (slot k q)) same, sends_before s k p, next_behind s k p calls h)
          | inr differs ↦
              let on_time : (over_at s k calls ≤ (r.at k p calls).shown) × ((r.at k p calls).shown ≤ (due_of (r.node k p (suc calls))).time) =
              subst as_due (due_to_hear s r k p calls place differs h) called.on_time in
              omega (arith, on_time, due_by s r k p (suc calls) next)
        ]

    -- so much is known behind it
    next_place : calls < n → Moved → Place s r k p (suc calls)
    next_place h moved =
        let e = moved.passes in
        record {
          config = e.its_schedule ∙ place.config;
          own = e.its_own ∙ place.own;
          counts = e.clock.its_round ∙ place.counts;
          passed = λ q. e.its_over q ∙ ap (λ b. (nat_lt calls 16 && (calls == q)) || b) (place.passed q) ∙ grind (arith, nat_tests, h, s.cluster.most);
        }

    pub next_stage : calls < n → Called s r k p calls → Moved → Stage k p (suc calls)
    next_stage h called moved =
        record {
          place = next_place h moved;
          shows = omega (arith, moved.passes.clock.shows, shown_before h called (next_place h moved));
          read_fits = ap length moved.reads_on ∙ stage.read_fits;
          write_fits = moved.entered.same_length ∙ stage.write_fits;
          sixteen = moved.sixteen;
          unheard = λ q l. moved.others q (λ same. absurd (omega (arith, same, l))) ∙ stage.unheard q (omega (arith, l));
          own_unheard =
              elim (cases_eq calls p) [
                | inl same ↦ ap (λ q. get_or (r.node k p (suc calls)).heard q None) (sym same) ∙ moved.this ∙ rw (eq-eqb calls p same) refl
                | inr differs ↦ moved.others p (λ same. differs (sym same)) ∙ stage.own_unheard
              ];
          heard = λ q l other.
              elim (cases_eq q calls) [
                | inl same ↦
                    ap (λ x. get_or (r.node k p (suc calls)).heard x None) same ∙ moved.this
                    ∙ rw (ne_eqb calls p (λ e. other (same ∙ e))) (ap (λ x. deviation_of_taken (heard_of k p x)) (sym same))
                | inr differs ↦ moved.others q differs ∙ stage.heard q (grind (arith, l, differs)) other
              ];
        }

    -- a call at the time at which it is due, or later
    timely : (time : ℕ) → time < clock_limit → next_time s k p calls ≤ time → Timely here time (r.first k p calls) (r.second k p calls)
    timely time below late =
        let needed : table_length_of s.cluster ≡ table_length_of here.schedule.cluster = sym (ap (λ x. table_length_of x.cluster) place.config) in
        let (first_fits, second_fits) = by_role k (table_length_of s.cluster) (r.first k p calls) (r.second k p calls) stage.read_fits stage.write_fits in
        record {
          below = below;
          later = omega (arith, stage.shows, late);
          first_fits = first_fits ∙ needed;
          second_fits = second_fits ∙ needed;
        }

    -- what the clock shows as the call is made
    abbrev shown : ℕ
    shown = (r.at k p calls).shown

    abbrev MadeAsDue : Due → Type 0
    MadeAsDue due = MadeAt due.call due.time (due_of (r.node k p (suc calls))).time shown

    module _ (h : calls < n) (called : Called s r k p calls) where
      module _ (same : calls ≡ p) where
        send_due : shown ≡ sending_at s k p
        send_due = subst MadeAsDue (due_to_send s r k p calls place same h) called.on_time

        pub sends_at : shown ≡ send_time_of t (slot k p)
        sends_at =
            send_due
            ∙ does_not_stop (slot k p) s.length s.pause (omega (arith, s.behind, s.before)) (subst (λ time. time < clock_limit) send_due (r.at k p calls).below)

        pub did_send : frame_length_of (turn_in s.cluster k p) ≤ length (r.memory k p) →
            SentBy here shown (r.first k p calls) (r.second k p calls) (r.memory k p) (r.node k p (suc calls)) (r.first k p (suc calls))
            (r.second k p (suc calls)) (r.filled k p)
        did_send room =
            let does = subst (λ due. Does s r k p calls shown due.call) (due_to_send s r k p calls place same h) called.does in
            let own : turn_of here here.own ≡ turn_in s.cluster k p = λ i. turn_in (place.config i).cluster (place.counts i) (place.own i) in
            let long : frame_length_of (turn_of here here.own) ≤ length (r.memory k p) = rw own room in
            let free : among here.over here.own ≡ false = place.passed here.own ∙ grind (arith, nat_tests, place.own, same) in
            let late : next_time s k p calls ≤ shown = rw (lt-ltb calls n h, eq-eqb calls p same) (omega (arith, sends_at, ap (λ q. slot k q * s.length) same)) in
            done (unsent here shown (r.first k p calls) (r.second k p calls) (r.memory k p)) _ _
            (sending_taken here shown (r.first k p calls) (r.second k p calls) (timely shown (r.at k p calls).below late) (r.memory k p) long free) does

        moved_by_sending : frame_length_of (turn_in s.cluster k p) ≤ length (r.memory k p) → Moved
        moved_by_sending room =
            let by = did_send room in
            let own_turn : turn_of here here.own ≡ turn_in s.cluster k calls =
            (λ i. turn_in (place.config i).cluster (place.counts i) (place.own i)) ∙ ap (turn_in s.cluster k) (sym same) in
            let own : here.own ≡ calls = place.own ∙ sym same in
            let values : told_from (turn_in s.cluster k calls) (read_in k (r.first k p calls) (r.second k p calls)) ≡ entered_of k p calls =
            sym (rw (eq-eqb calls p same, same) refl) in
            record {
              passes = subst (λ who. Passed here shown who (r.node k p (suc calls))) own by.sent.passed;
              entered = enters (told_from (turn_of here here.own) (read_in here.clock.round (r.first k p calls) (r.second k p calls))) (turn_of here here.own) own_turn
                  ((λ i. told_from (own_turn i) (read_in (place.counts i) (r.first k p calls) (r.second k p calls))) ∙ values) by.sent.entered;
              reads_on = on_reading by.reads_on;
              sixteen = ap length by.sent.its_heard ∙ stage.sixteen;
              others = λ q differs. ap (λ heard. get_or heard q None) by.sent.its_heard;
              this = ap (λ heard. get_or heard calls None) by.sent.its_heard ∙ stage.unheard calls (omega arith) ∙ sym (rw (eq-eqb calls p same) refl);
            }

      module _ (differs : calls ≡ p → ⊥) where
        hear_due : (over_at s k calls ≤ shown) × (shown ≤ (due_of (r.node k p (suc calls))).time)
        hear_due = subst MadeAsDue (due_to_hear s r k p calls place differs h) called.on_time

        hears_from : over_at s k calls ≡ slot_end_of t (slot k calls)
        hears_from =
            let m = min (slot k calls) largest in
            let split : (m + 1) * s.length ≡ m * s.length + s.length = omega (arith, add-mul m 1 s.length) in
            let e : over_at s k calls ≡ min (m * s.length + s.length) largest = ap (λ x. min x largest) split in
            let below : over_at s k calls < clock_limit = omega (arith, hear_due, (r.at k p calls).below) in
            e
            ∙ does_not_stop (slot k calls) s.length s.length (omega (arith, s.behind, s.before)) (subst (λ time. time < clock_limit) e below)
            ∙ omega (arith, add-mul (slot k calls) 1 s.length)

        -- the slot is one whose number does not stop
        slot_is : slot_in here calls ≡ slot k calls
        slot_is =
            (λ i. min (slot_of (timing_of (place.config i)) (place.counts i) calls) largest)
            ∙ slot_does_not_stop (slot k calls) s.length (omega (arith, s.behind, s.before)) (omega (arith, hears_from, hear_due, (r.at k p calls).below))

        did_hear :
            HeardBy here shown calls (listened s r k p calls calls) (r.first k p calls) (r.second k p calls) (r.node k p (suc calls))
            (r.first k p (suc calls)) (r.second k p (suc calls))
        did_hear =
            let does = subst (λ due. Does s r k p calls shown due.call) (due_to_hear s r k p calls place differs h) called.does in
            let free : among here.over calls ≡ false = place.passed calls ∙ grind (arith, nat_tests) in
            let known : calls < here.schedule.cluster.nodes = rw place.config h in
            let other : (calls == here.own) ≡ false = ne_eqb calls here.own (λ same. differs (same ∙ place.own)) in
            let late : next_time s k p calls ≤ shown = rw (lt-ltb calls n h, ne_eqb calls p differs) (omega (arith, hears_from, hear_due)) in
            done (unheard here shown calls (r.first k p calls) (r.second k p calls)) _ _
            (hearing_taken here shown (r.first k p calls) (r.second k p calls) (timely shown (r.at k p calls).below late) calls known other free) does

        moved_by_hearing : Moved
        moved_by_hearing =
            let by = did_hear in
            let its = turn_is s r k p calls place calls in
            let answers : listened s r k p calls calls ≡ answered s (on_bus s r) k p calls =
            ap (λ m. heard_in s m (r.opened k p calls) (r.arrived k p calls)) slot_is in
            let took : taken (turn_of here calls) (listened s r k p calls calls) ≡ heard_of k p calls = (λ i. taken (its i) (answers i)) in
            let deviation = deviation_of_taken (taken (turn_of here calls) (listened s r k p calls calls)) in
            let kept = by.has_heard.its_heard in
            let long : calls < length here.heard = omega (arith, stage.sixteen, h, s.cluster.most) in
            record {
              passes = by.has_heard.passed;
              entered = enters (values_of (turn_of here calls) (taken (turn_of here calls) (listened s r k p calls calls))) (turn_of here calls) its
                  ((λ i. values_of (its i) (took i)) ∙ sym (rw (ne_eqb calls p differs) refl)) by.has_heard.entered;
              reads_on = on_reading by.reads_on;
              sixteen = ap length kept ∙ length-set here.heard calls deviation ∙ stage.sixteen;
              others = λ q other. ap (λ heard. get_or heard q None) kept ∙ get_or-set_other here.heard calls q deviation None other;
              this = ap (λ heard. get_or heard calls None) kept ∙ get_or-set_same here.heard calls deviation None long ∙ ap deviation_of_taken took
                  ∙ sym (rw (ne_eqb calls p differs) refl);
            }

      -- so the call of a slot is taken, whichever it is
      pub moves : frame_length_of (turn_in s.cluster k p) ≤ length (r.memory k p) → Moved
      moves room =
          elim (cases_eq calls p) [
            | inl same ↦ moved_by_sending same room
            | inr differs ↦ moved_by_hearing differs
          ]

  -- So what is due for a slot is due at its time.
  pub comes : (k p calls : ℕ) (stage : Stage k p calls) → Called s r k p calls → calls < n → Comes s r k p calls
  comes k p calls stage called h =
      record {
        due =
            elim (cases_eq calls p) [
              | inl same ↦
                  due_to_send s r k p calls stage.place same h
                  ∙ ap (λ time. record { call = Send; time = time }) (sym (send_due k p calls stage h called same) ∙ sends_at k p calls stage h called same)
                  ∙ sym (rw (eq-eqb calls p same, same) refl)
              | inr differs ↦
                  due_to_hear s r k p calls stage.place differs h
                  ∙ ap (λ time. record { call = SlotOver calls; time = time }) (hears_from k p calls stage h called differs)
                  ∙ sym (rw (ne_eqb calls p differs) refl)
            ];
        in_time = rw (lt-ltb calls n h) at stage.shows;
      }
