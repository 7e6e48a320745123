-- The slots of a round, one after the other: no call is turned away, and what is known behind each. Assumes nothing.
use Rattle.std.proofs.Common.{◌≡◌, ℕ, ◌+◌, ◌<◌, ◌≤◌, true, false, nat_lt, ◌==◌, ◌&&◌, ◌||◌, List, [], ◌∷◌, ◌++◌, length, get_or, set, ℤ, Some, None, Option, MatchOption, take, slice_index, inl, inr, refl, sym, ap, subst, ◌∙◌, arith}
use Rattle.std.specs.List.{range_with_len}
use Rattle.std.proofs.lemmas.Bool.{cases_Bool, cases_eq, ne_eqb}
use Rattle.std.proofs.lemmas.Bool.Decides.{nat_tests}
use Rattle.std.proofs.lemmas.List.{length-set, length-replicate, get_or-set_same, get_or-set_other, map-id}
use Rattle.std.proofs.lemmas.List.FromFn.{map-range_with_len_more}
use Rattle.midpoint.specs.Setting.{clock_limit}
use Rattle.schedule.specs.declared.listening.Received.{Received}
use Rattle.midpoint.specs.Refusals.{first_applying}
use Rattle.frame.specs.Layout.{frame_length_of, payload_of, value_count_of}
use Rattle.frame.specs.Reading.{untaken}
use Rattle.frame.specs.Theorems.{Taken}
use Rattle.frame.specs.Writing.{with_frame, FirstFit}
use Rattle.frame.proofs.Frames.{round_trip, lengths}
use Rattle.frame.specs.declared.reading.Reception.TheVariants.{Whole, TurnedAway}
use Rattle.frame.specs.declared.turn.Turn.{Turn}
use Rattle.relay.specs.Nodes.{among}
use Rattle.relay.specs.Tables.{table_length_of}
use Rattle.relay.specs.Telling.{told_from, heard_in, Entered}
use Rattle.relay.specs.Theorems.{turn_in, EnteredAll}
use Rattle.relay.proofs.Relaying.{heard_as_told}
use Rattle.node.specs.Nodes.{turn_of, reads_first, read_in, written_in}
use Rattle.node.specs.Calls.{unsent, unheard, Passed}
use Rattle.node.specs.Hearing.{taken, values_of, deviation_of_taken}
use Rattle.node.specs.Events.{Becomes}
use Rattle.node.specs.declared.event.Event.{Event}
use Rattle.node.specs.declared.event.Event.TheVariants as event
use Rattle.node.specs.Hearing as of_node
use Rattle.node.specs.Sending as of_node_sending
use Rattle.node.proofs.Accepted.{Timely, done, sending_taken, hearing_taken}
use Rattle.node.proofs.Completing.{one_entered_more}
use Rattle.node.proofs.Roles.{by_role}
use Rattle.script.specs.Rounds.{jitter_of}
use Rattle.script.specs.declared.round.Round.{Round}
use Rattle.cluster.specs.Stations.{came_of, Same, SentBy, HeardBy}
use Rattle.cluster.specs.Playing.{player, of_frame, sent_of, slot_heard, SendsAs, HearsAs, SlotOver, Slots}
use Rattle.cluster.specs.Playing.Slots.{none_yet, one_more}
use Rattle.cluster.specs.Standing.{Shows, InStep, KeepsLimits, is_whole}
use Rattle.cluster.specs.declared.bus.Player.{Player}
use Rattle.cluster.specs.declared.bus.Player.TheVariants.{Bad, Good}
use Rattle.cluster.specs.declared.station.Came.TheVariants as came
use Rattle.cluster.specs.declared.station.Station.{Station}
use Rattle.cluster.specs.declared.bus.Sent.TheVariants as sent
use Rattle.cluster.specs.declared.bus.Bus.{Bus}
use Rattle.cluster.proofs.Behind.{reads, writes, entered_of, entered, heard_of, heard, WholeIf, Behind, AllBehind}

-- the numbers of a range with one number more
range_further : (n : ℕ) → range_with_len 0 (n + 1) ≡ range_with_len 0 n ++ n ∷ []
range_further n =
    let more = map-range_with_len_more (λ (x : ℕ). x) 0 n n (omega arith) in
    rw (map-id (range_with_len 0 (n + 1)), map-id (range_with_len 0 n)) at more

-- what good node p sends in the round is taken in its turn, and what is entered of it is what it tells from the table that it reads
pub record IsFrameOf (b : Bus) (r : Round) (p : ℕ) (a : Station) (frame : List ℕ) : Type 0 where
  pub taken : Taken (turn_in b.schedule.cluster b.round p) frame
  pub told : heard_in (turn_in b.schedule.cluster b.round p) (payload_of frame) ≡ told_from (turn_in b.schedule.cluster b.round p) (reads b r a)

-- a frame that is taken comes whole
comes_whole : (t : Turn) (received : Received (List ℕ)) (e : Event) → Taken t received.message → Becomes t (Some received) e → is_whole (came_of e) ≡ true
comes_whole t received event.Nothing takes becomes = absurd becomes
comes_whole t received (event.Frame (Whole deviation payload)) takes becomes = refl
comes_whole t received (event.Frame (TurnedAway refusal)) takes becomes = absurd (cc)

-- two tables that have a length have it by their roles
either_role : (round m : ℕ) (first second : List ℕ) → length first ≡ m → length second ≡ m →
    (length (read_in round first second) ≡ m) × (length (written_in round first second) ≡ m)
either_role round m first second one other =
    elim (cases_Bool (reads_first round)) [
      | inl even ↦ rw even (one, other)
      | inr odd ↦ rw odd (other, one)
    ]

module _ (b : Bus) (r : Round) where
  abbrev n : ℕ
  n = b.schedule.cluster.nodes

  -- the first slot is still to come
  pub none_behind : (step : InStep b) → AllBehind b r 0 b
  none_behind step = record {
    schedule = refl;
    round = refl;
    common = refl;
    room = refl;
    good = λ p a shows.
        let now = step.nodes p a shows in
        let (read_fits, write_fits) = either_role b.round (table_length_of b.schedule.cluster) a.first.items a.second.items now.first_fits now.second_fits in (
          a,
          shows.1,
          record {
            same = record { time = refl; value = refl; next = refl; refused = refl };
            its_schedule = now.its_schedule;
            its_own = now.its_own;
            counts = now.counts;
            its_results = refl;
            its_over = λ q. now.its_over q ∙ grind (arith, nat_tests);
            shows = now.later;
            reads_on = refl;
            read_fits = read_fits;
            write_fits = write_fits;
            enters = refl;
            sixteen = ap length now.its_heard ∙ length-replicate {A = Option ℤ} 16 None;
            has_heard = λ q h. absurd (omega arith);
            came_sixteen = now.sixteen;
            hears = λ q h. absurd (omega arith);
          },
        );
    bad = λ p h e. e;
  }

  module _ (p count : ℕ) (a last : Station) (behind : Behind b r p a last count) where
    -- a call at the time that the clock shows
    timely : a.time < clock_limit → Timely last.node last.time last.first.items last.second.items
    timely below =
        let needed : table_length_of b.schedule.cluster ≡ table_length_of last.node.schedule.cluster =
        sym (ap (λ x. table_length_of x.cluster) behind.its_schedule) in
        let (first_fits, second_fits) = by_role b.round (table_length_of b.schedule.cluster) last.first.items last.second.items behind.read_fits behind.write_fits in
        record {
          below = omega (arith, behind.same.time, below);
          later = omega (arith, behind.same.time, behind.shows);
          first_fits = first_fits ∙ needed;
          second_fits = second_fits ∙ needed;
        }

    -- the turn of a node in the round
    turn_is : (q : ℕ) → turn_of last.node q ≡ turn_in b.schedule.cluster b.round q
    turn_is q = λ i. turn_in (behind.its_schedule i).cluster (behind.counts i) q

    -- What a call for one slot more did, and so what is known behind it.
    record Moved (next : Station) : Type 0 where
      same : Same last next
      passed : Passed last.node last.time count next.node
      on : reads b r next ≡ reads b r last
      enters : Entered (turn_in b.schedule.cluster b.round count) (entered b r p a.time count) (writes b r last) (writes b r next)
      sixteen : length next.node.heard ≡ 16
      has_heard : (q : ℕ) → q < count + 1 → (q ≡ p → ⊥) → get_or next.node.heard q None ≡ heard b r p a.time q
      came_sixteen : length next.came ≡ 16
      hears : (q : ℕ) → q < count + 1 → (q ≡ p → ⊥) → WholeIf b r (player b q) (get_or next.came q came.Nothing)

    behind_more : (next : Station) → count < n → Moved next → Behind b r p a next (count + 1)
    behind_more next h moved = record {
      same = record {
        time = moved.same.time ∙ behind.same.time;
        value = moved.same.value ∙ behind.same.value;
        next = moved.same.next ∙ behind.same.next;
        refused = moved.same.refused ∙ behind.same.refused;
      };
      its_schedule = moved.passed.its_schedule ∙ behind.its_schedule;
      its_own = moved.passed.its_own ∙ behind.its_own;
      counts = moved.passed.clock.its_round ∙ behind.counts;
      its_results = moved.passed.its_results ∙ behind.its_results;
      its_over = λ q. moved.passed.its_over q ∙ ap (λ b. (nat_lt count 16 && (count == q)) || b) (behind.its_over q)
          ∙ grind (arith, nat_tests, h, b.schedule.cluster.most);
      shows = omega (arith, moved.passed.clock.shows, behind.same.time);
      reads_on = moved.on ∙ behind.reads_on;
      read_fits = ap length moved.on ∙ behind.read_fits;
      write_fits = moved.enters.same_length ∙ behind.write_fits;
      enters =
          subst (λ senders. EnteredAll b.schedule.cluster b.round (entered b r p a.time) senders (writes b r a) (writes b r next)) (sym (range_further count))
          (one_entered_more b.schedule.cluster b.round (entered b r p a.time) (range_with_len 0 count) (writes b r a) (writes b r last) (writes b r next) count
          behind.enters moved.enters);
      sixteen = moved.sixteen;
      has_heard = moved.has_heard;
      came_sixteen = moved.came_sixteen;
      hears = moved.hears;
    }

    module _ (heard_now : Option (Received (List ℕ))) (next : Station) (by : HeardBy last count heard_now next) (below : a.time < clock_limit) (h : count < n)
        (other : count ≡ p → ⊥) where
      did_hear :
          of_node.HeardBy last.node last.time count heard_now last.first.items last.second.items next.node next.first.items next.second.items
      did_hear =
          let free : among last.node.over count ≡ false = behind.its_over count ∙ grind (arith, nat_tests) in
          let known : count < last.node.schedule.cluster.nodes = rw behind.its_schedule h in
          let not_own : (count == last.node.own) ≡ false = ne_eqb count last.node.own (λ same. other (same ∙ behind.its_own)) in
          done (unheard last.node last.time count last.first.items last.second.items) _ _
          (hearing_taken last.node last.time last.first.items last.second.items (timely below) count known not_own free) by.hears

      -- what was noted is what came
      came_now : (e : Event) × Becomes (turn_in b.schedule.cluster b.round count) heard_now e × (by.noted ≡ came_of e)
      came_now =
          let free : among last.node.over count ≡ false = behind.its_over count ∙ grind (arith, nat_tests) in
          let known : count < last.node.schedule.cluster.nodes = rw behind.its_schedule h in
          let not_own : (count == last.node.own) ≡ false = ne_eqb count last.node.own (λ same. other (same ∙ behind.its_own)) in
          let none = hearing_taken last.node last.time last.first.items last.second.items (timely below) count known not_own free in
          subst (λ t. (e : Event) × Becomes t heard_now e × (by.noted ≡ came_of e)) (turn_is count)
          (subst (λ row. MatchOption row ((e : Event) × Becomes (turn_of last.node count) heard_now e × (by.noted ≡ came_of e)) (λ refusal. by.noted ≡ came.Nothing)) none
          by.notes)

      -- what was entered, by the round that is counted right
      entered_now : Entered (turn_in b.schedule.cluster b.round count)
          (values_of (turn_in b.schedule.cluster b.round count) (taken (turn_in b.schedule.cluster b.round count) heard_now)) (writes b r last) (writes b r next)
      entered_now =
          subst (λ j. Entered (turn_in b.schedule.cluster b.round count)
          (values_of (turn_in b.schedule.cluster b.round count) (taken (turn_in b.schedule.cluster b.round count) heard_now))
          (written_in j last.first.items last.second.items) (written_in j next.first.items next.second.items)) behind.counts
          (subst (λ t. Entered t (values_of t (taken t heard_now)) (written_in last.node.clock.round last.first.items last.second.items)
          (written_in last.node.clock.round next.first.items next.second.items)) (turn_is count) did_hear.has_heard.entered)

      pub hears_more :
          entered b r p a.time count ≡ values_of (turn_in b.schedule.cluster b.round count) (taken (turn_in b.schedule.cluster b.round count) heard_now) →
          heard b r p a.time count ≡ deviation_of_taken (taken (turn_in b.schedule.cluster b.round count) heard_now) →
          ((e : Event) → Becomes (turn_in b.schedule.cluster b.round count) heard_now e → WholeIf b r (player b count) (came_of e)) →
          Behind b r p a next (count + 1)
      hears_more same_values same_deviation whole =
          let passed = did_hear.has_heard.passed in
          let kept = did_hear.has_heard.its_heard in
          let deviation = deviation_of_taken (taken (turn_of last.node count) heard_now) in
          let long : count < length last.node.heard = omega (arith, behind.sixteen, h, b.schedule.cluster.most) in
          let noted : next.came ≡ set last.came count by.noted = by.came in
          let on : reads b r next ≡ reads b r last =
          subst (λ j. read_in j next.first.items next.second.items ≡ read_in j last.first.items last.second.items) behind.counts did_hear.reads_on in
          behind_more next h (record {
            same = by.same;
            passed = passed;
            on = on;
            enters =
                subst (λ values. Entered (turn_in b.schedule.cluster b.round count) values (writes b r last) (writes b r next)) (sym same_values) entered_now;
            sixteen = ap length kept ∙ length-set last.node.heard count deviation ∙ behind.sixteen;
            has_heard = λ q l differs.
                elim (cases_eq q count) [
                  | inl same ↦
                      ap (λ x. get_or next.node.heard x None) same ∙ ap (λ heard. get_or heard count None) kept
                      ∙ get_or-set_same last.node.heard count deviation None long
                      ∙ ap (λ t. deviation_of_taken (taken t heard_now)) (turn_is count)
                      ∙ sym same_deviation ∙ ap (heard b r p a.time) (sym same)
                  | inr another ↦
                      ap (λ heard. get_or heard q None) kept ∙ get_or-set_other last.node.heard count q deviation None another
                      ∙ behind.has_heard q (grind (arith, l, another)) differs
                ];
            came_sixteen = ap length noted ∙ length-set last.came count by.noted ∙ behind.came_sixteen;
            hears = λ q l differs.
                elim (cases_eq q count) [
                  | inl same ↦
                      let (e, becomes, is) = came_now in
                      let there : get_or next.came q came.Nothing ≡ came_of e =
                      ap (λ x. get_or next.came x came.Nothing) same ∙ ap (λ list. get_or list count came.Nothing) noted
                      ∙ get_or-set_same last.came count by.noted came.Nothing (omega (arith, behind.came_sixteen, h, b.schedule.cluster.most)) ∙ is in
                      subst (λ x. WholeIf b r (player b x) (get_or next.came q came.Nothing)) (sym same)
                      (subst (λ x. WholeIf b r (player b count) x) (sym there) (whole e becomes))
                  | inr another ↦
                      subst (λ x. WholeIf b r (player b q) x)
                      (sym (ap (λ list. get_or list q came.Nothing) noted ∙ get_or-set_other last.came count q by.noted came.Nothing another))
                      (behind.hears q (grind (arith, l, another)) differs)
                ];
          })

    -- its own slot: it sends what it tells from the table that it reads
    module _ (memory filled : List ℕ) (next : Station) (answer : Option ℕ) (by : SentBy last memory next filled answer) (below : a.time < clock_limit)
        (room : 10925 ≤ length memory) (own : count ≡ p) (known : p < n) (is : player b p ≡ Good a) where
      own_turn : turn_of last.node last.node.own ≡ turn_in b.schedule.cluster b.round p
      own_turn = turn_is last.node.own ∙ ap (turn_in b.schedule.cluster b.round) behind.its_own

      none_applies : first_applying (unsent last.node last.time last.first.items last.second.items memory) ≡ None
      none_applies =
          let free : among last.node.over last.node.own ≡ false = behind.its_over last.node.own ∙ grind (arith, nat_tests, behind.its_own, own) in
          let within = lengths (turn_of last.node last.node.own) in
          let long : frame_length_of (turn_of last.node last.node.own) ≤ length memory = omega (arith, within.most, within.constants, room) in
          sending_taken last.node last.time last.first.items last.second.items (timely below) memory long free

      did_send :
          of_node_sending.SentBy last.node last.time last.first.items last.second.items memory next.node next.first.items next.second.items filled
      did_send = done (unsent last.node last.time last.first.items last.second.items memory) _ _ none_applies by.sends

      pub answers : answer ≡ Some (frame_length_of (turn_in b.schedule.cluster b.round p))
      answers =
          subst (λ row. MatchOption row (answer ≡ Some (frame_length_of (turn_of last.node last.node.own))) (λ refusal. answer ≡ None)) none_applies by.length
          ∙ ap (λ t. Some (frame_length_of t)) own_turn

      abbrev told : List ℕ
      told = told_from (turn_in b.schedule.cluster b.round p) (reads b r a)

      table : read_in last.node.clock.round last.first.items last.second.items ≡ reads b r a
      table = ap (λ j. read_in j last.first.items last.second.items) behind.counts ∙ behind.reads_on

      -- the front of the memory is its frame
      pub its_frame : IsFrameOf b r p a (take (frame_length_of (turn_in b.schedule.cluster b.round p)) filled)
      its_frame =
          let t = turn_in b.schedule.cluster b.round p in
          let sent = did_send.sent in
          let read = read_in last.node.clock.round last.first.items last.second.items in
          let fits : FirstFit (slice_index told) (value_count_of t) =
          subst (λ x. FirstFit (slice_index (told_from t x)) (value_count_of t)) table
          (subst (λ u. FirstFit (slice_index (told_from u read)) (value_count_of u)) own_turn sent.fits) in
          let frame : filled ≡ with_frame t (slice_index told) memory = sent.frame ∙ (λ i. with_frame (own_turn i) (slice_index (told_from (own_turn i) (table i))) memory) in
          let trip = round_trip t (slice_index told) memory fits in
          record {
            taken = rw frame trip.taken;
            told = rw frame (heard_as_told t (reads b r a) (payload_of (take (frame_length_of t) (with_frame t (slice_index told) memory))) known trip.same_values);
          }

      pub sends_more : Behind b r p a next (count + 1)
      sends_more =
          let sent = did_send.sent in
          let passed : Passed last.node last.time count next.node = subst (λ who. Passed last.node last.time who next.node) (behind.its_own ∙ sym own) sent.passed in
          let on : reads b r next ≡ reads b r last =
          subst (λ j. read_in j next.first.items next.second.items ≡ read_in j last.first.items last.second.items) behind.counts did_send.reads_on in
          let there : player b count ≡ Good a = ap (player b) own ∙ is in
          let values : told ≡ entered b r p a.time count =
          ap (λ q. told_from (turn_in b.schedule.cluster b.round q) (reads b r a)) (sym own) ∙ ap (entered_of b r p a.time count) (sym there) in
          let enters : Entered (turn_in b.schedule.cluster b.round count) (entered b r p a.time count) (writes b r last) (writes b r next) =
          let first = told_from (turn_of last.node last.node.own) (read_in last.node.clock.round last.first.items last.second.items) in
          let turn : turn_of last.node last.node.own ≡ turn_in b.schedule.cluster b.round count = own_turn ∙ ap (turn_in b.schedule.cluster b.round) (sym own) in
          subst (λ told. Entered (turn_in b.schedule.cluster b.round count) told (writes b r last) (writes b r next))
          ((λ i. told_from (own_turn i) (table i)) ∙ values)
          (subst (λ j. Entered (turn_in b.schedule.cluster b.round count) first (written_in j last.first.items last.second.items)
          (written_in j next.first.items next.second.items)) behind.counts
          (subst (λ t. Entered t first (written_in last.node.clock.round last.first.items last.second.items)
          (written_in last.node.clock.round next.first.items next.second.items)) turn sent.entered)) in
          behind_more next (omega (arith, own, known)) (record {
            same = by.same;
            passed = passed;
            on = on;
            enters = enters;
            sixteen = ap length sent.its_heard ∙ behind.sixteen;
            has_heard = λ q l differs.
                ap (λ heard. get_or heard q None) sent.its_heard ∙ behind.has_heard q (grind (arith, l, own, differs)) differs;
            came_sixteen = ap length by.came ∙ behind.came_sixteen;
            hears = λ q l differs.
                subst (λ list. WholeIf b r (player b q) (get_or list q came.Nothing)) (sym by.came) (behind.hears q (grind (arith, l, own, differs)) differs);
          })

-- One slot more. What good nodes hear in it of the node whose slot it is, is what is known of that one.
module _ (b : Bus) (r : Round) (step : InStep b) (limits : KeepsLimits b r) (count : ℕ) (now after : Bus) (h : count < n b r) (so_far : AllBehind b r count now)
    (over : SlotOver now r count after) where
  abbrev turn : Turn
  turn = turn_in b.schedule.cluster b.round count

  abbrev between : Bus
  between = over.between

  below : (p : ℕ) (a : Station) → Shows b p a → a.time < clock_limit
  below p a shows = omega (arith, limits.below p a shows)

  common : between.common ≡ b.common
  common = over.common ∙ so_far.common

  -- another node, before it hears
  as_before : (p : ℕ) → (p ≡ count → ⊥) → player between p ≡ player now p
  as_before p differs =
      ap (λ players. get_or players p Bad) over.players ∙ get_or-set_other now.players count p (player between count) Bad differs

  others_bad : (p : ℕ) → p < n b r → (p ≡ count → ⊥) → player b p ≡ Bad → player after p ≡ Bad
  others_bad p l differs bad =
      subst (λ node. HearsAs count (slot_heard over.on_wires between.common between.memory.items r count p) node (player after p))
      (as_before p differs ∙ so_far.bad p l bad) (over.hears p (omega (arith, l, b.schedule.cluster.most)) differs)

  -- a good node, which heard this in the slot, and of which so much is known
  module _ (heard_by : ℕ → ℕ → Option (Received (List ℕ)))
      (as_heard : (p : ℕ) (own : ℕ) → slot_heard over.on_wires between.common between.memory.items r count p own ≡ heard_by p own)
      (same_values : (p own : ℕ) → entered b r p own count ≡ values_of turn (taken turn (heard_by p own)))
      (same_deviation : (p own : ℕ) → heard b r p own count ≡ deviation_of_taken (taken turn (heard_by p own)))
      (whole : (p own : ℕ) (e : Event) → Becomes turn (heard_by p own) e → WholeIf b r (player b count) (came_of e)) where
    others_good : (p : ℕ) (a : Station) → Shows b p a → (p ≡ count → ⊥) → (next : Station) × (player after p ≡ Good next) × Behind b r p a next (count + 1)
    others_good p a shows differs =
        let (last, is, behind) = so_far.good p a shows in
        let (next, there, by) : (next : Station) × (player after p ≡ Good next)
        × HeardBy last count (slot_heard over.on_wires between.common between.memory.items r count p last.time) next =
        subst (λ node. HearsAs count (slot_heard over.on_wires between.common between.memory.items r count p) node (player after p))
        (as_before p differs ∙ is) (over.hears p (omega (arith, shows.0, b.schedule.cluster.most)) differs) in
        let heard_now = heard_by p a.time in
        let by_that : HeardBy last count heard_now next = subst (λ heard. HeardBy last count heard next) (as_heard p last.time ∙ ap (heard_by p) behind.same.time) by in (
          next,
          there,
          hears_more b r p count a last behind heard_now next by_that (below p a shows) h (λ same. differs (sym same)) (same_values p a.time) (same_deviation p a.time)
              (whole p a.time),
        )

    -- and all of them, where the node whose slot it is stands as is known too
    all_more : ((a : Station) → player b count ≡ Good a → (next : Station) × (player after count ≡ Good next) × Behind b r count a next (count + 1)) →
        (player b count ≡ Bad → player after count ≡ Bad) → AllBehind b r (count + 1) after
    all_more own_good own_bad = record {
      schedule = over.same.schedule ∙ over.schedule ∙ so_far.schedule;
      round = over.same.round ∙ over.round ∙ so_far.round;
      common = over.same.common ∙ common;
      room = ap length over.same.memory ∙ over.room ∙ so_far.room;
      good = λ p a shows.
          elim (cases_eq p count) [
            | inl same ↦
                let (next, there, behind) = own_good a (ap (player b) (sym same) ∙ shows.1) in
                (next, ap (player after) same ∙ there, subst (λ q. Behind b r q a next (count + 1)) (sym same) behind)
            | inr differs ↦ others_good p a shows differs
          ];
      bad = λ p l bad.
          elim (cases_eq p count) [
            | inl same ↦ ap (player after) same ∙ own_bad (ap (player b) (sym same) ∙ bad)
            | inr differs ↦ others_bad p l differs bad
          ];
    }

  -- of a bad node they hear what the script says
  module _ (bad : player b count ≡ Bad) where
    sends_nothing : SendsAs Bad now.memory.items (player between count) between.memory.items over.on_wires
    sends_nothing =
        subst (λ node. SendsAs node now.memory.items (player between count) between.memory.items over.on_wires) (so_far.bad count h bad) over.sends

    by_script : ℕ → ℕ → Option (Received (List ℕ))
    by_script p own = slot_heard sent.ByScript b.common [] r count p own

    slot_of_bad : AllBehind b r (count + 1) after
    unfolding by_script
    slot_of_bad =
        let (stays, _, wires) = sends_nothing in
        all_more by_script
        (λ p own i. slot_heard (wires i) (common i) between.memory.items r count p own)
        (λ p own. ap (entered_of b r p own count) bad)
        (λ p own. ap (heard_of b r p own count) bad)
        (λ p own e becomes. rw bad tt)
        (λ a good. absurd (cc))
        (λ _. over.own ∙ stays)

  -- of a good one its frame
  module _ (a : Station) (good : player b count ≡ Good a) where
    record Own : Type 0 where
      last : Station
      next : Station
      answer : Option ℕ
      behind : Behind b r count a last count
      there : player between count ≡ Good next
      by : SentBy last now.memory.items next between.memory.items answer
      wires : over.on_wires ≡ sent_of last.time answer

    own : Own
    own =
        let (last, is, behind) = so_far.good count a (h, good) in
        let (next, there, answer, by, wires) : SendsAs (Good last) now.memory.items (player between count) between.memory.items over.on_wires =
        subst (λ node. SendsAs node now.memory.items (player between count) between.memory.items over.on_wires) is over.sends in
        record { last = last; next = next; answer = answer; behind = behind; there = there; by = by; wires = wires }

    room : 10925 ≤ length now.memory.items
    room = omega (arith, step.room, so_far.room)

    abbrev frame : List ℕ
    frame = take (frame_length_of turn) between.memory.items

    is_frame : IsFrameOf b r count a frame
    is_frame =
        its_frame b r count count a own.last own.behind now.memory.items between.memory.items own.next own.answer own.by (below count a (h, good)) room refl h good

    on_wires : over.on_wires ≡ sent.Frame a.time (frame_length_of turn)
    on_wires =
        let is : own.answer ≡ Some (frame_length_of turn) =
        answers b r count count a own.last own.behind now.memory.items between.memory.items own.next own.answer own.by (below count a (h, good)) room refl h good in
        own.wires ∙ (λ i. sent_of (own.behind.same.time i) (is i))

    by_frame : ℕ → ℕ → Option (Received (List ℕ))
    by_frame p its_time = Some (of_frame a.time (jitter_of r.given p count) its_time frame)

    takes_frame : (p its_time : ℕ) → taken turn (by_frame p its_time) ≡ by_frame p its_time
    unfolding by_frame
    takes_frame p its_time =
        let none : first_applying (untaken turn frame) ≡ None = is_frame.taken in
        rw none refl

    slot_of_good : AllBehind b r (count + 1) after
    unfolding by_frame
    slot_of_good =
        all_more by_frame
        (λ p its_time i. slot_heard (on_wires i) between.common between.memory.items r count p its_time)
        (λ p its_time. ap (entered_of b r p its_time count) good ∙ sym is_frame.told ∙ ap (values_of turn) (sym (takes_frame p its_time)))
        (λ p its_time. ap (heard_of b r p its_time count) good ∙ ap deviation_of_taken (sym (takes_frame p its_time)))
        (λ p its_time e becomes. rw good (comes_whole turn (of_frame a.time (jitter_of r.given p count) its_time frame) e is_frame.taken becomes))
        (λ other is.
        let same : a ≡ other = cc in (
          own.next,
          over.own ∙ own.there,
          subst (λ x. Behind b r count x own.next (count + 1)) same
              (sends_more b r count count a own.last own.behind now.memory.items between.memory.items own.next own.answer own.by (below count a (h, good)) room refl h
              good),
        ))
        (λ bad. absurd (cc))

-- behind the slots of so many nodes
behind_slot : (b : Bus) (r : Round) (step : InStep b) (limits : KeepsLimits b r) (count : ℕ) (now after : Bus) → count < n b r → AllBehind b r count now →
    SlotOver now r count after → (node : Player) → player b count ≡ node → AllBehind b r (count + 1) after
behind_slot b r step limits count now after h so_far over Bad is = slot_of_bad b r step limits count now after h so_far over is
behind_slot b r step limits count now after h so_far over (Good a) is = slot_of_good b r step limits count now after h so_far over a is

pub slots_behind : (b : Bus) (r : Round) → InStep b → KeepsLimits b r → (count : ℕ) (now : Bus) → count ≤ n b r → Slots b r count now → AllBehind b r count now
slots_behind b r step limits _ _ le none_yet = none_behind b r step
slots_behind b r step limits _ _ le (one_more count between after slots over) =
    behind_slot b r step limits count between after (omega (arith, le)) (slots_behind b r step limits count between (omega (arith, le)) slots) over
    (player b count) refl
