-- Where a node is as a round ends: the call for that is not turned away, so it is in the next round then. Assumes nothing.
use Rattle.std.proofs.Common.{◌≡◌, ℕ, suc, ◌+◌, ◌*◌, ◌<◌, ◌≤◌, min, true, cond, ◌==◌, List, length, get_or, Some, None, Option, not, ◌⊎◌, is_none, refl, sym, ap, subst, ◌∙◌, inl, inr, arith, ℤ, [], filter, replicate, mul-le-mul_left}
use Rattle.std.specs.List.{range_with_len}
use Rattle.std.specs.Option.{option_map}
use Rattle.std.proofs.lemmas.Bool.{cases_Bool, cases_eq, eq-eqb, cases_lt, le-ltb}
use Rattle.std.proofs.lemmas.Bool.Decides.{nat_tests}
use Rattle.std.proofs.lemmas.List.{length-replicate, get_or-replicate, get_or_past}
use Rattle.midpoint.specs.Refusals.{first_applying}
use Rattle.midpoint.specs.Setting.{most_readings}
use Rattle.clock.specs.Deviation.{largest}
use Rattle.clock.specs.Setting.{settled, readings, next_round_of}
use Rattle.schedule.specs.Config.{timing_of}
use Rattle.schedule.specs.Runs.{answered}
use Rattle.schedule.specs.Slots.{Timing, slot_of, round_end_of}
use Rattle.schedule.specs.declared.limits.Schedule.{Schedule}
use Rattle.schedule.specs.declared.listening.Received.{Received}
use Rattle.schedule.proofs.Answered.{none_or_from_slot}
use Rattle.schedule.proofs.Passing.{settles_no_farther}
use Rattle.frame.specs.Layout.{place_in_cycle}
use Rattle.frame.specs.Reading.{untaken}
use Rattle.frame.specs.Writing.{written_over}
use Rattle.frame.specs.declared.turn.Turn.{Turn}
use Rattle.relay.specs.Nodes.{among}
use Rattle.relay.specs.Tables.{with_entry, table_length_of}
use Rattle.relay.specs.Theorems.{EnteredAll, turn_in}
use Rattle.agreement.specs.Results.{results_of}
use Rattle.node.specs.Nodes.{read_in, written_in}
use Rattle.node.specs.Due.{due_of}
use Rattle.node.specs.Calls.{unended}
use Rattle.node.specs.Hearing.{taken, deviation_of_taken}
use Rattle.node.specs.Ending.{Ends, missed, value_missed, is_last, EndedBy}
use Rattle.node.specs.Runs.{MadeAt, reads, Run, on_bus, Does, Called, writes}
use Rattle.node.specs.declared.due.Call.TheVariants.{RoundOver}
use Rattle.node.specs.declared.state.Node.{Node}
use Rattle.node.proofs.Open.{none_left}
use Rattle.node.proofs.Roles.{by_role, read_next, written_next}
use Rattle.node.proofs.Accepted.{Timely, done, ending_taken}
use Rattle.node.proofs.Filling.{long_with_value}
use Rattle.node.proofs.Placing.{next_of_first, due_to_end}
use Rattle.node.proofs.Stages.{Stage}

-- nothing stands in a list of nothing
pub none_there : (q : ℕ) → get_or {A = Option ℤ} (replicate 16 None) q None ≡ None
none_there q =
    elim (cases_lt q 16) [
      | inl h ↦ get_or-replicate 16 q None None h
      | inr h ↦ get_or_past (replicate 16 None) q None (omega (arith, h, length-replicate {A = Option ℤ} 16 None))
    ]

module _ (s : Schedule) (r : Run) where
  abbrev t : Timing
  t = timing_of s

  abbrev n : ℕ
  n = s.cluster.nodes

  abbrev slot : ℕ → ℕ → ℕ
  slot k p = slot_of t k p

  -- what is heard of a node in a round is what the listener answers, or nothing
  or_nothing : (turn : Turn) (received : Option (Received (List ℕ))) →
      (deviation_of_taken (taken turn received) ≡ None) ⊎ (deviation_of_taken (taken turn received) ≡ option_map (λ one. one.deviation) received)
  or_nothing turn None = inl refl
  or_nothing turn (Some received) =
      elim (cases_Bool (is_none (first_applying (untaken turn received.message)))) [
        | inl takes ↦ inr (rw takes refl)
        | inr turns ↦ inl (rw turns refl)
      ]

  module _ (k p : ℕ) (stage : Stage s r k p n) where
    pub either_heard : (q : ℕ) → q < n →
        (get_or (r.node k p n).heard q None ≡ None)
        ⊎ (get_or (r.node k p n).heard q None ≡ option_map (λ received. received.deviation) (answered s (on_bus s r) k p q))
    either_heard q h =
        elim (cases_eq q p) [
          | inl same ↦ inl (ap (λ x. get_or (r.node k p n).heard x None) same ∙ stage.own_unheard)
          | inr differs ↦ rw (stage.heard q h differs) (or_nothing (turn_in s.cluster k q) (answered s (on_bus s r) k p q))
        ]

    module _ (called : Called s r k p n) where
      abbrev last : Node
      last = r.node k p n

      abbrev time : ℕ
      time = (r.at k p n).shown

      ends_due : time ≡ min (round_end_of t k) largest
      ends_due =
          subst (λ due. MadeAt due.call due.time (due_of (r.node k p (suc n))).time time) (due_to_end s r k p n stage.place (omega arith)) called.on_time

      pub ends_at : time ≡ round_end_of t k
      ends_at = omega (arith, ends_due, (r.at k p n).below)

      -- the call that was made then, by its contract, and that no row turns away
      pub does_end :
          Ends last time (r.value (suc k) p) (r.first k p n) (r.second k p n) (r.node (suc k) p 0) (r.first (suc k) p 0) (r.second (suc k) p 0)
      does_end = subst (λ due. Does s r k p n time due.call) (due_to_end s r k p n stage.place (omega arith)) called.does

      did_end :
          EndedBy last time (r.value (suc k) p) (r.first k p n) (r.second k p n) (r.node (suc k) p 0) (r.first (suc k) p 0)
          (r.second (suc k) p 0)
      did_end =
          let needed : table_length_of s.cluster ≡ table_length_of last.schedule.cluster = sym (ap (λ x. table_length_of x.cluster) stage.place.config) in
          let (first_fits, second_fits) = by_role k (table_length_of s.cluster) (r.first k p n) (r.second k p n) stage.read_fits stage.write_fits in
          let in_time : Timely last time (r.first k p n) (r.second k p n) = record {
            below = (r.at k p n).below;
            later = let shows : last.clock.shown ≤ round_end_of t k = rw (le-ltb n n (omega arith)) at stage.shows in omega (arith, shows, ends_at);
            first_fits = first_fits ∙ needed;
            second_fits = second_fits ∙ needed;
          } in
          done (unended last time (r.first k p n) (r.second k p n)) _ _ (ending_taken last time (r.first k p n) (r.second k p n) in_time) does_end

      -- what the end of the round left
      pub sets_to : (r.node (suc k) p 0).clock.shown ≡ settled s.cluster.faults time (readings n p time last.heard)
      sets_to =
          did_end.ended.shows
          ∙ (λ i. settled (stage.place.config i).cluster.faults time (readings (stage.place.config i).cluster.nodes (stage.place.own i) time last.heard))

      pub counts_on : (r.node (suc k) p 0).clock.round ≡ next_round_of k
      counts_on = did_end.ended.its_round ∙ ap next_round_of stage.place.counts

      -- all slots were over, so nothing was entered for any
      same_whole : did_end.ended.whole ≡ writes r k p n
      same_whole =
          let ended = did_end.ended in
          let none : missed last ≡ [] =
          ap (λ m. filter (λ q. not (among last.over q)) (range_with_len 0 m)) (ap (λ x. x.cluster.nodes) stage.place.config)
          ∙ none_left (among last.over) n stage.place.passed 0 n (omega arith) in
          let written = written_in last.clock.round (r.first k p n) (r.second k p n) in
          let reads = read_in last.clock.round (r.first k p n) (r.second k p n) in
          let whole : ended.whole ≡ written =
          subst (λ senders. EnteredAll last.schedule.cluster last.clock.round (value_missed last reads) senders written ended.whole) none ended.completed in
          whole ∙ ap (λ j. written_in j (r.first k p n) (r.second k p n)) stage.place.counts

      last_of_cycle : is_last last ≡ (place_in_cycle s.cluster k == s.cluster.faults)
      last_of_cycle = λ i. place_in_cycle (stage.place.config i).cluster (stage.place.counts i) == (stage.place.config i).cluster.faults

      pub reads_next :
          reads r (suc k) p ≡ cond (place_in_cycle s.cluster k == s.cluster.faults) (with_entry s.cluster [] (r.value (suc k) p) (writes r k p n)) (writes r k p n)
      reads_next =
          read_next k (r.first (suc k) p 0) (r.second (suc k) p 0)
          ∙ ap (λ j. written_in j (r.first (suc k) p 0) (r.second (suc k) p 0)) (sym stage.place.counts)
          ∙ did_end.ended.begins
          ∙ (λ i. cond (last_of_cycle i) (with_entry (stage.place.config i).cluster [] (r.value (suc k) p) (same_whole i)) (same_whole i))

      pub results_next : place_in_cycle s.cluster k ≡ s.cluster.faults →
          (r.node (suc k) p 0).results ≡ Some (written_over (results_of s.cluster (writes r k p n)) (replicate most_readings 0))
      results_next is =
          let all : is_last last ≡ true = last_of_cycle ∙ eq-eqb (place_in_cycle s.cluster k) s.cluster.faults is in
          did_end.ended.its_results
          ∙ ap (λ b. cond b (Some (written_over (results_of last.schedule.cluster did_end.ended.whole) (replicate most_readings 0))) last.results) all
          ∙ (λ i. Some (written_over (results_of (stage.place.config i).cluster (same_whole i)) (replicate most_readings 0)))

      -- what was heard is of its slot, so no clock is set farther ahead than by the pause
      pub set_le : (r.node (suc k) p 0).clock.shown ≤ round_end_of t k + s.pause
      set_le =
          let far =
          settles_no_farther s k time p last.heard
          (λ q h. none_or_from_slot s (slot k q) (r.opened k p q) (r.arrived k p q) (get_or last.heard q None) (either_heard q h)) in
          omega (arith, far, sets_to, ends_at)

      -- so much is known as the next round begins
      pub next_round : Stage s r (suc k) p 0
      next_round =
          let ended = did_end.ended in
          let first = r.first (suc k) p 0 in
          let second = r.second (suc k) p 0 in
          let turn : (k + 1) * 1 ≤ (k + 1) * n = mul-le-mul_left (k + 1) (omega (arith, s.cluster.enough)) in
          let long : (k + 1) * n * 1 ≤ (k + 1) * n * s.length = mul-le-mul_left ((k + 1) * n) (omega (arith, s.behind, s.before)) in
          record {
            place = record {
              config = ended.its_schedule ∙ stage.place.config;
              own = ended.its_own ∙ stage.place.own;
              counts = counts_on ∙ omega (arith, turn, long, ends_at, (r.at k p n).below);
              passed = λ q. ended.its_over q ∙ grind (arith, nat_tests);
            };
            shows = let e : slot (suc k) 0 ≡ (k + 1) * n = omega arith in omega (arith, set_le, ap (λ m. m * s.length) e, next_of_first s (suc k) p);
            read_fits =
                ap length reads_next
                ∙ long_with_value s.cluster (place_in_cycle s.cluster k == s.cluster.faults) (r.value (suc k) p) (writes r k p n) stage.write_fits;
            write_fits =
                ap length (written_next k first second ∙ ap (λ j. read_in j first second) (sym stage.place.counts) ∙ did_end.reads_on
                ∙ ap (λ j. read_in j (r.first k p n) (r.second k p n)) stage.place.counts) ∙ stage.read_fits;
            sixteen = ap length ended.its_heard ∙ length-replicate {A = Option ℤ} 16 None;
            unheard = λ q l. ap (λ heard. get_or heard q None) ended.its_heard ∙ none_there q;
            own_unheard = ap (λ heard. get_or heard p None) ended.its_heard ∙ none_there p;
            heard = λ q l other. absurd (omega (arith, l));
          }

  -- and that call is due at its time
  pub end_due_is : (k p : ℕ) (stage : Stage s r k p n) → Called s r k p n → due_of (r.node k p n) ≡ record { call = RoundOver; time = round_end_of t k }
  end_due_is k p stage called =
      due_to_end s r k p n stage.place (omega arith)
      ∙ ap (λ time. record { call = RoundOver; time = time }) (sym (ends_due k p stage called) ∙ ends_at k p stage called)
