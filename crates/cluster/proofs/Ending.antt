-- The end of a round, behind all its slots: the call of no good node is turned away. Assumes nothing.
use Rattle.std.proofs.Common.{◌≡◌, ℕ, ◌<◌, not, Bool, true, false, cond, ◌==◌, List, [], length, filter, replicate, Some, None, Ok, Err, Result, refl, sym, ap, subst, ◌∙◌, arith}
use Rattle.std.specs.List.{range_with_len}
use Rattle.std.specs.Option.{unwrap_or}
use Rattle.std.proofs.Math.Numerals.{suc-eq-add-one}
use Rattle.midpoint.specs.Refusals.{Row, ByRows, first_applying}
use Rattle.midpoint.specs.Setting.{clock_limit}
use Rattle.clock.specs.Deviation.{largest}
use Rattle.clock.specs.Setting.{settled, readings}
use Rattle.clock.specs.declared.limits.Cluster.{Cluster}
use Rattle.frame.specs.Layout.{place_in_cycle}
use Rattle.frame.specs.Writing.{written_over}
use Rattle.relay.specs.Nodes.{among}
use Rattle.relay.specs.Tables.{table_length_of, with_entry}
use Rattle.relay.specs.Theorems.{EnteredAll}
use Rattle.agreement.specs.Results.{results_of}
use Rattle.node.specs.Nodes.{read_in, written_in}
use Rattle.node.specs.Calls.{unended}
use Rattle.node.specs.Ending as of_node
use Rattle.node.specs.Ending.{IsSet, missed, value_missed}
use Rattle.node.specs.declared.state.Node.{Node}
use Rattle.node.specs.declared.refusal.Refusal.{Refusal}
use Rattle.node.specs.declared.ending.Setting.{Setting}
use Rattle.node.specs.declared.ending.Setting.TheVariants.{SetTo, Kept}
use Rattle.node.proofs.Accepted.{Timely, done, ending_taken}
use Rattle.node.proofs.Filling.{long_with_value}
use Rattle.node.proofs.Open.{none_left}
use Rattle.node.proofs.Roles.{by_role, read_next}
use Rattle.script.specs.Rounds.{drift_of, next_of}
use Rattle.script.specs.declared.round.Round.{Round}
use Rattle.cluster.specs.Playing.{player, span_of, is_last, EndsAs, RoundOver}
use Rattle.cluster.specs.Standing.{InStep, KeepsLimits}
use Rattle.cluster.specs.Stations.{EndedBy, set_to, run_on}
use Rattle.cluster.specs.declared.station.Station.{Station}
use Rattle.cluster.specs.declared.bus.Player.{Player}
use Rattle.cluster.specs.declared.bus.Player.TheVariants.{Bad, Good}
use Rattle.cluster.specs.declared.bus.Bus.{Bus}
use Rattle.cluster.proofs.Behind.{writes, Behind, AllBehind}
use Rattle.cluster.proofs.Over.{Over, AllOver}

-- what a call that is not turned away answers is what the clock shows behind it
answers_it : (node : Node) (time : ℕ) (rows : List (Row Refusal)) (answer : Result Setting Refusal) → first_applying rows ≡ None →
    ByRows rows (λ e. e) (IsSet node time) answer →
    set_to time answer ≡ settled node.schedule.cluster.faults time (readings node.schedule.cluster.nodes node.own time node.heard)
answers_it node time rows (Ok (SetTo set)) none (_, (usable, is)) = rw usable is
answers_it node time rows (Ok (Kept refusal)) none (_, first) = rw first refl
answers_it node time rows (Err refusal) none first = cc

-- the value of the next cycle is entered only where one begins
enters_value : (last : Bool) (c : Cluster) (value next old : ℕ) (table : List ℕ) → value ≡ cond last next old →
    cond last (with_entry c [] next table) table ≡ cond last (with_entry c [] value table) table
enters_value true c value next old table same = ap (λ v. with_entry c [] v table) (sym same)
enters_value false c value next old table same = refl

module _ (b : Bus) (r : Round) (p : ℕ) (a last e : Station) (below : a.time < clock_limit) (counted : b.round < largest)
    (behind : Behind b r p a last b.schedule.cluster.nodes)
    (ended : EndedBy last (next_of r.given p) (is_last b) (span_of b.schedule) (drift_of r.given p) e) where
  abbrev n : ℕ
  n = b.schedule.cluster.nodes

  abbrev needed : ℕ
  needed = table_length_of b.schedule.cluster

  abbrev first : List ℕ
  first = last.first.items

  abbrev second : List ℕ
  second = last.second.items

  abbrev value : ℕ
  value = unwrap_or (next_of r.given p) last.next

  -- its tables fit and the time is one that a clock shows, so no row turns the call away
  both_fit : (length first ≡ needed) × (length second ≡ needed)
  both_fit = by_role b.round needed first second behind.read_fits behind.write_fits

  in_time : Timely last.node last.time first second
  in_time =
      let same : needed ≡ table_length_of last.node.schedule.cluster = sym (ap (λ x. table_length_of x.cluster) behind.its_schedule) in
      record {
        below = omega (arith, behind.same.time, below);
        later = omega (arith, behind.same.time, behind.shows);
        first_fits = both_fit.0 ∙ same;
        second_fits = both_fit.1 ∙ same;
      }

  taken : first_applying (unended last.node last.time first second) ≡ None
  taken = ending_taken last.node last.time first second in_time

  -- it then does what its contract says
  did_end : of_node.EndedBy last.node last.time value first second e.node e.first.items e.second.items
  did_end = done (unended last.node last.time first second) _ _ taken ended.ends

  -- all slots were over, so nothing was entered for any
  same_whole : did_end.ended.whole ≡ writes b r last
  same_whole =
      let none : missed last.node ≡ [] =
      ap (λ m. filter (λ q. not (among last.node.over q)) (range_with_len 0 m)) (ap (λ x. x.cluster.nodes) behind.its_schedule)
      ∙ none_left (among last.node.over) n behind.its_over 0 n (omega arith) in
      let written = written_in last.node.clock.round first second in
      let reads = read_in last.node.clock.round first second in
      let whole : did_end.ended.whole ≡ written =
      subst (λ senders. EnteredAll last.node.schedule.cluster last.node.clock.round (value_missed last.node reads) senders written did_end.ended.whole) none
      did_end.ended.completed in
      whole ∙ ap (λ j. written_in j first second) behind.counts

  -- the round is the last one of its cycle for the node as for the bus
  same_last : of_node.is_last last.node ≡ is_last b
  same_last = λ i. place_in_cycle (behind.its_schedule i).cluster (behind.counts i) == (behind.its_schedule i).cluster.faults

  -- the two tables that it leaves, by the round that is over
  writes_on :
      written_in b.round e.first.items e.second.items
      ≡ cond (is_last b) (with_entry b.schedule.cluster [] value (writes b r last)) (writes b r last)
  writes_on =
      ap (λ j. written_in j e.first.items e.second.items) (sym behind.counts)
      ∙ did_end.ended.begins
      ∙ (λ i. cond (same_last i) (with_entry (behind.its_schedule i).cluster [] value (same_whole i)) (same_whole i))

  -- and they fit again
  fit_after : (length e.first.items ≡ needed) × (length e.second.items ≡ needed)
  fit_after =
      by_role b.round needed e.first.items e.second.items
      (ap length
      (ap (λ j. read_in j e.first.items e.second.items) (sym behind.counts) ∙ did_end.reads_on ∙ ap (λ j. read_in j first second) behind.counts)
      ∙ behind.read_fits)
      (ap length writes_on ∙ long_with_value b.schedule.cluster (is_last b) value (writes b r last) behind.write_fits)

  -- its clock is set by what it has heard
  sets_to :
      settled last.node.schedule.cluster.faults last.time (readings last.node.schedule.cluster.nodes last.node.own last.time last.node.heard)
      ≡ settled b.schedule.cluster.faults a.time (readings n p a.time last.node.heard)
  sets_to = λ i.
      settled (behind.its_schedule i).cluster.faults (behind.same.time i)
      (readings (behind.its_schedule i).cluster.nodes (behind.its_own i) (behind.same.time i) last.node.heard)

  -- the value of the cycle that it is in then
  gives : e.value ≡ cond (is_last b) e.next a.value
  gives = ended.value ∙ (λ i. cond (is_last b) (sym ended.next i) (behind.same.value i))

  -- so much is known of a good node then
  is_over : Over b r p a last e
  is_over = record {
    behind = behind;
    its_schedule = did_end.ended.its_schedule ∙ behind.its_schedule;
    its_own = did_end.ended.its_own ∙ behind.its_own;
    counts = did_end.ended.its_round ∙ omega (arith, behind.counts, counted);
    its_over = did_end.ended.its_over;
    its_heard = did_end.ended.its_heard;
    shows = did_end.ended.shows ∙ sets_to;
    time =
        ended.time
        ∙ ap (run_on (span_of b.schedule) (drift_of r.given p))
        (answers_it last.node last.time (unended last.node last.time first second) ended.answer taken ended.answers ∙ sym did_end.ended.shows);
    ended = record {
      value = value;
      first = first;
      second = second;
      first_after = e.first.items;
      second_after = e.second.items;
      first_fits = both_fit.0;
      second_fits = both_fit.1;
      later = behind.shows;
      ends = rw behind.same.time at ended.ends;
    };
    value = gives;
    reads_next =
        ap (λ j. read_in j e.first.items e.second.items) (sym (suc-eq-add-one b.round))
        ∙ read_next b.round e.first.items e.second.items
        ∙ writes_on
        ∙ ap (λ v. cond (is_last b) (with_entry b.schedule.cluster [] v (writes b r last)) (writes b r last)) (sym ended.next)
        ∙ enters_value (is_last b) b.schedule.cluster e.value e.next a.value (writes b r last) gives;
    first_fits = fit_after.0;
    second_fits = fit_after.1;
    came = ended.came;
    results = λ is.
        did_end.ended.its_results
        ∙ ap (λ l. cond l (Some (written_over (results_of last.node.schedule.cluster did_end.ended.whole) (replicate 16 0))) last.node.results)
        (same_last ∙ is)
        ∙ (λ i. Some (written_over (results_of (behind.its_schedule i).cluster (same_whole i)) (replicate 16 0)));
  }

-- all nodes of the bus
pub all_over : (b between after : Bus) (r : Round) → InStep b → KeepsLimits b r → AllBehind b r b.schedule.cluster.nodes between →
    RoundOver between r after → AllOver b r after
all_over b between after r _ limits behind over =
    let ends = λ (p : ℕ) (few : p < b.schedule.cluster.nodes) (one : Player) (is : player between p ≡ one).
    let most = b.schedule.cluster.most in
    rw (behind.schedule, behind.round) at
    (subst (λ x. EndsAs (is_last between) (span_of between.schedule) r.given p x (player after p)) is (over.ends p (omega (arith, most, few)))) in
    record {
      schedule = over.schedule ∙ behind.schedule;
      round = over.round ∙ omega (arith, behind.round, limits.counts);
      common = over.common ∙ rw (behind.schedule, behind.common) (omega (arith, limits.counted));
      room = ap length over.memory ∙ behind.room;
      good = λ p a of_p.
          let (last, is, known) = behind.good p a of_p in
          let (e, shows, ended) = ends p of_p.0 (Good last) is in
          (last, e, shows, is_over b r p a last e (omega (arith, limits.below p a of_p)) limits.counts known ended);
      bad = λ p few is. ends p few Bad (behind.bad p few is);
    }
