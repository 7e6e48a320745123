-- The cycle of a cluster goes on through a round, and at its end the good nodes agree. Assumes nothing.
use Rattle.std.proofs.Common.{◌≡◌, ℕ, zero, suc, ◌+◌, ◌*◌, ◌-◌, ◌/◌, ◌%◌, ◌<◌, ◌≤◌, Bool, true, false, cond, not, ◌==◌, ◌&&◌, List, [], length, take, drop, Some, replicate, inl, inr, refl, sym, subst, ap, ◌∙◌, arith}
use Rattle.std.specs.Prelude.{slice_index}
use Rattle.std.specs.List.{range_with_len}
use Rattle.std.specs.Option.{option_map}
use Rattle.std.proofs.Math.Nat.{suc-mod, mod-eq_of_lt, mod-lt, mod_self, mod-le, mod-add-div'}
use Rattle.std.proofs.Math.Path.{transport}
use Rattle.std.proofs.Math.Numerals.{suc-eq-add-one}
use Rattle.std.proofs.lemmas.Nat.{mod-mul-add}
use Rattle.std.proofs.lemmas.Bool.{cases_Bool, cases_eq, cases_lt, eq-eqb, ne_eqb, eqb-true}
use Rattle.std.proofs.lemmas.List.{take_at}
use Rattle.std.proofs.lemmas.List.FromFn.{length-map-range_with_len}
use Rattle.midpoint.specs.Order.{count}
use Rattle.clock.specs.Rounds.{GoodNode, FewBad}
use Rattle.clock.specs.declared.limits.Cluster.{Cluster}
use Rattle.schedule.specs.declared.limits.Schedule.{Schedule}
use Rattle.frame.specs.Layout.{place_in_cycle}
use Rattle.relay.specs.Tables.{with_entry, held_for}
use Rattle.relay.specs.Telling.{told_from}
use Rattle.relay.specs.Theorems.{turn_in, EnteredAll}
use Rattle.agreement.specs.Results.{results_of, result_for}
use Rattle.agreement.specs.Cycles.{Begun, Entering, Cycle}
use Rattle.agreement.proofs.Cycles.{agreed_by_tables, in_order, stands_among}
use Rattle.node.specs.Nodes.{read_in, results_in}
use Rattle.script.specs.declared.round.Round.{Round}
use Rattle.cluster.specs.Playing.{player, is_last, has_ended_cycle}
use Rattle.cluster.specs.Standing.{is_good, good_in, Shows, InCycle, InStep, Agreed}
use Rattle.cluster.specs.declared.station.Station.{Station}
use Rattle.cluster.specs.declared.bus.Player.{Player}
use Rattle.cluster.specs.declared.bus.Player.TheVariants.{Bad, Good}
use Rattle.cluster.specs.declared.bus.Bus.{Bus}
use Rattle.cluster.proofs.Behind.{writes, entered, entered_of}
use Rattle.cluster.proofs.Over.{Over, AllOver}

-- the round behind the last one of a cycle is the first one of the next
place_behind_last : (c : Cluster) (k : ℕ) → place_in_cycle c k ≡ c.faults → place_in_cycle c (k + 1) ≡ 0
place_behind_last c k last =
    let m = c.faults + 1 in
    let whole : suc (k % m) ≡ m = omega (arith, last) in
    ap (λ n. n % m) (sym (suc-eq-add-one k)) ∙ suc-mod k m ∙ ap (λ n. n % m) whole ∙ mod_self m

-- behind another one comes the next place
place_behind : (c : Cluster) (k : ℕ) → (place_in_cycle c k ≡ c.faults → ⊥) → place_in_cycle c (k + 1) ≡ suc (place_in_cycle c k)
place_behind c k other =
    let m = c.faults + 1 in
    let fits : suc (k % m) < m = omega (arith, mod-lt k {m = m} (omega arith), other) in
    ap (λ n. n % m) (sym (suc-eq-add-one k)) ∙ suc-mod k m ∙ mod-eq_of_lt fits

-- the cycle of a round began as many rounds before it as its place says
first_of_cycle : (c : Cluster) (k : ℕ) → place_in_cycle c (k - place_in_cycle c k) ≡ 0
first_of_cycle c k =
    let m = c.faults + 1 in
    let whole : k - k % m ≡ k / m * m + 0 = omega (arith, mod-add-div' k m) in
    ap (λ n. n % m) whole ∙ mod-mul-add (k / m) m 0 (omega arith)

-- where fewer nodes are faulty than there are, one is good
one_is_good : (good : ℕ → Bool) (a m : ℕ) → count (λ q. not (good q)) (range_with_len a m) < m → (p : ℕ) × (p < a + m) × (good p ≡ true)
unfolding count
one_is_good good a zero few = absurd (omega (arith, few))
one_is_good good a (suc m) few =
    elim (cases_Bool (good a)) [
      | inl is ↦ (a, omega arith, is)
      | inr is_not ↦
          let fewer : count (λ q. not (good q)) (range_with_len (a + 1) m) < m = omega (arith, rw is_not at few) in
          let (p, within, is) = one_is_good good (a + 1) m fewer in
          (p, omega (arith, within), is)
    ]

-- the station of a good node
station_of : (node : Player) → is_good node ≡ true → (a : Station) × (node ≡ Good a)
station_of Bad is = absurd (cc)
station_of (Good a) is = (a, refl)

-- what a node gives, and the table that it reads in a round
abbrev value_of : Player → ℕ
value_of Bad = 0
value_of (Good a) = a.value

abbrev table_of : ℕ → Player → List ℕ
table_of round Bad = []
table_of round (Good a) = read_in round a.first.items a.second.items

-- a round that was entered, with what is the same put for what it speaks of
same_entering : (c d : Cluster) (good : ℕ → Bool) (m n : ℕ) (read other : ℕ → List ℕ) (written new : List ℕ) → c ≡ d → m ≡ n → read ≡ other → written ≡ new →
    Entering c good m read written → Entering d good n other new
same_entering c d good m n read other written new same_cluster same_round same_read same_written e =
    transport (λ i. Entering (same_cluster i) good (same_round i) (same_read i) (same_written i)) e

-- and with the same good nodes
for_others : (c : Cluster) (good other : ℕ → Bool) (n : ℕ) (read : ℕ → List ℕ) (written : List ℕ) → ((q : ℕ) → q < c.nodes → other q ≡ good q) →
    Entering c good n read written → Entering c other n read written
for_others c good other n read written same e =
    record {
      old = e.old;
      values = e.values;
      senders = e.senders;
      once = e.once;
      all = e.all;
      each = e.each;
      told = λ q of_q. e.told q (of_q.0, sym (same q of_q.0) ∙ of_q.1);
    }

module _ (b after : Bus) (r : Round) (over : AllOver b r after) where
  -- a good node is good behind the round, and a bad one bad
  kind : (p : ℕ) → p < b.schedule.cluster.nodes → (node : Player) → player b p ≡ node → good_in after p ≡ is_good node
  kind p within Bad is = ap is_good (over.bad p within is)
  kind p within (Good a) is = let (last, e, now, its) = over.good p a (within, is) in ap is_good now

  -- the table that a good node has written in the round
  abbrev IsWritten : ℕ → List ℕ → Type 0
  IsWritten p table =
      (a : Station) → Shows b p a → (last : Station) × (e : Station) × (player after p ≡ Good e) × Over b r p a last e × (table ≡ writes b r last)

  -- each node has one, a bad one any
  its_table : (p : ℕ) → p < b.schedule.cluster.nodes → (node : Player) → player b p ≡ node → (table : List ℕ) × IsWritten p table
  its_table p within Bad is = ([], λ a shows. absurd (cc (is, shows.1)))
  its_table p within (Good a) is =
      let (last, e, now, its) = over.good p a (within, is) in (
        writes b r last,
        λ other shows. (
            let same : a ≡ other = cc (is, shows.1) in
            (last, e, now, subst (λ x. Over b r p x last e) same its, refl)
            ),
      )

  -- and so has any number
  with_table : (p : ℕ) → (table : List ℕ) × IsWritten p table
  with_table p =
      elim (cases_lt p b.schedule.cluster.nodes) [
        | inl within ↦ its_table p within (player b p) refl
        | inr not_within ↦ ([], λ a shows. absurd (omega (arith, shows.0, not_within)))
      ]

  abbrev column : ℕ → List ℕ
  column p = (with_table p).0

-- the same nodes are good
pub same_good : (b after : Bus) (r : Round) → AllOver b r after → (p : ℕ) → p < b.schedule.cluster.nodes → good_in after p ≡ good_in b p
same_good b after r over p within = kind b after r over p within (player b p) refl

module _ (b after : Bus) (r : Round) (step : InStep b) (over : AllOver b r after) where
  abbrev c : Cluster
  c = b.schedule.cluster

  abbrev place : ℕ
  place = place_in_cycle c b.round

  abbrev written : ℕ → List ℕ
  written = column b after r over

  -- a good node behind the round, as it was before
  was : (p : ℕ) (e : Station) → Shows after p e →
      (a : Station) × (last : Station) × Shows b p a × Over b r p a last e × (written p ≡ writes b r last)
  was p e shows =
      let within : p < c.nodes = subst (λ (s : Schedule). p < s.cluster.nodes) over.schedule shows.0 in
      let (a, is) = station_of (player b p) (sym (same_good b after r over p within) ∙ ap is_good shows.1) in
      let (last, other, now, its, is_written) = (with_table b after r over p).1 a (within, is) in
      let same : other ≡ e = cc (now, shows.1) in
      (a, last, (within, is), subst (λ x. Over b r p a last x) same its, is_written)

  -- the round is one more of the cycle
  this_round : (p : ℕ) (a : Station) → Shows b p a → Entering c (good_in b) b.round (step.cycle.tables place) (written p)
  this_round p a shows =
      let (last, e, now, its, is_written) = (with_table b after r over p).1 a shows in
      record {
        old = writes b r a;
        values = entered b r p a.time;
        senders = range_with_len 0 c.nodes;
        once = in_order c.nodes 0 c.nodes (omega arith);
        all = λ node l. stands_among node 0 c.nodes (omega arith) (omega (arith, l));
        each = subst (EnteredAll c b.round (entered b r p a.time) (range_with_len 0 c.nodes) (writes b r a)) (sym is_written) its.behind.enters;
        told = λ q of_q. (
            let (other, is) = station_of (player b q) of_q.1 in
            ap (entered_of b r p a.time q) is ∙ ap (told_from (turn_in c b.round q)) (sym (step.cycle.now q other (of_q.0, is)))
            );
      }

  -- the tables of the cycle, and behind them those that were written
  abbrev tables : ℕ → ℕ → List ℕ
  tables k p = cond (k == suc place) (written p) (step.cycle.tables k p)

  -- up to this round they are as before
  as_before : (k : ℕ) → k ≤ place → tables k ≡ step.cycle.tables k
  as_before k h = ap (λ new p. cond new (written p) (step.cycle.tables k p)) (ne_eqb k (suc place) (λ same. omega (arith, same, h)))

  -- and the table that is new
  as_written : tables (suc place) ≡ written
  as_written = ap (λ new p. cond new (written p) (step.cycle.tables (suc place) p)) (eq-eqb (suc place) (suc place) refl)

  -- so each of its rounds, with this one, is entered
  so_far : (k p : ℕ) (a : Station) → k ≤ place → Shows b p a → Entering c (good_in b) (b.round - place + k) (tables k) (tables (suc k) p)
  so_far k p a h shows =
      elim (cases_eq k place) [
        | inl same ↦
            same_entering c c (good_in b) b.round (b.round - place + k) (step.cycle.tables place) (tables k) (written p) (tables (suc k) p) refl
            (omega (arith, same, mod-le b.round (c.faults + 1))) (ap step.cycle.tables (sym same) ∙ sym (as_before k h))
            (ap (λ t. t p) (sym as_written) ∙ ap (λ k. tables (suc k) p) (sym same)) (this_round p a shows)
        | inr differs ↦
            let before : k < place = omega (arith, h, differs) in
            same_entering c c (good_in b) (b.round - place + k) (b.round - place + k) (step.cycle.tables k) (tables k) (step.cycle.tables (suc k) p)
            (tables (suc k) p) refl refl (sym (as_before k h)) (ap (λ t. t p) (sym (as_before (suc k) (omega (arith, before)))))
            (step.cycle.rounds k p a before shows)
      ]

  -- and it has begun
  so_begun : (p : ℕ) (a : Station) → Shows b p a → Begun c a.value (tables 0 p)
  so_begun p a shows =
      let begun = step.cycle.begun p a shows in
      record { old = begun.old; fits = begun.fits; own = ap (λ t. t p) (as_before 0 (omega arith)) ∙ begun.own }

  -- the place of the round that is next
  place_there : place_in_cycle after.schedule.cluster after.round ≡ place_in_cycle c (b.round + 1)
  place_there = (λ i. place_in_cycle (over.schedule i).cluster (over.round i))

  -- if the round is not the last of its cycle, the cycle goes on with these tables
  further : (place ≡ c.faults → ⊥) → InCycle after
  further other =
      let there : place_in_cycle after.schedule.cluster after.round ≡ suc place = place_there ∙ place_behind c b.round other in
      let not_last : is_last b ≡ false = ne_eqb place c.faults other in
      record {
        tables = tables;
        begun = λ p e shows. (
            let (a, last, shown, its, is_written) = was p e shows in
            let value : a.value ≡ e.value = sym (its.value ∙ ap (λ l. cond l e.next a.value) not_last) in
            transport (λ i. Begun (sym over.schedule i).cluster (value i) (tables 0 p)) (so_begun p a shown)
            );
        rounds = λ k p e h shows. (
            let (a, last, shown, its, is_written) = was p e shows in
            let within : k ≤ place = omega (arith, there, h) in
            same_entering c after.schedule.cluster (good_in after) (b.round - place + k)
            (after.round - place_in_cycle after.schedule.cluster after.round + k) (tables k) (tables k) (tables (suc k) p) (tables (suc k) p)
            (λ i. (sym over.schedule i).cluster) (omega (arith, there, over.round, mod-le b.round (c.faults + 1))) refl refl
            (for_others c (good_in b) (good_in after) (b.round - place + k) (tables k) (tables (suc k) p) (same_good b after r over)
            (so_far k p a within shown))
            );
        now = λ p e shows. (
            let (a, last, shown, its, is_written) = was p e shows in
            ap (λ k. tables k p) there ∙ ap (λ t. t p) as_written ∙ is_written
            ∙ sym (its.reads_next ∙ ap (λ l. cond l (with_entry c [] e.value (writes b r last)) (writes b r last)) not_last)
            ∙ ap (λ n. read_in n e.first.items e.second.items) (sym over.round)
            );
      }

  -- if it is, the next one begins
  anew : place ≡ c.faults → InCycle after
  anew is =
      let there : place_in_cycle after.schedule.cluster after.round ≡ 0 = place_there ∙ place_behind_last c b.round is in
      let last_one : is_last b ≡ true = eq-eqb place c.faults is in
      record {
        tables = λ k p. table_of after.round (player after p);
        begun = λ p e shows. (
            let (a, last, shown, its, is_written) = was p e shows in
            let table : table_of (b.round + 1) (Good e) ≡ with_entry c [] e.value (writes b r last) =
            its.reads_next ∙ ap (λ l. cond l (with_entry c [] e.value (writes b r last)) (writes b r last)) last_one in
            let begun : Begun c e.value (table_of (b.round + 1) (Good e)) = record { old = writes b r last; fits = its.behind.write_fits; own = table } in
            transport (λ i. Begun (sym over.schedule i).cluster e.value (table_of (sym over.round i) (sym shows.1 i))) begun
            );
        rounds = λ k p e h shows. absurd (omega (arith, there, h));
        now = λ p e shows. ap (table_of after.round) shows.1;
      }

  -- the results that a good node has as the cycle is over are those by its table
  results_there : (p : ℕ) (e : Station) → Shows after p e → is_last b ≡ true → results_in e.node ≡ Some (results_of c (written p))
  results_there p e shows last_one =
      let (a, last, shown, its, is_written) = was p e shows in
      let results = results_of c (writes b r last) in
      let long = length-map-range_with_len (result_for c.nodes c.faults (held_for c (writes b r last))) 0 c.nodes in
      ap (λ (s : Schedule). option_map (take s.cluster.nodes) e.node.results) its.its_schedule
      ∙ ap (option_map (take c.nodes)) (its.results last_one)
      ∙ ap Some (take_at results (drop (length results) (replicate 16 0)) c.nodes long)
      ∙ ap (λ t. Some (results_of c t)) (sym is_written)

  -- then the cycle is whole
  whole : place ≡ c.faults → Cycle c (good_in b) (λ p. value_of (player b p)) (b.round - place) tables
  whole is =
      record {
        is_first = first_of_cycle c b.round;
        begun = λ p of_p. (
            let (a, shown) = station_of (player b p) of_p.1 in
            subst (λ v. Begun c v (tables 0 p)) (ap value_of (sym shown)) (so_begun p a (of_p.0, shown))
            );
        rounds = λ k p h of_p. (
            let (a, shown) = station_of (player b p) of_p.1 in
            so_far k p a (omega (arith, h, is)) (of_p.0, shown)
            );
      }

-- in both cases
pub cycle_goes_on : (b after : Bus) (r : Round) → InStep b → AllOver b r after → InCycle after
cycle_goes_on b after r step over =
    elim (cases_eq (place_in_cycle b.schedule.cluster b.round) b.schedule.cluster.faults) [
      | inl is ↦ anew b after r step over is
      | inr other ↦ further b after r step over other
    ]

-- at a cycle's end the good nodes agree
they_agree_last : (b after : Bus) (r : Round) → InStep b → FewBad b.schedule.cluster (good_in b) → AllOver b r after → is_last b ≡ true → Agreed b after
they_agree_last b after r step few over last_one =
    let c = b.schedule.cluster in
    let is : place_in_cycle c b.round ≡ c.faults = eqb-true (place_in_cycle c b.round) c.faults last_one in
    let (one, within, is_one) = one_is_good (good_in b) 0 c.nodes (omega (arith, few, c.tolerated)) in
    let of_one : GoodNode c (good_in b) one = (omega (arith, within), is_one) in
    let table = column b after r over in
    let all = tables b after r step over in
    let to_table : (p : ℕ) → all (suc c.faults) p ≡ table p = λ p. ap (λ k. all (suc k) p) (sym is) ∙ ap (λ t. t p) (as_written b after r step over) in
    let settled = agreed_by_tables c (good_in b) (λ p. value_of (player b p)) (b.round - place_in_cycle c b.round) all few (whole b after r step over is) in
    record {
      results = results_of c (table one);
      long = length-map-range_with_len (result_for c.nodes c.faults (held_for c (table one))) 0 c.nodes;
      same = λ p e shows. (
          let (a, last, shown, its, is_written) = was b after r step over p e shows in
          results_there b after r step over p e shows last_one
          ∙ ap (λ t. Some (results_of c t)) (sym (to_table p))
          ∙ ap Some (settled.same p one (shown.0, ap is_good shown.1) of_one)
          ∙ ap (λ t. Some (results_of c t)) (to_table one)
          );
      right = λ p a shows.
          ap (λ t. slice_index (results_of c t) p) (sym (to_table one)) ∙ settled.right one p of_one (shows.0, ap is_good shows.1) ∙ ap value_of shows.1;
    }

-- one of two that is not so
not_both : (x y : Bool) → y ≡ false → (x && y) ≡ true → ⊥
not_both true y is_no e = absurd (cc)
not_both false y is_no e = absurd (cc)

-- and the end of a cycle is seen behind its last round
pub they_agree : (b after : Bus) (r : Round) → InStep b → FewBad b.schedule.cluster (good_in b) → AllOver b r after → has_ended_cycle after ≡ true → Agreed b after
they_agree b after r step few over ended =
    let c = b.schedule.cluster in
    elim (cases_eq (place_in_cycle c b.round) c.faults) [
      | inl is ↦ they_agree_last b after r step few over (eq-eqb (place_in_cycle c b.round) c.faults is)
      | inr other ↦
          let there : place_in_cycle after.schedule.cluster after.round ≡ suc (place_in_cycle c b.round) =
          (λ i. place_in_cycle (over.schedule i).cluster (over.round i)) ∙ place_behind c b.round other in
          let ends : (not (b.round + 1 == 0) && (suc (place_in_cycle c b.round) == 0)) ≡ true =
          (λ i. not (sym over.round i == 0) && (sym there i == 0)) ∙ ended in
          absurd (not_both (not (b.round + 1 == 0)) (suc (place_in_cycle c b.round) == 0) (ne_eqb (suc (place_in_cycle c b.round)) 0 (λ e. absurd (omega (arith, e)))) ends)
    ]
