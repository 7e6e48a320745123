-- Runs of good nodes, made of a run on the bus and of the tables that they come to. Assumes nothing.
use Rattle.std.proofs.Common.{◌≡◌, ℕ, zero, suc, ◌-◌, ◌%◌, ◌^◌, ◌<◌, ◌≤◌, min, Bool, cond, ◌==◌, List, length, slice_index, replicate, ℤ, Some, None, Option, ◌≢◌, inl, inr, refl, ap, ◌∙◌, arith}
use Rattle.std.proofs.Math.Nat.{mod-eq_of_lt}
use Rattle.std.proofs.lemmas.Bool.{cases_eq, eq-eqb, ne_eqb}
use Rattle.std.proofs.lemmas.List.{length-map}
use Rattle.std.proofs.lemmas.Nat.{mod_below}
use Rattle.midpoint.specs.Setting.{most_readings, clock_limit}
use Rattle.clock.specs.Rounds.{FewBad}
use Rattle.clock.specs.declared.limits.Cluster.{Cluster}
use Rattle.schedule.specs.Config.{timing_of}
use Rattle.schedule.specs.Runs.{Choice, answered}
use Rattle.schedule.specs.Runs as bus
use Rattle.schedule.specs.Slots.{Timing, slot_of, slot_end_of}
use Rattle.schedule.specs.declared.limits.Schedule.{Schedule}
use Rattle.schedule.specs.declared.listening.Arrival.{Arrival}
use Rattle.schedule.specs.declared.listening.Received.{Received}
use Rattle.schedule.proofs.Running.{below_limit}
use Rattle.frame.specs.Layout.{place_in_cycle}
use Rattle.frame.specs.Writing.{with_frame, written_over}
use Rattle.relay.specs.Tables.{table_length_of, held_for}
use Rattle.relay.specs.Telling.{paths_of, Entered}
use Rattle.relay.specs.Theorems.{turn_in}
use Rattle.agreement.specs.Results.{results_of}
use Rattle.node.specs.Nodes.{read_in, written_in}
use Rattle.node.specs.Hearing.{taken, values_of, deviation_of_taken}
use Rattle.node.specs.Runs.{Showing, Run, showing, moment}
use Rattle.node.specs.Possible.{HoldBytes}
use Rattle.node.specs.declared.state.Node.{Node}
use Rattle.node.proofs.Roles.{by_role, first_of, second_of, reads_it, writes_it, read_before, written_before}
use Rattle.node.proofs.Filling.{put_of, put_long, put_enters}
use Rattle.node.proofs.Firsts.{first_nodes}
use Rattle.node.proofs.Noting.{noted}
use Rattle.node.proofs.Evolving.{Tables, tables, memory, tells, said, tables_long, values_many, takes}

-- All that a run is made of: what is chosen of it, and a run on the bus in which each good node says what its tables tell.
pub record Chosen : Type 0 where
  pub s : Schedule
  pub good : ℕ → Bool
  pub rounds : ℕ
  pub made : ℕ → Showing
  pub offs : ℕ → ℕ → ℤ
  pub delays : ℕ → ℕ → ℕ → ℕ
  pub lengths : ℕ → ℕ → ℕ → ℕ
  pub value : ℕ → ℕ → ℕ
  pub lies : ℕ → ℕ → ℕ → List (Arrival (List ℕ))
  pub noise : ℕ → ℕ → ℕ → List (Arrival (List ℕ))
  pub few : FewBad s.cluster good
  pub choice : Choice s good rounds (λ p. moment (made p) 0) offs delays lengths
  pub fits : (k p : ℕ) → value k p < 2 ^ 32
  pub bytes : HoldBytes lies
  pub given : bus.RunGiven s good rounds (λ p. moment (made p) 0) offs delays lengths (said s good value lies) lies noise (takes s)

module _ (x : Chosen) where
  abbrev s : Schedule
  s = x.s

  abbrev c : Cluster
  c = x.s.cluster

  abbrev n : ℕ
  n = x.s.cluster.nodes

  abbrev t : Timing
  t = timing_of x.s

  abbrev pub bus_run : bus.Run (List ℕ)
  bus_run = x.given.run

  abbrev r : bus.Run (List ℕ)
  r = bus_run

  abbrev pub round_tables : ℕ → Tables
  round_tables k = tables s x.good x.value x.lies k

  -- a node's number; what lies past the cluster makes no difference
  abbrev pub own : ℕ → ℕ
  own p = p % n

  pub own_known : (p : ℕ) → own p < n
  own_known p = mod_below p n (omega (arith, s.cluster.enough))

  pub own_is : (p : ℕ) → p < n → own p ≡ p
  own_is p h = mod-eq_of_lt h

  -- what its clock shows as it makes a call, and behind so many calls of a round
  abbrev pub at : ℕ → ℕ → ℕ → Showing
  at k p calls =
      cond (calls == p) (showing (r.sends k p))
      (cond (calls == n) (showing (r.ends k p))
      (record { common = 0; shown = min (slot_end_of t (slot_of t k calls)) (clock_limit - 1); below = below_limit (slot_end_of t (slot_of t k calls)) }))

  abbrev pub shows : ℕ → ℕ → ℕ → Showing
  shows k p zero = showing (r.starts k p)
  shows k p (suc calls) = at k p calls

  -- what it takes of another one's slot, what it has for its setting, and what it enters
  abbrev pub got : ℕ → ℕ → ℕ → Option (Received (List ℕ))
  got k p q = taken (turn_in c k q) (answered s r k p q)

  abbrev pub heard : ℕ → ℕ → ℕ → List (Option ℤ)
  heard k p calls = noted p (λ q. deviation_of_taken (got k p q)) calls

  abbrev pub values : ℕ → ℕ → ℕ → List ℕ
  values k p q = cond (q == p) (tells s x.good x.value x.lies k p) (values_of (turn_in c k q) (got k p q))

  abbrev pub reads : ℕ → ℕ → List ℕ
  reads k p = (round_tables k).reads p

  abbrev pub writes : ℕ → ℕ → ℕ → List ℕ
  writes k p calls = put_of c k (values k p) ((round_tables k).writes p) calls

  abbrev pub results : ℕ → ℕ → Option (List ℕ)
  results zero p = None
  results (suc k) p =
      cond (place_in_cycle c k == c.faults) (Some (written_over (results_of c (writes k p n)) (replicate most_readings 0))) (results k p)

  abbrev pub node : ℕ → ℕ → ℕ → Node
  node k p calls = record {
    schedule = s;
    own = own p;
    clock = record { shown = (shows k p calls).shown; round = k; below = (shows k p calls).below };
    over = first_nodes calls;
    heard = heard k p calls;
    results = results k p;
    known = own_known p;
  }

  abbrev pub node_run : Run
  node_run = record {
    node = node;
    first = λ k p calls. first_of k (reads k p) (writes k p calls);
    second = λ k p calls. second_of k (reads k p) (writes k p calls);
    at = at;
    memory = λ k p. memory s x.good x.value x.lies k p;
    filled = λ k p. with_frame (turn_in c k p) (slice_index (tells s x.good x.value x.lies k p)) (memory s x.good x.value x.lies k p);
    value = x.value;
    starts = λ k p. (r.starts k p).common;
    of_round = λ k p m. r.of_round k p (moment m k);
    begins = λ k p q. showing (r.begins k p q);
    over = λ k p q. showing (r.over k p q);
    opened = r.opened;
    arrived = r.arrived;
  }

  abbrev run : Run
  run = node_run

  -- the tables that are read and written
  pub reads_in : (k p calls : ℕ) → read_in k (run.first k p calls) (run.second k p calls) ≡ reads k p
  reads_in k p calls = reads_it k (reads k p) (writes k p calls)

  pub writes_in : (k p calls : ℕ) → written_in k (run.first k p calls) (run.second k p calls) ≡ writes k p calls
  writes_in k p calls = writes_it k (reads k p) (writes k p calls)

  pub next_reads : (k p : ℕ) → read_in k (run.first (suc k) p 0) (run.second (suc k) p 0) ≡ reads k p
  next_reads k p = read_before k (reads (suc k) p) (reads k p)

  pub next_writes : (k p : ℕ) → written_in k (run.first (suc k) p 0) (run.second (suc k) p 0) ≡ reads (suc k) p
  next_writes k p = written_before k (reads (suc k) p) (reads k p)

  -- as long as they should be
  each_many : (k p q : ℕ) → length (values k p q) ≡ length (paths_of (turn_in c k q))
  each_many k p q =
      elim (cases_eq q p) [
        | inl e ↦ rw (eq-eqb q p e, e) (length-map (paths_of (turn_in c k p)) (held_for c (reads k p)))
        | inr differs ↦ rw (ne_eqb q p differs) (values_many (turn_in c k q) (got k p q))
      ]

  writes_long : (k p calls : ℕ) → calls ≤ n → length (writes k p calls) ≡ table_length_of c
  writes_long k p calls h = put_long c k (values k p) ((round_tables k).writes p) calls h (each_many k p) ((tables_long s x.good x.value x.lies k).writes p)

  pub both_long : (k p calls : ℕ) → calls ≤ n → (length (run.first k p calls) ≡ table_length_of c) × (length (run.second k p calls) ≡ table_length_of c)
  both_long k p calls h =
      by_role k (table_length_of c) (run.first k p calls) (run.second k p calls) (ap length (reads_in k p calls) ∙ (tables_long s x.good x.value x.lies k).reads p)
      (ap length (writes_in k p calls) ∙ writes_long k p calls h)

  -- what it enters in a call
  pub enters : (k p q : ℕ) → q < n → Entered (turn_in c k q) (values k p q) (writes k p q) (writes k p (suc q))
  enters k p q h = put_enters c k (values k p) ((round_tables k).writes p) q h (each_many k p) ((tables_long s x.good x.value x.lies k).writes p)

  -- the moments at which a good node sends, and ends a round
  pub at_own : (k p q : ℕ) → q ≡ p → at k p q ≡ showing (r.sends k p)
  at_own k p q e = rw (eq-eqb q p e)

  pub at_end : (k p : ℕ) → p < n → at k p n ≡ showing (r.ends k p)
  at_end k p h = rw (ne_eqb n p (λ e. absurd (omega (arith, e, h))), eq-eqb n n refl)

  pub at_other : (k p q : ℕ) → q ≢ p → q < n → (at k p q).shown ≡ min (slot_end_of t (slot_of t k q)) (clock_limit - 1)
  at_other k p q differs h = rw (ne_eqb q p differs, ne_eqb q n (λ e. absurd (omega (arith, e, h))))
