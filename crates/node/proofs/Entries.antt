-- What good nodes hear and enter in the run that was made: of each other what they tell. So their tables are those that they come to. Assumes nothing.
use Rattle.std.proofs.Common.{◌≡◌, ℕ, ◌<◌, false, cond, not, is_none, List, get_or, Some, None, ◌≢◌, inl, inr, sym, ap, ◌∙◌}
use Rattle.std.specs.Option.{option_map}
use Rattle.std.proofs.lemmas.Bool.{cases_Bool, cases_eq, eq-eqb, ne_eqb}
use Rattle.midpoint.specs.Refusals.{first_applying}
use Rattle.clock.specs.Deviation.{deviation_of}
use Rattle.clock.specs.Rounds.{GoodNode}
use Rattle.clock.specs.Setting.{readings}
use Rattle.clock.specs.declared.limits.Cluster.{Cluster}
use Rattle.schedule.specs.Config.{timing_of}
use Rattle.schedule.specs.Listening.{heard_in}
use Rattle.schedule.specs.Runs.{answered}
use Rattle.schedule.specs.Runs as bus
use Rattle.schedule.specs.Slots.{Timing, slot_of, send_time_of}
use Rattle.schedule.specs.declared.limits.Schedule.{Schedule}
use Rattle.schedule.specs.declared.listening.Received.{Received}
use Rattle.schedule.proofs.Standing.{stands}
use Rattle.frame.specs.Layout.{payload_of}
use Rattle.frame.specs.Reading.{untaken}
use Rattle.relay.specs.Telling as of_tables
use Rattle.relay.specs.Theorems.{turn_in}
use Rattle.node.specs.Hearing.{taken, values_of, deviation_of_taken}
use Rattle.node.specs.Runs.{Run}
use Rattle.node.proofs.Filling.{put_same}
use Rattle.node.proofs.Noting.{noted_at, readings_same}
use Rattle.node.proofs.Evolving.{lied, told, written, tells, said, said_taken, said_told, takes_as}
use Rattle.node.proofs.Building.{Chosen, bus_run, node_run, round_tables, got, heard, values, writes}

module _ (x : Chosen) where
  abbrev s : Schedule
  s = x.s

  abbrev c : Cluster
  c = x.s.cluster

  abbrev n : ℕ
  n = x.s.cluster.nodes

  abbrev t : Timing
  t = timing_of x.s

  abbrev r : bus.Run (List ℕ)
  r = bus_run x

  abbrev run : Run
  run = node_run x

  abbrev pub Good : ℕ → Type 0
  Good p = GoodNode c x.good p

  -- all that holds of the run on the bus
  pub stands_so : bus.Standing x.s x.good x.rounds r
  stands_so = stands x.s x.good x.rounds r x.few x.given.lawful x.given.started

  -- what a node has noted for its setting is what was heard on the bus, so its readings are those
  heard_as_bus : (k p q : ℕ) → q < n → q ≢ p → get_or (heard x k p n) q None ≡ get_or (r.heard k p) q None
  heard_as_bus k p q h differs =
      noted_at p (λ q. deviation_of_taken (got x k p q)) n q h c.most differs
      ∙ sym (x.given.hears k p q h ∙ ap (option_map (λ received. received.deviation)) (takes_as s k p q (answered s r k p q)))

  pub reads_as_bus : (k p time : ℕ) → readings n p time (heard x k p n) ≡ readings n p time (r.heard k p)
  reads_as_bus k p time = readings_same n p time (heard x k p n) (r.heard k p) (heard_as_bus k p)

  -- what a node hears of a good one is what that says, and so what it enters is what that tells
  answer_of_good : (k p q : ℕ) → q < n → (received : Received (List ℕ)) → answered s r k p q ≡ Some received → received.message ≡ said x.s x.good x.value x.lies k q →
      values_of (turn_in c k q) (got x k p q) ≡ tells x.s x.good x.value x.lies k q
  answer_of_good k p q known received is says =
      let takes_it : first_applying (untaken (turn_in c k q) received.message) ≡ None = rw says (said_taken x.s x.good x.value x.lies x.fits x.bytes k q) in
      let took : got x k p q ≡ Some received =
      ap (taken (turn_in c k q)) is ∙ ap (λ refusal. cond (is_none refusal) (Some received) None) takes_it in
      ap (values_of (turn_in c k q)) took ∙ ap (λ m. of_tables.heard_in (turn_in c k q) (payload_of m)) says ∙ said_told x.s x.good x.value x.lies x.fits x.bytes k q known

  entered_of_good : (k p q : ℕ) → k < x.rounds → Good p → Good q → q ≢ p → values_of (turn_in c k q) (got x k p q) ≡ tells x.s x.good x.value x.lies k q
  entered_of_good k p q h gp gq differs =
      let (is, _) = stands_so.heard k p q h gp gq (λ e. differs (sym e)) in
      answer_of_good k p q gq.0
      (record { deviation = deviation_of (send_time_of t (slot_of t k q)) (r.begins k p q).clock.shown; message = r.said k q }) is (x.given.says k q)

  -- of a faulty one it enters what comes of all that its listener is told of
  entered_of_faulty : (k p q : ℕ) → x.good q ≡ false → values_of (turn_in c k q) (got x k p q) ≡ lied x.s x.good x.value x.lies k p q
  entered_of_faulty k p q bad =
      let told_of : answered s r k p q ≡ heard_in s (slot_of t k q) 0 (x.lies k p q) =
      ap (λ time. heard_in s (slot_of t k q) time (r.arrived k p q)) (x.given.opens k p q) ∙ ap (heard_in s (slot_of t k q) 0) (x.given.lied k p q bad) in
      ap (λ heard. values_of (turn_in c k q) (taken (turn_in c k q) heard)) told_of

  entered_as_told : (k p q : ℕ) → k < x.rounds → Good p → q < n → values x k p q ≡ told x.s x.good x.value x.lies (round_tables x k).reads k p q
  entered_as_told k p q h g l =
      elim (cases_eq q p) [
        | inl e ↦ rw (eq-eqb q p e, e, g.1)
        | inr differs ↦
            rw (ne_eqb q p differs)
            (elim (cases_Bool (x.good q)) [
              | inl is ↦ rw is (entered_of_good k p q h g (l, is) differs)
              | inr not ↦ rw not (entered_of_faulty k p q not)
            ])
      ]

  -- so the tables are those that they come to
  pub written_so : (k p : ℕ) → k < x.rounds → Good p → writes x k p n ≡ written x.s x.good x.value x.lies (round_tables x k) k p
  written_so k p h g = put_same c k (values x k p) (told x.s x.good x.value x.lies (round_tables x k).reads k p) ((round_tables x k).writes p) n (λ q l. entered_as_told k p q h g l)
