-- The run that was made as the schedule speaks of it: it is the one on the bus, with its world. Assumes nothing.
use Rattle.std.proofs.Common.{◌≡◌, ℕ, ◌<◌, ◌≤◌, true, List, [], ◌∷◌, ◌++◌, take, sym, refl, ap, subst, ◌∙◌}
use Rattle.std.specs.List.{AllByRecursion}
use Rattle.clock.specs.Rounds.{Moment}
use Rattle.schedule.specs.Runs.{World, OtherThan, arrival_of}
use Rattle.schedule.specs.Runs as bus
use Rattle.schedule.specs.declared.listening.Arrival.{Arrival}
use Rattle.frame.specs.Layout.{frame_length_of}
use Rattle.relay.specs.Theorems.{turn_in}
use Rattle.node.specs.Runs.{Showing, Run, sent, showing, moment, on_bus}
use Rattle.node.proofs.Building.{Chosen, bus_run, node_run, own_is, at, at_own, at_end}

module _ (x : Chosen) where
  abbrev n : ℕ
  n = x.s.cluster.nodes

  abbrev r : bus.Run (List ℕ)
  r = bus_run x

  abbrev run : Run
  run = node_run x

  abbrev on : bus.Run (List ℕ)
  on = on_bus x.s run

  -- what a good node sends is what it says on the bus, and arrives there
  said_is : (k q : ℕ) → q < n → sent run k q ≡ r.said k q
  said_is k q h = ap (λ o. take (frame_length_of (turn_in x.s.cluster k o)) (run.filled k q)) (own_is x q h) ∙ sym (x.given.says k q)

  pub arrival_is : (k p q : ℕ) → q < n → arrival_of on k p q ≡ arrival_of r k p q
  arrival_is k p q h =
      ap (λ m. let a : Arrival (List ℕ) = record { wire = q; began = (r.begins k p q).clock.shown; ended = (r.over k p q).clock.shown; message = m } in a) (said_is k q h)

  -- As the bus speaks of it, the run is the one that it was made of, but for the rounds that its moments count; and of those nothing is asked.
  is_of : (k p : ℕ) (a : Showing) (m : Moment) → a ≡ showing m → r.of_round k p m ≡ true → r.of_round k p (moment a k) ≡ true
  is_of k p a m same holds = x.given.by_showing k p (moment a k) m (ap (λ m. m.common) same) (ap (λ m. m.shown) same) ∙ holds

  others : (k p q : ℕ) (arrivals : List (Arrival (List ℕ))) → p < n → q < n → AllByRecursion (OtherThan r x.rounds k p q) arrivals →
      AllByRecursion (OtherThan on x.rounds k p q) arrivals
  others k p q [] hp hq all = tt
  others k p q (a ∷ arrivals) hp hq (first, rest) =
      let one : OtherThan on x.rounds k p q a =
      λ own_wire.
      let (j, h, differs, ends, is) = first own_wire in
      (j, h, differs, (ends.0, subst (λ m. (r.over j p q).common ≤ m.common) (sym (at_end x k p hp)) ends.1), is ∙ sym (arrival_is j p q hq)) in
      (one, others k p q arrivals hp hq rest)

  pub world : World x.s x.good x.rounds on
  world =
      let w = x.given.lawful.world in record {
        drifts = λ k p a b h g ia ib. w.drifts k p (moment (showing a) k) (moment (showing b) k) h g ia ib;
        begun = λ k p h g. is_of k p (showing (r.starts k p)) (r.starts k p) refl (w.begun k p h g);
        sent = λ k p h g. is_of k p (at x k p p) (r.sends k p) (at_own x k p p refl) (w.sent k p h g);
        ended = λ k p h g. is_of k p (at x k p n) (r.ends k p) (at_end x k p g.0) (w.ended k p h g);
        at_once = λ k p h g. w.at_once k p h g ∙ ap (λ m. m.common) (sym (at_end x k p g.0));
        carried = λ k p q h gp gq d. let own = at_own x k q q refl in rw own (w.carried k p q h gp gq d);
        falls_in = λ k j p q h u gp gq d low high.
            let before : (r.over j p q).common ≤ (r.ends k p).common = subst (λ m. (r.over j p q).common ≤ m.common) (at_end x k p gp.0) high in
            let (begun, over, forward) = w.falls_in k j p q h u gp gq d low before in
            (is_of k p (showing (r.begins j p q)) (r.begins j p q) refl begun, is_of k p (showing (r.over j p q)) (r.over j p q) refl over, forward);
        wires = λ k p q h gp gq d low high whole.
            let before : (r.over k p q).common ≤ (r.ends k p).common = subst (λ m. (r.over k p q).common ≤ m.common) (at_end x k p gp.0) high in
            let all = w.wires k p q h gp gq d low before whole in
            record {
              earlier = all.earlier;
              later = all.later;
              all = all.all ∙ ap (λ a. all.earlier ++ a ∷ all.later) (sym (arrival_is k p q gq.0));
              others_earlier = others k p q all.earlier gp.0 gq.0 all.others_earlier;
              others_later = others k p q all.later gp.0 gq.0 all.others_later;
              in_order = all.in_order;
              in_time = all.in_time;
            };
      }
