-- That runs can be given as the main theorem asks for them. Assumes nothing.
use Rattle.std.proofs.Common.{◌≡◌, ℕ, suc, ◌+◌, ◌<◌, is_none, List, ◌∷◌, inl, inr, sym, refl, ap, subst, ◌∙◌, add-mul, arith}
use Rattle.std.proofs.lemmas.Bool.{cases_lt, cases_eq}
use Rattle.clock.specs.declared.limits.Cluster.{Cluster}
use Rattle.schedule.specs.Runs.{TakesTheGood}
use Rattle.schedule.specs.Runs as bus
use Rattle.schedule.specs.declared.limits.Schedule.{Schedule}
use Rattle.schedule.proofs.Running.{first_in_pause, run_can_be_given_lem as run_on_the_bus}
use Rattle.frame.specs.Layout.{frame_length_of}
use Rattle.relay.specs.Tables.{table_length_of}
use Rattle.relay.specs.Theorems.{turn_in}
use Rattle.node.specs.Runs.{Run, showing, moment, Called, Lawful, Started}
use Rattle.node.specs.Possible.{RunGiven, RunCanBeGiven}
use Rattle.node.proofs.Placing.{due_behind}
use Rattle.node.proofs.Firsts.{none_first}
use Rattle.node.proofs.Evolving.{said, said_taken, takes, zeros, zeros_long}
use Rattle.node.proofs.Building.{Chosen, bus_run, node_run, own_is, at_own}
use Rattle.node.proofs.Worlds.{arrival_is, world}
use Rattle.node.proofs.Entries.{stands_so}
use Rattle.node.proofs.Calling.{ends_below, called_send, called_slot, called_end}

module _ (x : Chosen) where
  abbrev s : Schedule
  s = x.s

  abbrev c : Cluster
  c = x.s.cluster

  abbrev n : ℕ
  n = x.s.cluster.nodes

  abbrev r : bus.Run (List ℕ)
  r = bus_run x

  abbrev run : Run
  run = node_run x

  -- The calls are all that are asked for, up to the last one with which the node sends.
  lawful : Lawful s x.good x.rounds run
  lawful = record {
    world = world x;
    called = λ k p calls h g le.
        elim (cases_lt calls n) [
          | inl l ↦
              elim (cases_eq calls p) [
                | inl e ↦ subst (λ i. Called s run k p i) (sym e) (called_send x k p (omega (arith, h)) g)
                | inr differs ↦ called_slot x k p calls (omega (arith, h)) g l differs (ends_below x k (suc k) p calls h g (omega (arith, add-mul k 1 n, l)))
              ]
          | inr past ↦ let e : calls ≡ n = omega (arith, past, le) in subst (λ i. Called s run k p i) (sym e) (called_end x k p h g)
        ];
    called_next = λ p calls g le.
        elim (cases_eq calls p) [
          | inl e ↦ subst (λ i. Called s run x.rounds p i) (sym e) (called_send x x.rounds p (omega arith) g)
          | inr differs ↦
              let l : calls < p = omega (arith, le, differs) in
              called_slot x x.rounds p calls (omega arith) g (omega (arith, l, g.0)) differs (ends_below x x.rounds x.rounds p calls (omega arith) g (omega (arith, l)))
        ];
    room = λ k p h g. omega (arith, zeros_long (frame_length_of (turn_in c k p)));
  }

  -- it starts with what was chosen
  started : Started s x.good run
  started = record {
    begins = λ p g. record {
      time = (r.starts 0 p).clock.shown;
      early = omega (arith, ap (λ m. m.clock.shown) (x.given.first_start p), first_in_pause x.choice p g, due_behind s 0 p 0);
      old = zeros (table_length_of c);
      made = record {
        made = record {
          its_schedule = refl;
          its_own = own_is x p g.0;
          shows = refl;
          its_round = refl;
          its_over = none_first;
          its_heard = refl;
          its_results = refl;
        };
        first = refl;
      };
      first_fits = zeros_long (table_length_of c);
      second_fits = zeros_long (table_length_of c);
    };
    near = λ p q gp gq. x.given.started.near p q gp gq;
    listens = λ p q gp gq d. x.given.started.listens p q gp gq d;
  }

  -- so it is a run as it was to be given
  is_given : RunGiven s x.good x.rounds x.made x.offs x.delays x.lengths x.value x.lies x.noise
  is_given = record {
    run = run;
    lawful = lawful;
    started = started;
    made_then = λ p g. ap (λ m. moment (showing m) 0) (x.given.first_start p);
    ran = λ k p h g. let own = at_own x k p p refl in rw own (x.given.ran x.few k p h g);
    delayed = λ k p q h gp gq d. x.given.delayed k p q ∙ ap (λ m. m.common + x.delays k p q) (sym (at_own x k q q refl));
    lasted = λ k p q h gp gq d. x.given.lasted k p q;
    gives = λ k p. refl;
    lied = x.given.lied;
    noisy = λ k p q h gp gq d.
        x.given.noisy k p q h gp gq ((stands_so x).listens k p q (omega (arith, h)) gp gq d) ((stands_so x).lasts k p q h gp gq d)
        ∙ ap (λ a. a ∷ x.noise k p q) (sym (arrival_is x k p q gq.0));
  }

-- There is such a run on the bus, since the good nodes' frames are taken; so there is one of the nodes.
pub can_be_given : RunCanBeGiven
can_be_given s good rounds made offs delays lengths value lies noise few choice fits bytes other_wires =
    let takes_good : TakesTheGood s good rounds (said s good value lies) (takes s) =
    λ k p q h gp gq d. ap is_none (said_taken s good value lies fits bytes k q) in
    is_given (record {
      s = s;
      good = good;
      rounds = rounds;
      made = made;
      offs = offs;
      delays = delays;
      lengths = lengths;
      value = value;
      lies = lies;
      noise = noise;
      few = few;
      choice = choice;
      fits = fits;
      bytes = bytes;
      given = run_on_the_bus s good rounds (λ p. moment (made p) 0) offs delays lengths (said s good value lies) lies noise (takes s) choice other_wires takes_good;
    })
