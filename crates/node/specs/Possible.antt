-- That there are runs as the main theorem asks for, whatever the faulty nodes send. Assumes nothing: these are definitions.
use Rattle.std.specs.Prelude.{◌≡◌, ℕ, ◌+◌, ◌^◌, ◌<◌, ◌≤◌, Bool, false, List, ◌∷◌, ℤ, ◌+ℤ◌, ◌≢◌}
use Rattle.std.specs.List.{AllByRecursion}
use Rattle.clock.specs.Rounds.{lead, GoodNode, FewBad}
use Rattle.schedule.specs.Runs.{Choice, OnOtherWires, arrival_of}
use Rattle.schedule.specs.declared.limits.Schedule.{Schedule}
use Rattle.schedule.specs.declared.listening.Arrival.{Arrival}
use Rattle.frame.specs.Numbers.{Bytes}
use Rattle.node.specs.Runs.{Showing, Run, moment, on_bus, Lawful, Started}

-- what arrives holds bytes
abbrev pub HoldBytes : (ℕ → ℕ → ℕ → List (Arrival (List ℕ))) → Type 0
HoldBytes lies = (k p q : ℕ) → AllByRecursion (λ a. Bytes a.message) (lies k p q)

-- A run of which this was chosen: each good node's clock as the node is made, how far it has run off in each round when the node sends, either way, how long each
-- message is on its way and lasts, the values that the nodes give, all that a listener for a faulty node's slot is told of (any messages, with any bytes, on any wires
-- and at any times), and all that one for a good node's slot is told of behind that node's message (any, on other wires and at any times).
pub record RunGiven
    (s : Schedule) (good : ℕ → Bool) (rounds : ℕ) (made : ℕ → Showing) (offs : ℕ → ℕ → ℤ) (delays lengths : ℕ → ℕ → ℕ → ℕ) (value : ℕ → ℕ → ℕ)
    (lies noise : ℕ → ℕ → ℕ → List (Arrival (List ℕ))) : Type 0 where
  pub run : Run
  pub lawful : Lawful s good rounds run
  pub started : Started s good run
  pub made_then : (p : ℕ) → GoodNode s.cluster good p → (on_bus s run).starts 0 p ≡ moment (made p) 0
  pub ran :
      (k p : ℕ) → k ≤ rounds → GoodNode s.cluster good p → lead ((on_bus s run).sends k p) ≡ lead ((on_bus s run).starts k p) +ℤ offs k p
  pub delayed :
      (k p q : ℕ) → k ≤ rounds → GoodNode s.cluster good p → GoodNode s.cluster good q → (p ≢ q) →
      (run.begins k p q).common ≡ (run.at k q q).common + delays k p q
  pub lasted :
      (k p q : ℕ) → k ≤ rounds → GoodNode s.cluster good p → GoodNode s.cluster good q → (p ≢ q) →
      (run.over k p q).common ≡ (run.begins k p q).common + lengths k p q
  pub gives : (k p : ℕ) → run.value k p ≡ value k p
  pub lied : (k p q : ℕ) → good q ≡ false → run.arrived k p q ≡ lies k p q
  pub noisy :
      (k p q : ℕ) → k < rounds → GoodNode s.cluster good p → GoodNode s.cluster good q → (p ≢ q) →
      run.arrived k p q ≡ arrival_of (on_bus s run) k p q ∷ noise k p q

-- So nothing of the faulty nodes is assumed, and what the main theorem asks can be met: for as many rounds as clocks can show.
abbrev pub RunCanBeGiven : Type 0
RunCanBeGiven =
    (s : Schedule) (good : ℕ → Bool) (rounds : ℕ) (made : ℕ → Showing) (offs : ℕ → ℕ → ℤ) (delays lengths : ℕ → ℕ → ℕ → ℕ) (value : ℕ → ℕ → ℕ)
    (lies noise : ℕ → ℕ → ℕ → List (Arrival (List ℕ))) → FewBad s.cluster good →
    Choice s good rounds (λ p. moment (made p) 0) offs delays lengths → ((k p : ℕ) → value k p < 2 ^ 32) → HoldBytes lies → OnOtherWires noise →
    RunGiven s good rounds made offs delays lengths value lies noise
