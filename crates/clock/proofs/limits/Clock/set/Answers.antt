use Rattle.std.proofs.Common.{ℕ, List, Ok, Err, Result, rules}
use Rattle.midpoint.specs.Setting.{SetSays}
use Rattle.midpoint.specs.declared.refusal.Refusal.{Refusal}
use Rattle.midpoint.proofs.Ranks.{stays_shown}
use Rattle.clock.specs.Setting.{Showable}
use Rattle.clock.proofs.limits.Clock.set.Goals as goal

showable : (faults : ℕ) (readings : List ℕ) (answer : Result ℕ Refusal) → SetSays faults readings answer → Showable answer
showable faults readings (Ok time) says = stays_shown faults time readings says
showable faults readings (Err refusal) says = tt

pub next_round-requires : goal.next_round-requires
next_round-requires c = search (rules, showable)
