-- A node as it begins. Assumes nothing: these are definitions.
use Rattle.std.specs.Prelude.{◌≡◌, ℕ, false, List, [], ◌∷◌, None, replicate, nat_le}
use Rattle.midpoint.specs.Refusals.{Row, refused_if}
use Rattle.midpoint.specs.Setting.{most_readings}
use Rattle.schedule.specs.declared.limits.Schedule.{Schedule}
use Rattle.relay.specs.Nodes.{among}
use Rattle.relay.specs.Tables.{with_entry}
use Rattle.relay.specs.Tables as of_tables
use Rattle.agreement.specs.Results.{carried}
use Rattle.node.specs.Calls.{past_limit}
use Rattle.node.specs.declared.state.Node.{Node}
use Rattle.node.specs.declared.refusal.Refusal.{Refusal}
use Rattle.node.specs.declared.refusal.Refusal.TheVariants.{Table, PastTheCluster}

-- A node is not made with a time that no clock comes to; a table of another length than the cluster needs; a number past the cluster.
abbrev pub unmade : Schedule → ℕ → ℕ → List ℕ → List (Row Refusal)
unmade s own time first =
    past_limit own time ∷ carried Table (of_tables.unfit s.cluster first) ∷ refused_if (nat_le s.cluster.nodes own) PastTheCluster ∷ []

-- It begins in round 0, of which nothing is over and nothing was heard yet, and no cycle is over.
pub record Made (s : Schedule) (own time : ℕ) (node : Node) : Type 0 where
  pub its_schedule : node.schedule ≡ s
  pub its_own : node.own ≡ own
  pub shows : node.clock.shown ≡ time
  pub its_round : node.clock.round ≡ 0
  pub its_over : (other : ℕ) → among node.over other ≡ false
  pub its_heard : node.heard ≡ replicate most_readings None
  pub its_results : node.results ≡ None

-- and the value that it gives in its first cycle stands in its first table
pub record MadeWith (s : Schedule) (own time value : ℕ) (old : List ℕ) (node : Node) (new : List ℕ) : Type 0 where
  pub made : Made s own time node
  pub first : new ≡ with_entry s.cluster [] value old
