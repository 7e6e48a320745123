-- What the lines before the rounds make of a cluster, and why one does not fit. Assumes nothing: these are definitions.
use Rattle.std.specs.Prelude.{◌≡◌, ℕ, true, false, not, List, [], ◌∷◌, Some, None, nat_lt, replicate, slice_index_or, slice_set}
use Rattle.std.specs.List.{position_or_len}
use Rattle.midpoint.specs.Refusals.{Row, refused_if, first_applying}
use Rattle.clock.specs.Config as numbers
use Rattle.clock.specs.declared.config.Unfit as of_numbers
use Rattle.schedule.specs.Config as times
use Rattle.schedule.specs.declared.config.Unfit as of_times
use Rattle.clock.specs.declared.limits.Cluster.{Cluster}
use Rattle.script.specs.Setup.{past}
use Rattle.script.specs.declared.setup.Starting.{Starting}
use Rattle.script.specs.declared.setup.Starting.TheVariants as starting
use Rattle.script.specs.declared.reason.Misfit.{Misfit}
use Rattle.script.specs.declared.reason.Misfit.TheVariants.{Expected, NoCluster, NoSchedule, NamedTwice, NotNamed}
use Rattle.script.specs.declared.reason.Lines.TheVariants as lines
use Rattle.script.specs.declared.entry.Entry.{Entry}
use Rattle.script.specs.declared.entry.Entry.TheVariants as entry
use Rattle.script.specs.declared.naming.Naming.{Naming}

-- The first line gives a cluster with its numbers, or the first reason why there is none. Another line is not expected there.
abbrev pub Configured : Entry → Cluster → Type 0
Configured (entry.Cluster nodes faults drift jitter) c =
    (first_applying (numbers.unfit nodes faults drift jitter) ≡ None) × numbers.ClusterOf nodes faults drift jitter c
Configured other c = ⊥

abbrev pub NotConfigured : Entry → Misfit → Type 0
NotConfigured (entry.Cluster nodes faults drift jitter) misfit =
    (why : of_numbers.Unfit) × (misfit ≡ NoCluster why) × (first_applying (numbers.unfit nodes faults drift jitter) ≡ Some (numbers.code_of why))
    × numbers.ToldApart faults why
NotConfigured other misfit = misfit ≡ Expected lines.Cluster

-- The second line gives a schedule of the cluster with its times, of which no node is named yet, or the first reason why there is none. Another line
-- is not expected there.
abbrev pub Timed : Cluster → Entry → Naming → Type 0
Timed c (entry.Timing length pause message wire) s =
    (first_applying (times.unfit c length pause message wire) ≡ None) × times.ScheduleOf c length pause message wire s.setup.schedule
    × (s.setup.starting ≡ replicate 16 starting.Bad) × (s.named ≡ replicate 16 false)
Timed c other s = ⊥

abbrev pub NotTimed : Cluster → Entry → Misfit → Type 0
NotTimed c (entry.Timing length pause message wire) misfit =
    (why : of_times.Unfit) × (misfit ≡ NoSchedule why) × (first_applying (times.unfit c length pause message wire) ≡ Some why)
NotTimed c other misfit = misfit ≡ Expected lines.Timing

-- Naming: each node is named once; and the first place that is not named, which is 16 if there is none.
abbrev pub unnameable : Naming → ℕ → List (Row Misfit)
unnameable s node = past s.setup.schedule.cluster node ∷ refused_if (slice_index_or s.named node false) (NamedTwice node) ∷ []

pub record Named (s : Naming) (node : ℕ) (start : Starting) (t : Naming) : Type 0 where
  pub named : t.named ≡ slice_set s.named node true
  pub starting : t.setup.starting ≡ slice_set s.setup.starting node start
  pub schedule : t.setup.schedule ≡ s.setup.schedule

abbrev pub first_unnamed : Naming → ℕ
first_unnamed s = position_or_len not s.named

abbrev pub incomplete : Naming → List (Row Misfit)
incomplete s = refused_if (nat_lt (first_unnamed s) s.setup.schedule.cluster.nodes) (NotNamed (first_unnamed s)) ∷ []

-- a line while nodes are named: why it does not fit, and what it makes; where rounds begin, nothing changes but the stage
abbrev pub misfits : Naming → Entry → List (Row Misfit)
misfits s (entry.Good node value ahead) = unnameable s node
misfits s (entry.Bad node) = unnameable s node
misfits s entry.Round = incomplete s
misfits s other = refused_if true (Expected lines.Nodes) ∷ []

abbrev pub NodeNamed : Naming → Entry → Naming → Type 0
NodeNamed s (entry.Good node value ahead) t = Named s node (starting.Good value ahead) t
NodeNamed s (entry.Bad node) t = Named s node starting.Bad t
NodeNamed s other t = ⊥
