-- A configuration that is made a schedule, and one that is turned away. Assumes nothing: these are definitions.
use Rattle.std.specs.Prelude.{◌≡◌, Some, None}
use Rattle.midpoint.specs.Refusals.{first_applying}
use Rattle.clock.specs.Config as of_numbers
use Rattle.clock.specs.declared.limits.Cluster.{Cluster}
use Rattle.schedule.specs.Config as of_times
use Rattle.schedule.specs.declared.limits.Schedule.{Schedule}
use Rattle.node.specs.declared.config.Config.{Config}
use Rattle.node.specs.declared.refusal.Refusal.{Refusal}
use Rattle.node.specs.declared.refusal.Refusal.TheVariants as ours

-- no row turns the numbers of its cluster away, nor the times of its slots, and these are its numbers and times
pub record Configured (config : Config) (s : Schedule) : Type 0 where
  pub numbers : first_applying (of_numbers.unfit config.nodes config.faults config.drift config.jitter) ≡ None
  pub times : first_applying (of_times.unfit s.cluster config.length config.pause config.message config.wire) ≡ None
  pub its_cluster : of_numbers.ClusterOf config.nodes config.faults config.drift config.jitter s.cluster
  pub its_times : of_times.ScheduleOf s.cluster config.length config.pause config.message config.wire s

-- The first row turns it away that applies: of its cluster's numbers, and else, in a cluster that has them, of its slots' times.
abbrev pub NotConfigured : Config → Refusal → Type 0
NotConfigured config (ours.Cluster why) =
    (first_applying (of_numbers.unfit config.nodes config.faults config.drift config.jitter) ≡ Some (of_numbers.code_of why))
    × of_numbers.ToldApart config.faults why
NotConfigured config (ours.Schedule why) =
    (first_applying (of_numbers.unfit config.nodes config.faults config.drift config.jitter) ≡ None)
    × ((c : Cluster) → of_numbers.ClusterOf config.nodes config.faults config.drift config.jitter c →
    first_applying (of_times.unfit c config.length config.pause config.message config.wire) ≡ Some why)
NotConfigured config (ours.Time why) = ⊥
NotConfigured config (ours.Frame why) = ⊥
NotConfigured config (ours.Table why) = ⊥
NotConfigured config ours.PastTheCluster = ⊥
NotConfigured config ours.OutOfTurn = ⊥
