-- Which nodes of a cluster are good, and why a line may not name one. Assumes nothing: these are definitions.
use Rattle.std.specs.Prelude.{ℕ, Bool, true, false, not, List, [], ◌∷◌, nat_lt, slice_index_or}
use Rattle.midpoint.specs.Refusals.{Row, refused_if}
use Rattle.clock.specs.declared.limits.Cluster.{Cluster}
use Rattle.script.specs.declared.reason.Misfit.{Misfit}
use Rattle.script.specs.declared.reason.Misfit.TheVariants.{PastTheCluster, NotGood, NotBad}
use Rattle.script.specs.declared.setup.Starting.{Starting}
use Rattle.script.specs.declared.setup.Starting.TheVariants.{Bad, Good}
use Rattle.script.specs.declared.setup.Setup.{Setup}

abbrev pub is_good : Starting → Bool
is_good Bad = false
is_good (Good value ahead) = true

-- past the cluster there are no good nodes
abbrev pub good_at : Setup → ℕ → Bool
good_at s node = is_good (slice_index_or s.starting node Bad)

-- a node that the cluster does not have
abbrev pub past : Cluster → ℕ → Row Misfit
past cluster node = refused_if (not (nat_lt node cluster.nodes)) (PastTheCluster node)

-- a line that names a good node, or a bad one, names one of the cluster, and then one that is so
abbrev pub not_good : Setup → ℕ → List (Row Misfit)
not_good s node = past s.schedule.cluster node ∷ refused_if (not (good_at s node)) (NotGood node) ∷ []

abbrev pub not_bad : Setup → ℕ → List (Row Misfit)
not_bad s node = past s.schedule.cluster node ∷ refused_if (good_at s node) (NotBad node) ∷ []
