-- The numbers of a cluster: what is turned away, in the order of the checks, and what follows from them. Assumes nothing: these are definitions.
use Rattle.std.specs.Prelude.{◌≡◌, ℕ, ◌+◌, ◌*◌, ◌<◌, ◌≤◌, not, ◌&&◌, ◌||◌, List, [], ◌∷◌, nat_le, nat_lt}
use Rattle.midpoint.specs.Refusals.{Row, row}
use Rattle.midpoint.specs.Setting.{most_readings}
use Rattle.midpoint.specs.declared.refusal.Code.{Code}
use Rattle.clock.specs.declared.limits.Cluster.{Cluster}
use Rattle.clock.specs.declared.config.Unfit.{Unfit}
use Rattle.clock.specs.declared.config.Unfit.TheVariants.{Nodes, Faults, NodesForFaults, Drift, Jitter}

-- nodes outside of 4 to 16; faults above 3, or nodes that are not more than three times the faults; drift above 1000; jitter above 1000
abbrev pub unfit : ℕ → ℕ → ℕ → ℕ → List (Row Code)
unfit nodes faults drift jitter =
    row 4 (not (nat_le 4 nodes && nat_le nodes most_readings)) 0
    ∷ row 4 (nat_lt 3 faults || nat_le nodes (3 * faults)) 1
    ∷ row 5 (nat_lt 1000 drift) 0
    ∷ row 5 (nat_lt 1000 jitter) 1
    ∷ []

-- number and place of each refusal
abbrev pub code_of : Unfit → Code
code_of Nodes = record { number = 4; place = 0 }
code_of Faults = record { number = 4; place = 1 }
code_of NodesForFaults = record { number = 4; place = 1 }
code_of Drift = record { number = 5; place = 0 }
code_of Jitter = record { number = 5; place = 1 }

-- the two that share number and place: faults above 3 come first
abbrev pub ToldApart : ℕ → Unfit → Type 0
ToldApart faults Nodes = Unit {0}
ToldApart faults Faults = 3 < faults
ToldApart faults NodesForFaults = faults ≤ 3
ToldApart faults Drift = Unit {0}
ToldApart faults Jitter = Unit {0}

-- a cluster with these numbers
pub record ClusterOf (nodes faults drift jitter : ℕ) (c : Cluster) : Type 0 where
  pub its_nodes : c.nodes ≡ nodes
  pub its_faults : c.faults ≡ faults
  pub its_drift : c.drift ≡ drift
  pub its_jitter : c.jitter ≡ jitter

-- by how much a good node's reading of a good clock may be wrong: by the jitter, and by what both clocks run off meanwhile
abbrev pub error_of : Cluster → ℕ
error_of c = c.jitter + 2 * c.drift

-- how far apart good clocks may be as a round ends
abbrev pub bound_of : Cluster → ℕ
bound_of c = 4 * error_of c + 4 * c.drift + 2

-- how far apart they may come within a round
abbrev pub width_of : Cluster → ℕ
width_of c = bound_of c + 2 * c.drift
