-- Number and place of each refusal. Assumes nothing: these are definitions.
use Rattle.midpoint.specs.declared.refusal.Code.{Code}
use Rattle.clock.specs.Config as of_numbers
use Rattle.clock.specs.Setting as of_time
use Rattle.schedule.specs.Config as of_times
use Rattle.frame.specs.Reading as of_frames
use Rattle.relay.specs.Tables as of_tables
use Rattle.node.specs.declared.refusal.Refusal.{Refusal}
use Rattle.node.specs.declared.refusal.Refusal.TheVariants.{Cluster, Schedule, Time, Frame, Table, PastTheCluster, OutOfTurn}

-- each is that of the crate below; for a node that is past the cluster, or whose slot it is not, it is 11 at 0
abbrev pub code_of : Refusal → Code
code_of (Cluster refusal) = of_numbers.code_of refusal
code_of (Schedule refusal) = of_times.code_of refusal
code_of (Time refusal) = of_time.code_of refusal
code_of (Frame refusal) = of_frames.code_of refusal
code_of (Table refusal) = of_tables.code_of refusal
code_of PastTheCluster = record { number = 11; place = 0 }
code_of OutOfTurn = record { number = 11; place = 0 }
