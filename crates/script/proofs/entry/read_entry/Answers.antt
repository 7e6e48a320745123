use Rattle.script.specs.Text.{ReadsNumbers}
use Rattle.script.proofs.Told as told
use Rattle.script.proofs.entry.read_entry.Goals as goal

pub returns-in-cluster-clause-numbers : goal.returns-in-cluster-clause-numbers
returns-in-cluster-clause-numbers c = λ line is. told.taken _ _ _ _ c.taken.ensures.ok line (told.cluster (ReadsNumbers _ _ _) c.cluster.ensures _ line c.in-cluster.is is)

pub returns-in-timing-clause-numbers : goal.returns-in-timing-clause-numbers
returns-in-timing-clause-numbers c = λ line is. told.taken _ _ _ _ c.taken-in-timing.ensures.ok line (told.timing (ReadsNumbers _ _ _) c.timing.ensures _ line c.in-timing.is is)

pub returns-in-good-clause-numbers : goal.returns-in-good-clause-numbers
returns-in-good-clause-numbers c = λ line is. told.taken _ _ _ _ c.taken-in-good.ensures.ok line (told.good (ReadsNumbers _ _ _) c.good.ensures _ line c.in-good.is is)

pub returns-in-bad-clause-numbers : goal.returns-in-bad-clause-numbers
returns-in-bad-clause-numbers c = λ line is. told.taken _ _ _ _ c.taken-in-bad.ensures.ok line (told.bad (ReadsNumbers _ _ _) c.bad.ensures _ line c.in-bad.is is)

pub returns-in-jitter-clause-numbers : goal.returns-in-jitter-clause-numbers
returns-in-jitter-clause-numbers c = λ line is. told.taken _ _ _ _ c.taken-in-jitter.ensures.ok line (told.jitter (ReadsNumbers _ _ _) c.jitter.ensures _ line c.in-jitter.is is)

pub returns-in-drift-clause-numbers : goal.returns-in-drift-clause-numbers
returns-in-drift-clause-numbers c = λ line is. told.taken _ _ _ _ c.taken-in-drift.ensures.ok line (told.drift (ReadsNumbers _ _ _) c.drift.ensures _ line c.in-drift.is is)

pub returns-in-value-clause-numbers : goal.returns-in-value-clause-numbers
returns-in-value-clause-numbers c = λ line is. told.taken _ _ _ _ c.taken-in-value.ensures.ok line (told.value (ReadsNumbers _ _ _) c.value.ensures _ line c.in-value.is is)
