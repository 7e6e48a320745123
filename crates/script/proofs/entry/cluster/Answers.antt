use Rattle.std.proofs.Common.{ap, Ok}
use Rattle.script.specs.declared.entry.Entry.TheVariants as entry
use Rattle.script.proofs.Cut.{not_both, is_same}
use Rattle.script.proofs.entry.cluster.Goals as goal

pub returns-in_err-nodes : goal.returns-in_err-nodes
returns-in_err-nodes c = λ nodes faults drift jitter fits h. absurd (not_both _ _ _ c.in_err-nodes.was (c.four.ensures nodes faults drift jitter fits h).0)

pub returns : goal.returns
returns c = λ nodes faults drift jitter fits h.
    let k = c.four.ensures nodes faults drift jitter fits h in
    (ap (λ n. Ok (entry.Cluster n.0 n.1 n.2 n.3)) (is_same _ _ (nodes, faults, drift, jitter) c.in_ok-nodes.was k.0), k.1)
