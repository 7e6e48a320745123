use Rattle.std.proofs.Common.{[], Ok}
use Rattle.std.specs.Fmt.{decimal}
use Rattle.script.specs.declared.entry.Entry.TheVariants as entry
use Rattle.script.proofs.Cut.{not_both, is_same, u64}
use Rattle.script.proofs.entry.bad.Goals as goal

pub returns-in_err-node : goal.returns-in_err-node
returns-in_err-node c = λ node fits h.
    let k0 = c.number.ensures (decimal node) node [] (λ r p. u64 node r fits p.0) h in
    absurd (not_both _ _ _ c.in_err-node.was k0.0)

pub returns : goal.returns
returns c = λ node fits h.
    let k0 = c.number.ensures (decimal node) node [] (λ r p. u64 node r fits p.0) h in
    ((λ j. Ok (entry.Bad (is_same _ _ node c.in_ok-node.was k0.0 j))), k0.1)
