use Rattle.std.proofs.Common.{◌∷◌, [], codes, Ok}
use Rattle.std.specs.Fmt.{decimal, signed_decimal}
use Rattle.script.specs.declared.entry.Entry.TheVariants as entry
use Rattle.script.proofs.Cut.{not_both, is_same, i64, same_signed, u64}
use Rattle.script.proofs.entry.drift.Goals as goal

pub returns-in_err-node : goal.returns-in_err-node
returns-in_err-node c = λ node by fits h.
    let k0 = c.number.ensures (decimal node) node (codes "by" ∷ signed_decimal by ∷ []) (λ r p. u64 node r fits.0 p.0) h in
    absurd (not_both _ _ _ c.in_err-node.was k0.0)

pub returns-in_err-by : goal.returns-in_err-by
returns-in_err-by c = λ node by fits h.
    let k0 = c.number.ensures (decimal node) node (codes "by" ∷ signed_decimal by ∷ []) (λ r p. u64 node r fits.0 p.0) h in
    let k1 = c.named.ensures (signed_decimal by) by [] (λ r p. i64 by r fits.1 p.0) k0.1 in
    absurd (not_both _ _ _ c.in_err-by.was k1.0)

pub returns : goal.returns
returns c = λ node by fits h.
    let k0 = c.number.ensures (decimal node) node (codes "by" ∷ signed_decimal by ∷ []) (λ r p. u64 node r fits.0 p.0) h in
    let k1 = c.named.ensures (signed_decimal by) by [] (λ r p. i64 by r fits.1 p.0) k0.1 in
    ((λ j. Ok (entry.Drift (is_same _ _ node c.in_ok-node.was k0.0 j) (same_signed _ by fits.1 (is_same _ _ by c.in_ok-by.was k1.0) j))), k1.1)
