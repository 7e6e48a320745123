use Rattle.std.proofs.Common.{◌∷◌, [], codes, Ok}
use Rattle.std.specs.Fmt.{decimal}
use Rattle.script.specs.declared.entry.Entry.TheVariants as entry
use Rattle.script.proofs.Cut.{not_both, is_same, u32, u64}
use Rattle.script.proofs.entry.value.Goals as goal

pub returns-in_err-node : goal.returns-in_err-node
returns-in_err-node c = λ node next fits h.
    let k0 = c.number.ensures (decimal node) node (codes "next" ∷ decimal next ∷ []) (λ r p. u64 node r fits.0 p.0) h in
    absurd (not_both _ _ _ c.in_err-node.was k0.0)

pub returns-in_err-next : goal.returns-in_err-next
returns-in_err-next c = λ node next fits h.
    let k0 = c.number.ensures (decimal node) node (codes "next" ∷ decimal next ∷ []) (λ r p. u64 node r fits.0 p.0) h in
    let k1 = c.named.ensures (decimal next) next [] (λ r p. u32 next r fits.1 p.0) k0.1 in
    absurd (not_both _ _ _ c.in_err-next.was k1.0)

pub returns : goal.returns
returns c = λ node next fits h.
    let k0 = c.number.ensures (decimal node) node (codes "next" ∷ decimal next ∷ []) (λ r p. u64 node r fits.0 p.0) h in
    let k1 = c.named.ensures (decimal next) next [] (λ r p. u32 next r fits.1 p.0) k0.1 in
    ((λ j. Ok (entry.Value (is_same _ _ node c.in_ok-node.was k0.0 j) (is_same _ _ next c.in_ok-next.was k1.0 j))), k1.1)
