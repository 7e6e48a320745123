use Rattle.std.proofs.Common.{◌∷◌, [], codes, Ok}
use Rattle.std.specs.Fmt.{decimal}
use Rattle.script.specs.declared.entry.Entry.TheVariants as entry
use Rattle.script.proofs.Cut.{not_both, is_same, u32, u64}
use Rattle.script.proofs.entry.good.Goals as goal

pub returns-in_err-node : goal.returns-in_err-node
returns-in_err-node c = λ node value ahead fits h.
    let k0 = c.number.ensures (decimal node) node (codes "value" ∷ decimal value ∷ codes "ahead" ∷ decimal ahead ∷ []) (λ r p. u64 node r fits.0 p.0) h in
    absurd (not_both _ _ _ c.in_err-node.was k0.0)

pub returns-in_err-value : goal.returns-in_err-value
returns-in_err-value c = λ node value ahead fits h.
    let k0 = c.number.ensures (decimal node) node (codes "value" ∷ decimal value ∷ codes "ahead" ∷ decimal ahead ∷ []) (λ r p. u64 node r fits.0 p.0) h in
    absurd (not_both _ _ _ c.in_err-value.was (c.pair.ensures (decimal value) (decimal ahead) value ahead [] (λ r p. u32 value r fits.1 p.0) (λ r p. u64 ahead r fits.2 p.0) k0.1).0)

pub returns : goal.returns
returns c = λ node value ahead fits h.
    let k0 = c.number.ensures (decimal node) node (codes "value" ∷ decimal value ∷ codes "ahead" ∷ decimal ahead ∷ []) (λ r p. u64 node r fits.0 p.0) h in
    let k1 = c.pair.ensures (decimal value) (decimal ahead) value ahead [] (λ r p. u32 value r fits.1 p.0) (λ r p. u64 ahead r fits.2 p.0) k0.1 in
    let m = is_same _ _ (value, ahead) c.in_ok-value.was k1.0 in
    ((λ j. Ok (entry.Good (is_same _ _ node c.in_ok-node.was k0.0 j) (m j).0 (m j).1)), k1.1)
