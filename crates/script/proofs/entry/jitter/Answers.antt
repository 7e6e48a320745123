use Rattle.std.proofs.Common.{ap, ◌∷◌, [], codes, Ok}
use Rattle.std.specs.Fmt.{decimal, signed_decimal}
use Rattle.script.specs.declared.entry.Entry.TheVariants as entry
use Rattle.script.proofs.Cut.{not_both, is_same, i64, same_signed, u64}
use Rattle.script.proofs.entry.jitter.Goals as goal

pub returns-in_err-node : goal.returns-in_err-node
returns-in_err-node c = λ node of by fits h.
    let k0 = c.number.ensures (decimal node) node (codes "of" ∷ decimal of ∷ codes "by" ∷ signed_decimal by ∷ []) (λ r p. u64 node r fits.0 p.0) h in
    absurd (not_both _ _ _ c.in_err-node.was k0.0)

pub returns-in_err-of : goal.returns-in_err-of
returns-in_err-of c = λ node of by fits h.
    let k0 = c.number.ensures (decimal node) node (codes "of" ∷ decimal of ∷ codes "by" ∷ signed_decimal by ∷ []) (λ r p. u64 node r fits.0 p.0) h in
    absurd (not_both _ _ _ c.in_err-of.was (c.pair.ensures (decimal of) (signed_decimal by) of by [] (λ r p. u64 of r fits.1 p.0) (λ r p. i64 by r fits.2 p.0) k0.1).0)

pub returns : goal.returns
returns c = λ node of by fits h.
    let k0 = c.number.ensures (decimal node) node (codes "of" ∷ decimal of ∷ codes "by" ∷ signed_decimal by ∷ []) (λ r p. u64 node r fits.0 p.0) h in
    let k1 = c.pair.ensures (decimal of) (signed_decimal by) of by [] (λ r p. u64 of r fits.1 p.0) (λ r p. i64 by r fits.2 p.0) k0.1 in
    let m = is_same _ _ (of, by) c.in_ok-of.was k1.0 in
    ((λ j. Ok (entry.Jitter (is_same _ _ node c.in_ok-node.was k0.0 j) (m j).0 (same_signed _ by fits.2 (ap (λ n. n.1) m) j))), k1.1)
