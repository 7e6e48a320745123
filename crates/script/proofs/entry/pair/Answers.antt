use Rattle.std.proofs.Common.{◌∷◌, Ok}
use Rattle.script.proofs.Cut.{not_both, is_same}
use Rattle.script.proofs.entry.pair.Goals as goal

pub returns-in_err-a : goal.returns-in_err-a
returns-in_err-a g c = λ text more a b others first second h.
    let k0 = c.named.ensures text a (c.args.second.now ∷ more ∷ others) first h in
    absurd (not_both _ _ _ c.in_err-a.was k0.0)

pub returns-in_err-b : goal.returns-in_err-b
returns-in_err-b g c = λ text more a b others first second h.
    let k0 = c.named.ensures text a (c.args.second.now ∷ more ∷ others) first h in
    absurd (not_both _ _ _ c.in_err-b.was (c.named-2.ensures more b others second k0.1).0)

pub returns : goal.returns
returns g c = λ text more a b others first second h.
    let k0 = c.named.ensures text a (c.args.second.now ∷ more ∷ others) first h in
    let k1 = c.named-2.ensures more b others second k0.1 in
    ((λ j. Ok (is_same _ _ a c.in_ok-a.was k0.0 j, is_same _ _ b c.in_ok-b.was k1.0 j)), k1.1)
