use Rattle.std.proofs.Common.{◌∷◌, [], Ok}
use Rattle.std.specs.Fmt.{decimal}
use Rattle.script.proofs.Cut.{not_both, is_same, u64}
use Rattle.script.proofs.entry.four.Goals as goal

pub returns-in_err-a : goal.returns-in_err-a
returns-in_err-a c = λ w x y z fits h.
    let k0 = c.pair.ensures (decimal w) (decimal x) w x (c.args.third.now ∷ decimal y ∷ c.args.fourth.now ∷ decimal z ∷ []) (λ r p. u64 w r fits.0 p.0) (λ r p. u64 x r fits.1 p.0) h in
    absurd (not_both _ _ _ c.in_err-a.was k0.0)

pub returns-in_err-c : goal.returns-in_err-c
returns-in_err-c c = λ w x y z fits h.
    let k0 = c.pair.ensures (decimal w) (decimal x) w x (c.args.third.now ∷ decimal y ∷ c.args.fourth.now ∷ decimal z ∷ []) (λ r p. u64 w r fits.0 p.0) (λ r p. u64 x r fits.1 p.0) h in
    absurd (not_both _ _ _ c.in_err-c.was (c.pair-2.ensures (decimal y) (decimal z) y z [] (λ r p. u64 y r fits.2 p.0) (λ r p. u64 z r fits.3 p.0) k0.1).0)

pub returns : goal.returns
returns c = λ w x y z fits h.
    let k0 = c.pair.ensures (decimal w) (decimal x) w x (c.args.third.now ∷ decimal y ∷ c.args.fourth.now ∷ decimal z ∷ []) (λ r p. u64 w r fits.0 p.0) (λ r p. u64 x r fits.1 p.0) h in
    let k1 = c.pair-2.ensures (decimal y) (decimal z) y z [] (λ r p. u64 y r fits.2 p.0) (λ r p. u64 z r fits.3 p.0) k0.1 in
    let m = is_same _ _ (w, x) c.in_ok-a.was k0.0 in
    let n = is_same _ _ (y, z) c.in_ok-c.was k1.0 in
    ((λ j. Ok ((m j).0, (m j).1, (n j).0, (n j).1)), k1.1)
