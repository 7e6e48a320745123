use Rattle.std.proofs.Common.{◌∷◌}
use Rattle.script.proofs.Cut.{not_both}
use Rattle.script.proofs.entry.named.Goals as goal

pub returns-in_err-keyword : goal.returns-in_err-keyword
returns-in_err-keyword g c = λ text n others reads h. absurd (not_both _ _ _ c.in_err-keyword.was (c.keyword.ensures (text ∷ others) h).0)

pub returns : goal.returns
returns g c = λ text n others reads h. c.number.ensures text n others reads (c.keyword.ensures (text ∷ others) h).1
