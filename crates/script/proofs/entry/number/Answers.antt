use Rattle.std.proofs.Common.{sym, subst}
use Rattle.script.specs.Text.{ReadsAs}
use Rattle.script.proofs.Cut.{next_word, found, of_some}
use Rattle.script.proofs.entry.number.Goals as goal

pub returns : goal.returns
returns g c = λ text n others reads h.
    let f = found _ _ _ (next_word _ _ _ text others c.next.ensures.steps h) in
    (of_some _ _ f.0 f.1 c.parsed.ensures n (subst (λ t. ReadsAs g.N.FromStr.from_str_gives t n) (sym f.2) reads), f.3)
