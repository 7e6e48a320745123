use Rattle.std.proofs.Common.{refl, ◌∙◌}
use borrow.Author.Tests.{both_ways}
use Rattle.script.proofs.Cut.{next_word, found, found_is}
use Rattle.script.proofs.entry.keyword.Goals as goal

pub returns-then-eq : goal.returns-then-eq
returns-then-eq c = λ others h. (refl, (found _ _ _ (next_word _ _ _ c.args.word.now others c.next.ensures.steps h)).3)

pub returns-else-eq : goal.returns-else-eq
returns-else-eq c = λ others h. absurd (both_ways _ c.if-eq.false (c.eq.ensures ∙ found_is c.next.result c.args.word _ (next_word _ _ _ c.args.word.now others c.next.ensures.steps h)))
