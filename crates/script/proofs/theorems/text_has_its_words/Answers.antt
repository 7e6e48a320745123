use Rattle.std.proofs.Common.{refl}
use Rattle.script.specs.Text.{text_of}
use Rattle.script.proofs.Plain.{words_in}
use Rattle.script.proofs.theorems.text_has_its_words.Goals as goal

pub returns : goal.returns
returns c = λ line h. words_in (text_of line) line h refl
