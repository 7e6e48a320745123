use Rattle.std.proofs.Common.{ap, Ok, Some, sym, subst, ◌∙◌}
use Rattle.script.specs.Words.{HasWords}
use Rattle.script.specs.Text.{words_of, kind_of, numbers_of}
use Rattle.script.proofs.Cut.{next_word, next_none, found, same_word, not_none, not_both, is_same}
use Rattle.script.proofs.Plain.{words_in}
use Rattle.script.proofs.entry.parse.Goals as goal

pub returns-in_default-clause-numbers : goal.returns-in_default-clause-numbers
returns-in_default-clause-numbers c = λ said fits h.
    let start = subst (λ t. HasWords t (words_of said)) (sym (c.split_whitespace-words.ensures.rest ∙ c.without_comment.ensures)) h in
    let k = found _ _ _ (next_word _ _ _ (kind_of said) (numbers_of said) c.next.ensures.steps start) in
    absurd (not_none _ _ c.in_default.is k.1)

pub returns-in_err-entry-clause-numbers : goal.returns-in_err-entry-clause-numbers
returns-in_err-entry-clause-numbers c = λ said fits h.
    let start = subst (λ t. HasWords t (words_of said)) (sym (c.split_whitespace-words.ensures.rest ∙ c.without_comment.ensures)) h in
    let k = found _ _ _ (next_word _ _ _ (kind_of said) (numbers_of said) c.next.ensures.steps start) in
    let r = c.read_entry.ensures.numbers said (same_word _ _ k.0 (kind_of said) c.in-Some.is k.1 k.2) fits k.3 in
    absurd (not_both _ _ _ c.in_err-entry.was r.0)

pub returns-in-None-clause-numbers : goal.returns-in-None-clause-numbers
returns-in-None-clause-numbers c = λ said fits h.
    let start = subst (λ t. HasWords t (words_of said)) (sym (c.split_whitespace-words.ensures.rest ∙ c.without_comment.ensures)) h in
    let k = found _ _ _ (next_word _ _ _ (kind_of said) (numbers_of said) c.next.ensures.steps start) in
    let r = c.read_entry.ensures.numbers said (same_word _ _ k.0 (kind_of said) c.in-Some.is k.1 k.2) fits k.3 in
    ap (λ l. Ok (Some l)) (is_same _ _ _ c.in_ok-entry.was r.0)

pub returns-in-Some-next-clause-numbers : goal.returns-in-Some-next-clause-numbers
returns-in-Some-next-clause-numbers c = λ said fits h.
    let start = subst (λ t. HasWords t (words_of said)) (sym (c.split_whitespace-words.ensures.rest ∙ c.without_comment.ensures)) h in
    let k = found _ _ _ (next_word _ _ _ (kind_of said) (numbers_of said) c.next.ensures.steps start) in
    let r = c.read_entry.ensures.numbers said (same_word _ _ k.0 (kind_of said) c.in-Some.is k.1 k.2) fits k.3 in
    let none = next_none _ _ _ c.next-2.ensures.steps r.1 in
    absurd (not_none _ _ none c.in-Some-next.is)

pub returns-in_default-clause-reads_back : goal.returns-in_default-clause-reads_back
returns-in_default-clause-reads_back c = λ said fits is. returns-in_default-clause-numbers c said fits (words_in c.args.line.now said fits is)

pub returns-in_err-entry-clause-reads_back : goal.returns-in_err-entry-clause-reads_back
returns-in_err-entry-clause-reads_back c = λ said fits is. returns-in_err-entry-clause-numbers c said fits (words_in c.args.line.now said fits is)

pub returns-in-None-clause-reads_back : goal.returns-in-None-clause-reads_back
returns-in-None-clause-reads_back c = λ said fits is. returns-in-None-clause-numbers c said fits (words_in c.args.line.now said fits is)

pub returns-in-Some-next-clause-reads_back : goal.returns-in-Some-next-clause-reads_back
returns-in-Some-next-clause-reads_back c = λ said fits is. returns-in-Some-next-clause-numbers c said fits (words_in c.args.line.now said fits is)
