use Rattle.std.proofs.Common.{rules, ◌∙◌, sym, ap, get_or}
use Rattle.script.specs.Rounds.{is_message}
use Rattle.script.proofs.Only.{of_another}
use Rattle.script.proofs.round.Round.only_message.Goals as goal

pub returns-then-is_some : goal.returns-then-is_some
returns-then-is_some c =
    let items = c.args.self.now.messages.items in
    of_another (is_message c.args.to c.args.from) items c.loop-message.message-index c.message-item.result c.loop-message.found
    (search rules) (sym c.is_between.ensures ∙ c.if-is_between.true) (c.message-item.is ∙ ap (λ l. get_or l c.loop-message.message-index c.message-item.result) c.deref-message-items.ensures.value)
    c.loop-message.invariant (sym c.is_some.ensures ∙ c.if-is_some.true)
