use Rattle.std.proofs.Common.{◌≡◌, take}
use Rattle.std.specs.List.{filter}
use Rattle.script.specs.Rounds.{is_message}
use Rattle.script.proofs.Only.{seen}
use Rattle.script.proofs.round.Round.only_message.Given as goal

abbrev pub invariant-loop-message : goal.invariant-loop-message
invariant-loop-message l = filter (is_message l.to l.from) (take l.message-index l.self.messages.items) ≡ seen l.found
