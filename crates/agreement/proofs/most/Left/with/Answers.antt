use Rattle.std.proofs.Common.{arith}
use Rattle.agreement.proofs.Pairs.{struck}
use Rattle.agreement.proofs.most.Left.with.Goals as goal

pub returns-else-value-self : goal.returns-else-value-self
returns-else-value-self c = λ values is. struck values c.args.self c.args.value (grind (arith, c.if-self-eq0.false)) c.if-value-self.false is
