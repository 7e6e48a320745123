use Rattle.std.proofs.Common.{◌≡◌, ◌<◌, ◌∷◌, ◌∙◌, sym, ap, arith}
use Rattle.std.proofs.lemmas.Grind.{common_steps}
use Rattle.relay.specs.Indices.{next_index, indices_left}
use Rattle.relay.proofs.Left.{left_told, left_passed}
use Rattle.relay.proofs.indices.PathIndicesIterator.next.Goals as goal

pub returns-then-not-is_barred-clause-steps : goal.returns-then-not-is_barred-clause-steps
returns-then-not-is_barred-clause-steps c =
    let reached : next_index c.loop-self.self < c.loop-self.self.end = omega (arith, c.index.ensures, c.loop-self-test.true) in
    sym c.loop-self.invariant ∙ left_told c.loop-self.self c.go_on.new.self c.has-is_barred.result reached c.go_on.ensures c.has-is_barred.ensures c.if-not-is_barred.true
    ∙ ap (λ index. index ∷ indices_left c.go_on.new.self) (sym c.index-index.ensures)

pub returns-then-not-is_barred-clause-goes : goal.returns-then-not-is_barred-clause-goes
returns-then-not-is_barred-clause-goes c =
    let step : indices_left c.args.self.now ≡ c.index-index.result ∷ indices_left c.go_on.new.self = returns-then-not-is_barred-clause-steps c in
    grind (arith, common_steps, step)

pub loop-self-preserved : goal.loop-self-preserved
loop-self-preserved c =
    let reached : next_index c.loop-self.self < c.loop-self.self.end = omega (arith, c.index.ensures, c.loop-self-test.true) in
    sym (left_passed c.loop-self.self c.go_on.new.self c.has-is_barred.result reached c.go_on.ensures c.has-is_barred.ensures c.if-not-is_barred.false) ∙ c.loop-self.invariant
