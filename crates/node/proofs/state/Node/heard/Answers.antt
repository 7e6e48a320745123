use Rattle.std.proofs.Common.{◌∙◌, ap, slice_set}
use Rattle.node.proofs.state.Node.heard.Goals as goal

pub returns-clause-leaves : goal.returns-clause-leaves
returns-clause-leaves c = record {
  passed = c.passed-node.ensures.passed c.args.time c.in_ok-clock.ensures.1;
  its_heard = c.passed-node.ensures.heard ∙ c.heard_with.ensures ∙ ap (slice_set c.args.self.heard c.args.sender) (c.deviation.ensures ∙ c.receive-event.ensures.deviation);
  entered = c.receive-event.ensures.entered;
}
