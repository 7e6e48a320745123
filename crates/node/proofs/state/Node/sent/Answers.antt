use Rattle.node.proofs.state.Node.sent.Goals as goal

pub returns-clause-leaves : goal.returns-clause-leaves
returns-clause-leaves c = record {
  passed = c.passed-node.ensures.passed c.args.time c.in_ok-clock.ensures.1;
  its_heard = c.passed-node.ensures.heard;
  frame = c.tell-answer.ensures.frame;
  fits = c.tell-answer.ensures.fits;
  entered = c.tell-answer.ensures.entered;
}
