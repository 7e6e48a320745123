use Rattle.std.proofs.Common.{rules, refl, ap, ◌∙◌}
use Rattle.script.specs.Running.{bytes_said}
use Rattle.script.proofs.running.Running.says.Goals as goal

pub returns-clause-ok : goal.returns-clause-ok
returns-clause-ok c = (
  search rules,
  record {
    message = record { from = c.in_ok-q.q; to = c.in_ok-p.p; reading = c.args.reading; bytes = c.in_ok-bytes.bytes };
    is = record {
      from = c.in_ok-q.ensures.1.0;
      to = c.in_ok-p.ensures.1.0;
      reading = refl;
      bytes = c.in_ok-bytes.ensures ∙ ap (λ q. bytes_said c.args.self.now q c.args.content) c.in_ok-q.ensures.1.0;
    };
    messages = c.in_ok-add_message.ensures.ok;
    given = c.add_message.ensures.given;
    setup = refl;
    number = refl;
  },
)
