use Rattle.std.proofs.Common.{◌∙◌, sym, arith}
use Rattle.relay.proofs.Told.{barred_all, barred_more}
use Rattle.relay.proofs.indices.+barred.Goals as goal

pub returns-then-has : goal.returns-then-has
returns-then-has t c =
    barred_all c.args.nodes c.args.sender c.args.row_length c.args.row c.barred-barred_behind.result c.all.result c.requires.some c.requires.few (omega (arith, c.if-row_length-eq0.false))
    c.barred-barred_behind.ensures (sym c.has.ensures ∙ c.if-has.true) c.all.ensures

pub returns-else-has : goal.returns-else-has
returns-else-has t c =
    barred_more c.args.nodes c.args.sender c.args.row_length c.args.row c.barred-barred_behind.result c.with-else-has.result c.requires.some c.requires.few (omega (arith, c.if-row_length-eq0.false))
    c.barred-barred_behind.ensures (sym c.has.ensures ∙ c.if-has.false) c.with-else-has.ensures
