use Rattle.std.proofs.Common.{◌≡◌, ◌∙◌, refl, arith}
use Rattle.std.proofs.lemmas.Bool.Decides.{nat_tests}
use Rattle.frame.specs.Layout.{value_count_of, header_of}
use Rattle.frame.proofs.Written.{framed}
use Rattle.frame.proofs.turn.Turn.write.Goals as goal

pub returns-clause-memory : goal.returns-clause-memory
returns-clause-memory g c =
    let header : c.copy_from_slice.new.self ≡ header_of c.args.self.now = c.copy_from_slice.ensures.after ∙ c.header.ensures in
    let (fits, long) = c.in_ok-length.ensures in
    rw header
    (framed (g.V.Values.value c.args.values) (header_of c.args.self.now) c.args.memory.now c.fill.new.payload 5 c.in_ok-length.length (value_count_of c.args.self.now)
    refl long (grind (arith, nat_tests, fits, long)) (rw header at c.fill.ensures.payload))
