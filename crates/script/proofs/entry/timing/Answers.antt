use Rattle.std.proofs.Common.{ap, Ok}
use Rattle.script.specs.declared.entry.Entry.TheVariants as entry
use Rattle.script.proofs.Cut.{not_both, is_same}
use Rattle.script.proofs.entry.timing.Goals as goal

pub returns-in_err-length : goal.returns-in_err-length
returns-in_err-length c = λ length pause message wire fits h. absurd (not_both _ _ _ c.in_err-length.was (c.four.ensures length pause message wire fits h).0)

pub returns : goal.returns
returns c = λ length pause message wire fits h.
    let k = c.four.ensures length pause message wire fits h in
    (ap (λ n. Ok (entry.Timing n.0 n.1 n.2 n.3)) (is_same _ _ (length, pause, message, wire) c.in_ok-length.was k.0), k.1)
