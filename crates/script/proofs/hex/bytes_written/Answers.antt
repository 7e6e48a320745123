use Rattle.std.proofs.Common.{◌∙◌, ◌-◌, sym, refl, ap, take, drop, length}
use Rattle.script.specs.Hex.{bytes_written}
use Rattle.script.proofs.Digits.{behind, two_more}
use Rattle.script.proofs.hex.bytes_written.Goals as goal

pub loop-left-preserved : goal.loop-left-preserved
loop-left-preserved c =
    let left = c.loop-left.left.now in
    ap (λ items. behind items (bytes_written (take (length left - 2) (drop 2 left)))) c.in_ok-push.ensures.items
    ∙ sym (two_more c.loop-left.bytes.items left c.in-Some.byte (length left - 2) c.in-len2-up.len_at_least refl (sym c.byte_value.ensures ∙ c.in-Some.is))
    ∙ c.loop-left.invariant
