use Rattle.std.proofs.Common.{◌≡◌, ◌∙◌, slice_index, ap, rules}
use Rattle.std.proofs.lemmas.Option.{unwrap_or-slice_get}
use Rattle.frame.specs.Writing.{with_value}
use Rattle.frame.proofs.Written.{filled_more}
use Rattle.frame.proofs.values.RefSliceU32Values.fill.Goals as goal

pub loop-index-preserved : goal.loop-index-preserved
loop-index-preserved c =
    let values = c.args.self.now in
    let value : c.unwrap_or-value.result ≡ slice_index values c.loop-index.index = search (rules, unwrap_or-slice_get) in
    c.put_value.ensures.payload
    ∙ ap (λ v. with_value c.loop-index.index v c.loop-index.payload) value
    ∙ filled_more (slice_index values) c.loop-index.index c.args.payload.now c.loop-index.payload c.loop-index-test.true c.loop-index.invariant
