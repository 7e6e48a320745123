use Rattle.std.proofs.Common.{◌∙◌, slice_index, ap, arith}
use Rattle.frame.specs.Writing.{with_value}
use Rattle.frame.proofs.Written.{filled_more}
use Rattle.relay.specs.Telling.{told_from}
use Rattle.relay.specs.Indices.{indices_left}
use Rattle.relay.proofs.Entering.{told_next, told_fits}
use Rattle.relay.proofs.telling.fill_from.Goals as goal

pub loop-place-preserved : goal.loop-place-preserved
loop-place-preserved c =
    let (left_before, filled) = c.loop-place.invariant in
    let t = c.args.turn.now in
    let table = c.args.table.now in
    let (left_after, value) = told_next t table c.loop-place.place (indices_left c.loop-place.indices) (indices_left c.next.new.self) c.next.result c.held_at-value.result left_before c.next.ensures.steps c.held_at-value.ensures in (
      left_after,
      c.put_value.ensures.payload
          ∙ ap (λ v. with_value c.loop-place.place v c.loop-place.payload) value
          ∙ filled_more (slice_index (told_from t table)) c.loop-place.place c.args.payload.now c.loop-place.payload c.loop-place-test.true filled,
    )

pub returns-clause-fit : goal.returns-clause-fit
returns-clause-fit c = λ index h. told_fits c.args.turn.now c.args.table.now index (λ i. omega (arith, c.type_inv.table i))
