use Rattle.std.proofs.Common.{◌≡◌, ◌∙◌, length, slice_index, unwrap_or, ap, refl, arith}
use Rattle.std.proofs.lemmas.Option.{unwrap_or-slice_get}
use Rattle.frame.specs.Layout.{values_in}
use Rattle.relay.specs.Indices.{indices_left}
use Rattle.relay.proofs.Entering.{reached, numbers_few, entered_none, entered_next, entered_all, all_yielded}
use Rattle.relay.proofs.telling.put_heard.Goals as goal

pub loop-index-init : goal.loop-index-init
loop-index-init c = (
  ap indices_left c.into_iter-index-iterator.ensures.into_iter_gives ∙ c.of-index-items.ensures,
  refl,
  entered_none c.args.turn.now (slice_index (values_in c.args.payload.now)) c.args.written.now,
)

pub put-requires : goal.put-requires
put-requires c =
    let (whole, place, entered) = c.loop-index.invariant in
    let r = reached c.args.turn.now c.loop-index.yielded (indices_left c.loop-index.index-iterator) (indices_left c.next.new.self) c.in-Some.index whole c.in-Some.ensures.steps in
    omega (arith, r.entry_within c.requires.known, c.requires.fits, entered.same_length)

pub overflow_add-place : goal.overflow_add-place
overflow_add-place c =
    let (whole, place, entered) = c.loop-index.invariant in
    let r = reached c.args.turn.now c.loop-index.yielded (indices_left c.loop-index.index-iterator) (indices_left c.next.new.self) c.in-Some.index whole c.in-Some.ensures.steps in
    omega (arith, place, r.yields.within, numbers_few c.args.turn.now)

pub loop-index-preserved : goal.loop-index-preserved
loop-index-preserved c =
    let (whole, place, entered) = c.loop-index.invariant in
    let r = reached c.args.turn.now c.loop-index.yielded (indices_left c.loop-index.index-iterator) (indices_left c.next.new.self) c.in-Some.index whole c.in-Some.ensures.steps in
    let values = values_in c.args.payload.now in
    let value : c.unwrap_or.result ≡ slice_index values (length c.loop-index.yielded) =
    c.unwrap_or.ensures ∙ ap (λ found. unwrap_or found 0) c.value.ensures ∙ unwrap_or-slice_get values c.loop-index.place 0 ∙ ap (slice_index values) place in (
      r.yields.behind,
      omega (arith, place, r.yields.longer),
      rw c.put.ensures (entered_next c.args.turn.now (slice_index values) c.loop-index.yielded c.in-Some.index (indices_left c.next.new.self) c.args.written.now c.loop-index.written
          _ c.unwrap_or.result c.requires.known c.requires.fits r refl value entered),
    )

pub returns : goal.returns
returns c =
    let (whole, place, entered) = c.loop-index.invariant in
    entered_all c.args.turn.now (slice_index (values_in c.args.payload.now)) _ (length c.loop-index.yielded) c.args.written.now c.loop-index.written
    (all_yielded c.args.turn.now c.loop-index.yielded (indices_left c.loop-index.index-iterator) whole c.in-None.ensures.steps.0) refl entered
