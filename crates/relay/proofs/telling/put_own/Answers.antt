use Rattle.std.proofs.Common.{◌≡◌, ◌∙◌, length, slice_index, sym, ap, refl, arith}
use Rattle.relay.specs.Indices.{indices_left}
use Rattle.relay.specs.Telling.{told_from}
use Rattle.relay.proofs.Entering.{reached, entered_next, entered_all, all_yielded, told_by_index, told_at_index}
use Rattle.relay.proofs.telling.put_own.Goals as goal

pub put-requires : goal.put-requires
put-requires c =
    let (whole, entered) = c.loop-index.invariant in
    let r = reached c.args.turn.now c.loop-index.yielded (indices_left c.loop-index.index-iterator) (indices_left c.next.new.self) c.in-Some.index whole c.in-Some.ensures.steps in
    omega (arith, r.entry_within c.requires.known, c.requires.fits, entered.same_length)

pub loop-index-preserved : goal.loop-index-preserved
loop-index-preserved c =
    let (whole, entered) = c.loop-index.invariant in
    let r = reached c.args.turn.now c.loop-index.yielded (indices_left c.loop-index.index-iterator) (indices_left c.next.new.self) c.in-Some.index whole c.in-Some.ensures.steps in
    let t = c.args.turn.now in
    let table = c.args.read.now in
    let value : c.held_at.result ≡ slice_index (told_from t table) (length c.loop-index.yielded) =
    c.held_at.ensures ∙ ap (slice_index table) r.yields.here ∙ sym (told_at_index t table (length c.loop-index.yielded) r.yields.within) in (
      r.yields.behind,
      rw c.put.ensures (entered_next t (slice_index (told_from t table)) c.loop-index.yielded c.in-Some.index (indices_left c.next.new.self) c.args.written.now c.loop-index.written
          _ c.held_at.result c.requires.known c.requires.fits r refl value entered),
    )

pub returns : goal.returns
returns c =
    let t = c.args.turn.now in
    let (whole, entered) = c.loop-index.invariant in
    entered_all t (slice_index (told_from t c.args.read.now)) (told_from t c.args.read.now) (length c.loop-index.yielded) c.args.written.now c.loop-index.written
    (all_yielded t c.loop-index.yielded (indices_left c.loop-index.index-iterator) whole c.in-None.ensures.steps.0) (told_by_index t c.args.read.now) entered
