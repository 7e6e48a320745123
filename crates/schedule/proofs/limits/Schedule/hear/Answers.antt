use Rattle.std.proofs.Common.{subst, ◌∙◌, rules}
use Rattle.std.proofs.lemmas.Fn.{fold_over, slice_gives, fronts}
use Rattle.schedule.specs.Listening.{Tells, no_more}
use Rattle.schedule.proofs.Arrivals.{hears_all, tells_push}
use Rattle.schedule.proofs.limits.Schedule.hear.Goals as goal

pub returns : goal.returns
returns g c =
    let told : Tells c.new.result c.args.arrivals.now c.fold-told.result =
    subst (λ xs. Tells c.new.result xs c.fold-told.result) c.iter.ensures.rest
    (fold_over fronts (λ y. y.now) _ (λ ys l. Tells c.new.result ys l) _ (λ ys l a l' f' j k. (tells_push _ _ _ _ _ j (search rules), search rules))
    _ _ _ _ (slice_gives c.iter.result) (no_more _) c.fold-told.ensures.ran) in
    c.heard.ensures ∙ hears_all _ _ _ _ _ _ c.new.ensures told
