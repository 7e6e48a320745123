use Rattle.std.proofs.Common.{eqb}
use Rattle.std.proofs.lemmas.List.Sorted.{IsNonDecreasingBy-from_sort}
use Rattle.midpoint.proofs.Sorting.{sorted_is, count_shuffled}
use Rattle.midpoint.proofs.order.sort.Goals as goal

pub returns : goal.returns
returns c =
    let was = c.args.readings.now in
    let is = c.sort_unstable.new.self in
    sorted_is was is
    (λ i j le h. IsNonDecreasingBy-from_sort (λ x. x) is c.sort_unstable.ensures.sorted i j 0 le h)
    (λ x. count_shuffled (eqb x) was is c.sort_unstable.ensures.permutation)
