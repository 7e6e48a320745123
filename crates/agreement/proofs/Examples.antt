-- The cases worked out by hand, and three nodes. Assumes nothing.
use Rattle.std.proofs.Common.{◌≡◌, [], ◌∷◌, slice_index, refl, arith}
use Rattle.midpoint.specs.Order.{insert, sorted, count}
use Rattle.agreement.specs.Majority.{majority}
use Rattle.agreement.specs.Results.{made_of_path}
use Rattle.clock.specs.Rounds.{faulty}
use Rattle.agreement.specs.Theorems.{AnythingCanBeTold, ThreeAreTooFew, WorkedCases, but}

-- what a good node tells is what it holds, and what a faulty one tells is its lie
pub anything_told : AnythingCanBeTold
anything_told n faults good value lies = record {
  tell = λ p q path of_p of_q is short. rw of_q.1 refl;
  given = λ p. refl;
  lied = λ p q path is_not. rw is_not refl;
}

one_of_three : faulty 3 (but 2) ≡ 1
unfolding count
one_of_three = refl

pub three_are_too_few : ThreeAreTooFew
unfolding made_of_path majority count
three_are_too_few = record {
  tell = (anything_told 3 1 (but 2) (slice_index (5 ∷ 6 ∷ [])) (λ p q path. slice_index (5 ∷ 9 ∷ []) p)).tell;
  one = one_of_three;
  by_0 = refl;
  by_1 = refl;
  fail = λ agrees. absurd (omega (arith, agrees.right 1 0 (omega arith, refl) (omega arith, refl)));
}

pub worked : WorkedCases
unfolding insert sorted made_of_path majority count
worked = (
  (refl, (refl, (refl, (refl, (refl, tt))))),
  ((refl, (refl, (refl, tt))), ((refl, (refl, (refl, tt))), ((refl, (refl, (refl, tt))), ((refl, (refl, (refl, tt))), tt)))),
)
