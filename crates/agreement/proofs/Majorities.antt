-- A value that more than half of a list have is its majority. Assumes nothing.
use Rattle.std.proofs.Common.{◌≡◌, ℕ, ◌+◌, ◌-◌, ◌*◌, ◌<◌, ◌≤◌, Bool, true, false, ◌==◌, nat_lt, List, [], ◌∷◌, length, Some, None, unwrap_or, inl, inr, sym, refl, ap, ◌∙◌, arith}
use Rattle.std.specs.List.{find}
use Rattle.std.proofs.lemmas.Bool.{cases_Bool, cases_eq, eq-eqb, ne_eqb, lt-ltb, le-ltb, ltb-true, false≢true}
use Rattle.std.proofs.lemmas.Bool.Decides.{nat_tests}
use Rattle.std.specs.List.{count_by}
use Rattle.midpoint.specs.Order.{count}
use Rattle.midpoint.proofs.Sorting.{count_is}
use Rattle.agreement.specs.Majority.{times, is_most, majority}
use Rattle.agreement.specs.Theorems.{Most}

-- two values share a list
two_share : (u v : ℕ) (values : List ℕ) → (u ≡ v → ⊥) → times u values + times v values ≤ length values
unfolding count
two_share u v [] differ = omega arith
two_share u v (x ∷ values) differ =
    let rest = two_share u v values differ in
    elim (cases_eq x u) [
      | inl same ↦
          let other : (x == v) ≡ false = ne_eqb x v (λ one. differ (sym same ∙ one)) in
          rw (eq-eqb x u same, other) (omega (arith, rest))
      | inr unlike ↦
          elim (cases_Bool (x == v)) [
            | inl here ↦ rw (ne_eqb x u unlike, here) (omega (arith, rest))
            | inr there ↦ rw (ne_eqb x u unlike, there) (omega (arith, rest))
          ]
    ]

-- so more than half of it are of one value only
pub one_most : (values : List ℕ) (u v : ℕ) → is_most values u ≡ true → is_most values v ≡ true → u ≡ v
one_most values u v most_u most_v =
    elim (cases_eq u v) [
      | inl same ↦ same
      | inr differ ↦
          let more_u = ltb-true (length values) (2 * times u values) most_u in
          let more_v = ltb-true (length values) (2 * times v values) most_v in
          absurd (omega (arith, two_share u v values differ, more_u, more_v))
    ]

-- where one value only passes a test, and stands in a list, it is found in it
found : (test : ℕ → Bool) (v : ℕ) → ((x : ℕ) → test x ≡ true → x ≡ v) → test v ≡ true → (values : List ℕ) → 0 < times v values → find test values ≡ Some v
unfolding count
found test v only passes [] some = absurd (omega (arith, some))
found test v only passes (x ∷ values) some =
    elim (cases_eq x v) [
      | inl same ↦ let here : test x ≡ true = ap test same ∙ passes in rw here (ap Some same)
      | inr unlike ↦
          let fails : test x ≡ false = elim (cases_Bool (test x)) [ inl holds ↦ absurd (unlike (only x holds)) | inr not ↦ not ] in
          let later : 0 < 0 + times v values = rw (ne_eqb x v unlike) at some in
          rw fails (found test v only passes values (omega (arith, later)))
    ]

not_found : (test : ℕ → Bool) (values : List ℕ) → ((x : ℕ) → test x ≡ false) → find test values ≡ None
not_found test [] fails = refl
not_found test (x ∷ values) fails = rw (fails x) (not_found test values fails)

pub most : (values : List ℕ) (v : ℕ) → is_most values v ≡ true → majority values ≡ v
unfolding majority
most values v is =
    let some : 0 < times v values = omega (arith, ltb-true (length values) (2 * times v values) is) in
    ap (λ one. unwrap_or one 0) (found (is_most values) v (λ x x_is. one_most values x v x_is is) is values some)

pub none : (values : List ℕ) → ((v : ℕ) → is_most values v ≡ false) → majority values ≡ 0
unfolding majority
none values not = ap (λ one. unwrap_or one 0) (not_found (is_most values) values not)

-- the only candidate is the majority, or there is none
pub majority_found : (values : List ℕ) (value : ℕ) → is_most values value ≡ true → value ≡ majority values
majority_found values value is = sym (most values value is)

pub majority_not_found : (values : List ℕ) (value : ℕ) → ((v : ℕ) → is_most values v ≡ true → v ≡ value) → is_most values value ≡ false → 0 ≡ majority values
majority_not_found values value only not =
    sym (none values (λ v.
    elim (cases_Bool (is_most values v)) [
      | inl holds ↦ absurd (false≢true (sym (ap (is_most values) (only v holds) ∙ not) ∙ holds))
      | inr fails ↦ fails
    ]))

-- more are a value than are not, or more than half are
pub counted : (values : List ℕ) (value n : ℕ) → n ≡ count_by (λ one. one == value) values → nat_lt (length values - n) n ≡ is_most values value
counted values value n is = let same = count_is (λ one. one == value) values in grind (arith, nat_tests)

pub is_majority : Most
is_majority values = record {
  most = λ value more. most values value (lt-ltb (length values) (2 * times value values) more);
  none = λ few. none values (λ value. le-ltb (length values) (2 * times value values) (few value));
}
