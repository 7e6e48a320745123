-- One value more, of a list out of which values are struck in pairs. Assumes nothing.
use Rattle.std.proofs.Common.{◌≡◌, ℕ, ◌+◌, ◌-◌, ◌*◌, ◌≤◌, ◌<◌, cond, ◌==◌, List, [], ◌∷◌, length, inl, inr, sym, refl, ◌∙◌, arith}
use Rattle.std.specs.List.{push}
use Rattle.std.proofs.lemmas.Bool.{cases_eq, eq-eqb, ne_eqb}
use Rattle.std.proofs.lemmas.List.{length_push}
use Rattle.midpoint.specs.Order.{count}
use Rattle.agreement.specs.Majority.{times}
use Rattle.agreement.specs.Pairs.{IsLeftOf}
use Rattle.agreement.specs.declared.most.Left.{Left}

times-push : (value x : ℕ) (values : List ℕ) → times value (push values x) ≡ times value values + cond (x == value) 1 0
unfolding count
times-push value x [] = omega arith
times-push value x (y ∷ values) = omega (arith, times-push value x values)

times-same : (value : ℕ) (values : List ℕ) → times value (push values value) ≡ times value values + 1
times-same value values = let more = times-push value value values in rw (eq-eqb value value refl) at more

times-other : (value x : ℕ) (values : List ℕ) → (x ≡ value → ⊥) → times value (push values x) ≡ times value values
times-other value x values differs =
    let more = times-push value x values in
    let none : times value (push values x) ≡ times value values + 0 = rw (ne_eqb x value differs) at more in
    omega (arith, none)

-- no value is more than half where none is left over
at_most_half : (values : List ℕ) (left : Left) → left.times ≡ 0 → IsLeftOf values left → (value : ℕ) → 2 * times value values ≤ length values
at_most_half values left none is value =
    elim (cases_eq value left.value) [
      | inl same ↦ rw same (omega (arith, is.this, none))
      | inr differs ↦ omega (arith, is.another value differs, none)
    ]

-- the first value that is left over
pub first : (values : List ℕ) (left : Left) (value : ℕ) → left.times ≡ 0 → IsLeftOf values left → IsLeftOf (push values value) (record { value = value; times = 1 })
first values left value none is =
    let half = at_most_half values left none is in
    let long = length_push values value in record {
      no_more = omega (arith, long);
      this = omega (arith, long, times-same value values, half value);
      another = λ other differs. omega (arith, long, times-other other value values (λ same. differs (sym same)), half other);
    }

-- one more of it
pub same : (values : List ℕ) (left : Left) (value : ℕ) → value ≡ left.value → IsLeftOf values left →
    IsLeftOf (push values value) (record { value = value; times = left.times + 1 })
same values left value equal is =
    let long = length_push values value in
    let this : 2 * times value values ≤ length values + left.times = rw equal is.this in record {
      no_more = omega (arith, long, is.no_more);
      this = omega (arith, long, times-same value values, this);
      another = λ other differs.
          omega (arith, long, times-other other value values (λ same. differs (sym same)), is.another other (λ same. differs (same ∙ sym equal)));
    }

-- and one that is struck out with another value
pub struck : (values : List ℕ) (left : Left) (value : ℕ) → 0 < left.times → (value ≡ left.value → ⊥) → IsLeftOf values left →
    IsLeftOf (push values value) (record { value = left.value; times = left.times - 1 })
struck values left value some differs is =
    let long = length_push values value in record {
      no_more = omega (arith, long, is.no_more);
      this = omega (arith, long, times-other left.value value values differs, is.this, some);
      another = λ other apart.
          elim (cases_eq other value) [
            | inl equal ↦ rw equal (omega (arith, long, times-same value values, is.another value differs, some))
            | inr unlike ↦ omega (arith, long, times-other other value values (λ same. unlike (sym same)), is.another other apart, some)
          ];
    }

-- of no values none is left
pub nothing : IsLeftOf [] (record { value = 0; times = 0 })
unfolding count
nothing = record { no_more = omega arith; this = omega arith; another = λ value differs. omega arith }
