-- Rounds as they are asked for exist, whatever the faulty nodes say: the good clocks show common time, and read each other as that. Assumes
-- nothing.
use borrow.Author.Differences.{ints}
use Rattle.std.proofs.Common.{◌≡◌, ℕ, suc, ◌<◌, ◌≤◌, min, Bool, true, cond, List, ℤ, pos, Some, Option, sym, refl, ◌∙◌, inl, inr, arith}
use Rattle.std.proofs.lemmas.Bool.{cases_Bool}
use Rattle.std.proofs.lemmas.Bool.Decides.{nat_tests}
use Rattle.midpoint.specs.Midpoint.{midpoint}
use Rattle.midpoint.specs.Setting.{clock_limit}
use Rattle.clock.specs.Setting.{readings, reads}
use Rattle.clock.specs.Rounds.{Moment, FewBad, Round}
use Rattle.clock.specs.Theorems.{IsSigned, LieFits, Possible, CanBeRun}
use Rattle.clock.specs.declared.limits.Clock.{Clock}
use Rattle.clock.specs.declared.limits.Cluster.{Cluster}
use Rattle.clock.proofs.Heard.{as_heard, heard_of, is_handed, lie_signed, lie_read}
use Rattle.clock.proofs.Nodes.{midpoint_within}
use Rattle.clock.proofs.Rounds.{not_turned_away}

-- a clock that shows the number of its round, up to a number that is not reached
abbrev last : ℕ
last = 500000000000

abbrev clock_at : ℕ → Clock
clock_at j = record { shown = min j last; round = j; below = grind arith }

abbrev moment_at : ℕ → ℕ → Moment
moment_at j p = record { common = j; clock = clock_at j }

module _ (c : Cluster) (good : ℕ → Bool) (lies : ℕ → ℕ → ℕ → Option ℤ) (few : FewBad c good) (fits : (j p q : ℕ) → LieFits (lies j p q)) where
  -- good nodes are heard when they are due
  abbrev hears : ℕ → ℕ → ℕ → Option ℤ
  hears j p q = cond (good q) (Some (pos 0)) (lies j p q)

  abbrev all_heard : ℕ → ℕ → List (Option ℤ)
  all_heard j p = as_heard c.nodes (hears j p)

  fits_all : (j p q : ℕ) → IsSigned (hears j p q)
  fits_all j p q =
      elim (cases_Bool (good q)) [
        | inl g ↦ rw g (omega (arith, ints), omega (arith, ints))
        | inr b ↦ rw b (lie_signed (lies j p q) (fits j p q))
      ]

  reads_good : (own j p q : ℕ) → own ≤ last → q < c.nodes → good q ≡ true → reads p own (all_heard j p) q ≡ own
  reads_good own j p q l h g = let e = heard_of c.nodes c.most (hears j p) q h in rw (e, g) (grind (arith, nat_tests))

  reads_below : (own j p q : ℕ) → own ≤ last → q < c.nodes → reads p own (all_heard j p) q < clock_limit
  reads_below own j p q l h =
      let e = heard_of c.nodes c.most (hears j p) q h in
      elim (cases_Bool (good q)) [
        | inl g ↦ omega (arith, reads_good own j p q l h g)
        | inr b ↦ let f = lie_read own (lies j p q) (fits j p q) in rw (e, b) (grind (arith, nat_tests))
      ]

  sets_to : (own j p : ℕ) → own ≤ last → midpoint c.faults (readings c.nodes p own (all_heard j p)) ≡ own
  unfolding readings
  sets_to own j p l =
      let (low, high) =
      midpoint_within c good (reads p own (all_heard j p)) own own few (λ q h g. let e = reads_good own j p q l h g in (omega arith, omega arith)) in
      omega arith

  one_round : (j : ℕ) → j < last → Round c good (all_heard j) (moment_at j) (moment_at (suc j))
  unfolding readings
  one_round j h =
      let own = min j last in
      let l : own ≤ last = grind arith in
      record {
        fair = λ p q gp gq d. let e = reads_good own j p q l gq.0 gq.1 in (omega (arith, ints), omega (arith, ints));
        taken = λ p q g k. reads_below own j p q l k;
        set = λ p. record { shown = own; round = suc j; below = grind arith };
        sets = λ p g. record {
          its_shown = let u = not_turned_away c (reads p own (all_heard j p)) (λ q k. reads_below own j p q l k) in rw u (sym (sets_to own j p l));
          its_round = grind arith;
        };
        runs = λ p g. (omega (arith, ints), omega (arith, ints));
        counts = λ p g. refl;
      }

  possible : (k : ℕ) → k < last → Possible c good lies k
  possible k h = record {
    heard = all_heard;
    moments = moment_at;
    together = λ p q gp gq. omega (arith, ints);
    rounds = λ j l. one_round j (omega arith);
    handed = λ j p. is_handed c.nodes c.most (hears j p) (λ q l. fits_all j p q);
    lied = λ j p q l b. heard_of c.nodes c.most (hears j p) q l ∙ rw b;
  }

pub can_be_run : CanBeRun
can_be_run c good lies k few fits h = possible c good lies few fits k h
