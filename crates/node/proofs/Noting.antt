-- What a node notes for its setting in a round in which it makes each call in its turn, and the readings that it makes of it. Assumes nothing.
use Rattle.std.proofs.Common.{◌≡◌, ℕ, zero, suc, ◌<◌, ◌≤◌, cond, ◌==◌, List, length, map, get_or, slice_set, replicate, ℤ, None, Option, ◌≢◌, inl, inr, sym, refl, subst, ◌∙◌, arith}
use Rattle.std.specs.List.{range_with_len}
use Rattle.std.proofs.lemmas.Bool.{cases_Bool, cases_eq, eq-eqb, ne_eqb}
use Rattle.std.proofs.lemmas.List.{length-set, get_or-set_same, get_or-set_other}
use Rattle.std.proofs.lemmas.List.FromFn.{fill_by_all, length-map-range_with_len, get_or-map-range_with_len}
use Rattle.midpoint.specs.Setting.{most_readings}
use Rattle.clock.specs.Setting.{reads, readings}

-- what it has noted behind so many calls, of what each slot gives: nothing of its own one
abbrev pub noted : ℕ → (ℕ → Option ℤ) → ℕ → List (Option ℤ)
noted p gives zero = replicate most_readings None
noted p gives (suc q) = cond (q == p) (noted p gives q) (slice_set (noted p gives q) q (gives q))

noted_long : (p : ℕ) (gives : ℕ → Option ℤ) (calls : ℕ) → length (noted p gives calls) ≡ 16
noted_long p gives zero = refl
noted_long p gives (suc q) =
    elim (cases_Bool (q == p)) [
      | inl own ↦ rw own (noted_long p gives q)
      | inr other ↦ rw other (length-set (noted p gives q) q (gives q) ∙ noted_long p gives q)
    ]

pub noted_at : (p : ℕ) (gives : ℕ → Option ℤ) (calls q : ℕ) → q < calls → calls ≤ 16 → q ≢ p → get_or (noted p gives calls) q None ≡ gives q
noted_at p gives zero q h most differs = absurd (omega arith)
noted_at p gives (suc m) q h most differs =
    elim (cases_eq q m) [
      | inl same ↦
          let here : get_or (noted p gives (suc m)) m None ≡ gives m =
          rw (ne_eqb m p (λ e. differs (same ∙ e))) (get_or-set_same (noted p gives m) m (gives m) None (omega (arith, noted_long p gives m))) in
          subst (λ x. get_or (noted p gives (suc m)) x None ≡ gives x) (sym same) here
      | inr earlier ↦
          let before = noted_at p gives m q (omega (arith, earlier)) (omega arith) differs in
          elim (cases_Bool (m == p)) [
            | inl own ↦ rw own before
            | inr other ↦ rw other (get_or-set_other (noted p gives m) m q (gives m) None earlier ∙ before)
          ]
    ]

-- the readings are the same where what is noted of the other nodes is
reads_same : (p own : ℕ) (one two : List (Option ℤ)) (q : ℕ) → (q ≢ p → get_or one q None ≡ get_or two q None) → reads p own one q ≡ reads p own two q
reads_same p own one two q same =
    elim (cases_eq q p) [
      | inl e ↦ rw (eq-eqb q p e)
      | inr differs ↦ rw (ne_eqb q p differs, same differs)
    ]

pub readings_same : (n p own : ℕ) (one two : List (Option ℤ)) → ((q : ℕ) → q < n → q ≢ p → get_or one q None ≡ get_or two q None) →
    readings n p own one ≡ readings n p own two
unfolding readings
readings_same n p own one two same =
    let f = reads p own one in
    fill_by_all (reads p own two) (map f (range_with_len 0 n)) n 0 (length-map-range_with_len f 0 n)
    (λ k h. get_or-map-range_with_len f 0 n k k 0 h (omega arith) ∙ reads_same p own one two k (same k h))
