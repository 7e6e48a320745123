-- What a node hears of the nodes of a cluster, as the setting is handed it: an array of 16, with nothing past the cluster. Assumes nothing.
use borrow.Author.Differences.{ints}
use Rattle.std.proofs.Common.{◌≡◌, ℕ, ◌+◌, ◌<◌, ◌≤◌, cond, ltb, List, map, get_or, ℤ, Some, None, Option, sym, ◌∙◌, subst, inl, inr, arith}
use Rattle.std.proofs.lemmas.List.FromFn.{get_or-map-range_with_len, length-map-range_with_len}
use Rattle.std.proofs.lemmas.Bool.{cases_lt, lt-ltb, le-ltb}
use Rattle.std.specs.List.{range_with_len}
use Rattle.clock.specs.Setting.{read_of}
use Rattle.clock.specs.Theorems.{IsSigned, Handed, LieFits}

-- what is heard of each of n nodes
abbrev heard_at : ℕ → (ℕ → Option ℤ) → ℕ → Option ℤ
heard_at n hears q = cond (ltb q n) (hears q) None

abbrev pub as_heard : ℕ → (ℕ → Option ℤ) → List (Option ℤ)
as_heard n hears = map (heard_at n hears) (range_with_len 0 16)

module _ (n : ℕ) (few : n ≤ 16) (hears : ℕ → Option ℤ) where
  entry : (q : ℕ) → q < 16 → get_or (as_heard n hears) q None ≡ heard_at n hears q
  entry q h = get_or-map-range_with_len (heard_at n hears) 0 16 q q None h (omega arith)

  pub heard_of : (q : ℕ) → q < n → get_or (as_heard n hears) q None ≡ hears q
  heard_of q h = let e = lt-ltb q n h in entry q (omega arith) ∙ rw e

  pub is_handed : ((q : ℕ) → q < n → IsSigned (hears q)) → Handed (as_heard n hears)
  is_handed each = record {
    sixteen = length-map-range_with_len (heard_at n hears) 0 16;
    signed = λ q h.
        subst IsSigned (sym (entry q h))
        (elim (cases_lt q n) [ inl l ↦ let e = lt-ltb q n l in rw e (each q l) | inr l ↦ let e = le-ltb q n l in rw e tt ]);
  }

-- a lie is a number that fits, and is not read far ahead of the own clock
pub lie_signed : (lie : Option ℤ) → LieFits lie → IsSigned lie
lie_signed None f = tt
lie_signed (Some deviation) (low, high) = (low, omega (arith, ints))

pub lie_read : (own : ℕ) (lie : Option ℤ) → LieFits lie → read_of own lie < own + 400000000000
lie_read own None f = omega arith
lie_read own (Some deviation) (low, high) = grind (arith, ints)
