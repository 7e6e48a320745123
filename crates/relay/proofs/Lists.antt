-- Lists that are gone through an element at a time. Assumes nothing.
use Rattle.std.proofs.Common.{◌≡◌, ℕ, suc, ◌+◌, ◌≤◌, ◌<◌, List, [], ◌∷◌, ◌++◌, length, map, drop, slice_index, inl, inr, sym, refl, ap, ◌∙◌, arith}
use Rattle.std.specs.List.{range_with_len}
use Rattle.std.proofs.lemmas.Bool.{cases_lt}
use Rattle.std.proofs.lemmas.List.{drop_more, drop_all, drop_at, append_assoc, length-append, length-drop}
use Rattle.std.proofs.lemmas.List.FromFn.{fill_by_all}

-- what is left of a list begins with the element at this place, and what is left then
pub record Next (xs : List ℕ) (place x : ℕ) (rest : List ℕ) : Type 0 where
  pub within : place < length xs
  pub here : x ≡ slice_index xs place
  pub behind : rest ≡ drop (place + 1) xs

pub next_of : (xs : List ℕ) (place x : ℕ) (rest : List ℕ) → drop place xs ≡ x ∷ rest → Next xs place x rest
next_of xs place x rest is =
    elim (cases_lt place (length xs)) [
      | inl h ↦
          let both : slice_index xs place ∷ drop (place + 1) xs ≡ x ∷ rest = sym (drop_more xs place 0 h) ∙ is in
          record {
            within = h;
            here = sym (ap (λ list. slice_index list 0) both);
            behind = sym (ap (λ list. drop 1 list) both);
          }
      | inr h ↦ let none : [] ≡ x ∷ rest = sym (drop_all place xs h) ∙ is in let long : 0 ≡ suc (length rest) = ap length none in absurd (omega (arith, long))
    ]

pub none_left : (xs : List ℕ) (place : ℕ) → drop place xs ≡ [] → length xs ≤ place
none_left xs place is = let long : length (drop place xs) ≡ 0 = ap length is in omega (arith, long, length-drop place xs)

-- a list by its elements
pub list_by_index : (xs : List ℕ) → xs ≡ map (slice_index xs) (range_with_len 0 (length xs))
list_by_index xs = fill_by_all (slice_index xs) xs (length xs) 0 refl (λ k h. refl)

-- what was gone through so far, and what is left, make the whole
pub record Yields (all yielded : List ℕ) (x : ℕ) (rest : List ℕ) : Type 0 where
  pub within : length yielded < length all
  pub here : x ≡ slice_index all (length yielded)
  pub behind : (yielded ++ x ∷ []) ++ rest ≡ all
  pub longer : length (yielded ++ x ∷ []) ≡ length yielded + 1

pub yields : (all yielded before rest : List ℕ) (x : ℕ) → yielded ++ before ≡ all → before ≡ x ∷ rest → Yields all yielded x rest
yields all yielded before rest x whole is =
    let joined : yielded ++ x ∷ rest ≡ all = ap (λ t. yielded ++ t) (sym is) ∙ whole in
    let start : drop (length yielded) (yielded ++ x ∷ rest) ≡ x ∷ rest = drop_at yielded (x ∷ rest) (length yielded) refl in
    let next = next_of (yielded ++ x ∷ rest) (length yielded) x rest start in
    record {
      within = omega (arith, next.within, ap length joined);
      here = next.here ∙ ap (λ list. slice_index list (length yielded)) joined;
      behind = append_assoc yielded (x ∷ []) rest ∙ joined;
      longer = length-append yielded (x ∷ []);
    }
