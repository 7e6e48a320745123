-- The only message of several: what is known of those seen so far.
use Rattle.std.proofs.Common.{◌≡◌, ◌∙◌, ap, sym, ◌<◌, ℕ, ◌+◌, List, [], ◌∷◌, ◌++◌, Bool, true, cond, Some, None, Option, length, take, drop, get_or, Bor}
use Rattle.std.specs.List.{filter}
use Rattle.std.specs.Option.{is_some}
use Rattle.std.proofs.lemmas.List.{take-append-drop}
use Rattle.std.proofs.lemmas.List.Elements.{filter_more, filter-append}
use Rattle.script.specs.Rounds.{only}

-- those seen so far: none, or one
abbrev pub seen : {X : Type 0} → Option (Bor X) → List X
seen None = []
seen (Some x) = x.now ∷ []

pub with_one_more : {X : Type 0} (p : X → Bool) (xs : List X) (i : ℕ) (x : X) → i < length xs → p x ≡ true → x ≡ get_or xs i x →
    filter p (take (i + 1) xs) ≡ filter p (take i xs) ++ x ∷ []
with_one_more p xs i x h is here =
    filter_more p xs i x h ∙ ap (λ y. filter p (take i xs) ++ cond (p y) (y ∷ []) []) (sym here)
    ∙ ap (λ b. filter p (take i xs) ++ cond b (x ∷ []) []) is

pub of_two : {X : Type 0} (p : X → Bool) (xs : List X) (i : ℕ) (a b : X) → filter p (take i xs) ≡ a ∷ b ∷ [] → only (filter p xs) ≡ None
of_two p xs i a b h =
    ap (λ l. only (filter p l)) (sym (take-append-drop i xs)) ∙ ap only (filter-append p (take i xs) (drop i xs))
    ∙ ap (λ l. only (l ++ filter p (drop i xs))) h

-- a second one is found
pub of_another : {X : Type 0} (p : X → Bool) (xs : List X) (i : ℕ) (x : X) (found : Option (Bor X)) → i < length xs → p x ≡ true → x ≡ get_or xs i x →
    filter p (take i xs) ≡ seen found → is_some found ≡ true → only (filter p xs) ≡ None
of_another p xs i x None h is here so_far some = absurd (cc)
of_another p xs i x (Some y) h is here so_far some =
    of_two p xs (i + 1) y.now x (with_one_more p xs i x h is here ∙ ap (λ l. l ++ x ∷ []) so_far)
