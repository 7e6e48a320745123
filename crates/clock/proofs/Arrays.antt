-- An array that `from_fn` or `map` makes by a closure that no call changes. Assumes nothing.
use Rattle.std.proofs.Common.{◌≡◌, ℕ, zero, suc, ◌+◌, ◌<◌, ◌≤◌, List, map, length, get_or, sym, ap, subst, ◌∙◌, inl, inr, arith}
use denote.Param.Members.{Mut, Called}
use Rattle.std.specs.Array.{IsFromFnResultFrom, IsFromFnResult, MapsFrom, IsMapOf}
use Rattle.std.specs.List.{range_with_len}
use Rattle.std.proofs.lemmas.Bool.{cases_eq}
use Rattle.std.proofs.lemmas.List.{same_lists, get_or-map, length-map, map-id}
use Rattle.std.proofs.lemmas.List.FromFn.{fill_by_all, length-map-range_with_len, get_or-map-range_with_len}

-- what each of n steps from i on gives
each_of : (R : ℕ → ℕ → Type 0) (P : ℕ → Type 0) → ((i n : ℕ) → R i (suc n) → P i × R (i + 1) n) → (n i : ℕ) → R i n → (k : ℕ) → i ≤ k → k < i + n → P k
each_of R P step zero i r k l u = absurd (omega arith)
each_of R P step (suc n) i r k l u =
    let (here, rest) = step i n r in
    elim (cases_eq i k) [ inl e ↦ subst P e here | inr d ↦ each_of R P step n (i + 1) rest k (omega arith) (omega arith) ]

-- what is seen of each element is h of its index
pub seen_from_fn : {F X Y : Type 0} (g : Mut F (ℕ × Unit {0}) X) (s : X → Y) (h : ℕ → Y) (f : F) →
    ((i : ℕ) (x : X) (f' : F) → Called g f (i, tt) x f' → (s x ≡ h i) × (f' ≡ f)) →
    (xs : List X) (n : ℕ) → IsFromFnResult g f xs n → map s xs ≡ map h (range_with_len 0 n)
seen_from_fn {F} {X} g s h f call xs n made =
    let each =
    each_of (IsFromFnResultFrom g f xs) (λ k. (x : X) × (get_or xs k x ≡ x) × (s x ≡ h k))
    (λ i m r.
    let (f', x, at, called, rest) = r in
    let (gives, stays) = call i x f' called in
    ((x, at.0, gives), rw stays at rest))
    n 0 made.each in
    fill_by_all h (map s xs) n (h 0) (length-map xs s ∙ made.long)
    (λ k l. let (x, at, e) = each k (omega arith) (omega arith) in get_or-map s xs k x (h 0) (omega (arith, made.long)) ∙ ap s at ∙ e)

-- each element is h of its index
pub from_fn_gives : {F X : Type 0} (g : Mut F (ℕ × Unit {0}) X) (h : ℕ → X) (f : F) → ((i : ℕ) (x : X) (f' : F) → Called g f (i, tt) x f' → (x ≡ h i) × (f' ≡ f)) →
    (xs : List X) (n : ℕ) → IsFromFnResult g f xs n → xs ≡ map h (range_with_len 0 n)
from_fn_gives g h f call xs n made = sym (map-id xs) ∙ seen_from_fn g (λ x. x) h f call xs n made

-- each element is h of the one at its place
pub map_gives : {F A B : Type 0} (g : Mut F (A × Unit {0}) B) (h : A → B) (f : F) → ((x : A) (y : B) (f' : F) → Called g f (x, tt) y f' → (y ≡ h x) × (f' ≡ f)) →
    (xs : List A) (ys : List B) (n : ℕ) → length xs ≡ n → IsMapOf g f xs ys n → ys ≡ map h xs
map_gives {F} {A} {B} g h f call xs ys n long made =
    let each =
    each_of (MapsFrom g f xs ys) (λ k. (x : A) × (get_or xs k x ≡ x) × ((d : B) → get_or ys k d ≡ h x))
    (λ i m r.
    let (f', x, y, from, to, called, rest) = r in
    let (gives, stays) = call x y f' called in
    ((x, from.0, λ d. to.1 d ∙ gives), rw stays at rest))
    n 0 made.each in
    same_lists ys (map h xs) (made.long ∙ sym (length-map xs h ∙ long))
    (λ k d l. let (x, at, e) = each k (omega arith) (omega (arith, made.long)) in e d ∙ sym (get_or-map h xs k x d (omega (arith, made.long)) ∙ ap h at))

-- what is the same at each of the first n places
pub same_places : {X : Type 0} (h k : ℕ → X) (n : ℕ) → ((i : ℕ) → i < n → h i ≡ k i) → map h (range_with_len 0 n) ≡ map k (range_with_len 0 n)
same_places h k n same =
    fill_by_all k (map h (range_with_len 0 n)) n (h 0) (length-map-range_with_len h 0 n)
    (λ i l. get_or-map-range_with_len h 0 n i i (h 0) l (omega arith) ∙ same i l)
