-- How a line is cut into words: the next word comes off the front.
use Rattle.std.proofs.Common.{◌≡◌, ◌∙◌, refl, sym, ap, subst, ℕ, ◌<◌, ◌≤◌, true, false, List, [], ◌∷◌, ◌++◌, length, get_or, take, drop, Some, None, Option, Result, Ok, Err, ℤ, to_z, of_z, to_z-of_z, pos, negsuc, rules, w64, ◌^◌, MatchOption, IfSome, ⊎_elim, ◌⊎◌, arith, tests, Bor}
use Rattle.std.proofs.lemmas.List.{get_or-append-add}
use lib.ListN.{length-append, get_or-append}
use lib.Seq.{take_at, drop_at}
use borrow.Author.Tests.{both_ways}
use Rattle.std.proofs.lemmas.Bool.{cases_lt}
use Rattle.std.proofs.lemmas.Str.{NoCharPasses-byte, char_from_byte}
use Rattle.std.proofs.lemmas.List.Elements.{All-from_recursion}
use Rattle.std.specs.declared.str.SplitWhitespace.{SplitWhitespace}
use Rattle.std.specs.Char.{IsAsciiWhitespace, is_whitespace, is_not_whitespace}
use Rattle.std.specs.Int.{IsInRange}
use Rattle.std.specs.List.{AllByRecursion}
use Rattle.std.specs.Fmt.{decimal, signed_decimal}
use Rattle.std.specs.Str.Parse.{ParsesUnsigned, ParsesSigned}
use Rattle.std.specs.Int.RustNames.{FitsSigned}
use Rattle.std.proofs.lemmas.Fmt.{parse-decimal, parse-signed_decimal}
use lib.Signed.{mag}
use Rattle.std.specs.Option.{option_eq}
use Rattle.std.proofs.lemmas.Slice.Eq.{bytes_eq-Decides}
use Rattle.std.specs.Str.{bytes_eq, NoCharPasses, EmptyOrStartsWithPassing}
use Rattle.std.specs.Str.Iter.{split_whitespace_rest, split_whitespace_steps}
use Rattle.script.specs.Words.{IsWord, EndsWord, HasWords}

every_at : (P : ℕ → Type 0) (xs : List ℕ) (i d : ℕ) → i < length xs → AllByRecursion P xs → P (get_or xs i d)
every_at P xs i d h all = All-from_recursion P xs all i d h

white_is : (c : ℕ) → IsAsciiWhitespace c → (is_whitespace c ≡ true) × (is_not_whitespace c ≡ false) × (c < 128)
white_is c h = (grind (arith, tests), grind (arith, tests), omega arith)

graphic_is : (c : ℕ) → IsInRange 33 126 c → (is_whitespace c ≡ false) × (is_not_whitespace c ≡ true) × (c < 128)
graphic_is c h = (grind (arith, tests), grind (arith, tests), omega arith)

ends_at : (rest : List ℕ) → EndsWord rest → 0 < length rest → IsAsciiWhitespace (get_or rest 0 0)
ends_at [] e h = absurd (omega arith)
ends_at (c ∷ cs) e h = e

order : (m n : ℕ) → (m < n) ⊎ (n ≤ m)
order m n = cases_lt m n

-- neither of two numbers is below the other
same_number : (m n : ℕ) → (m < n → ⊥) → (n < m → ⊥) → m ≡ n
same_number m n a b = ⊎_elim (λ l. absurd (a l)) (λ l. ⊎_elim (λ k. absurd (b k)) (λ k. omega arith) (order n m)) (order m n)

at_front : (a b : List ℕ) (i : ℕ) → i < length a → get_or (a ++ b) i 0 ≡ get_or a i 0
at_front a b i h = get_or-append a b 0 i h

at_seam : (a b : List ℕ) → get_or (a ++ b) (length a) 0 ≡ get_or b 0 0
at_seam a b = ap (λ i. get_or (a ++ b) i 0) (omega arith) ∙ get_or-append-add a b 0 0

parted : (a b c d : List ℕ) → a ++ b ≡ c ++ d → length a ≡ length c → (a ≡ c) × (b ≡ d)
parted a b c d e l = (
  sym (take_at a b (length a) refl) ∙ ap (take (length a)) e ∙ take_at c d (length a) (sym l),
  sym (drop_at a b (length a) refl) ∙ ap (drop (length a)) e ∙ drop_at c d (length a) (sym l),
)

-- white space before a word ends where the word begins
gaps : (g x t g2 w : List ℕ) → g ++ (x ++ t) ≡ g2 ++ w → 0 < length x → NoCharPasses is_not_whitespace g → NoCharPasses is_whitespace x → AllByRecursion IsAsciiWhitespace g2 → 0 < length w → IsInRange 33 126 (get_or w 0 0) → length g ≡ length g2
gaps g x t g2 w e long none first all some graphic = same_number _ _
    (λ l.
    let here : get_or x 0 0 ≡ get_or g2 (length g) 0 = sym (at_front x t 0 long) ∙ sym (at_seam g (x ++ t)) ∙ ap (λ l. get_or l (length g) 0) e ∙ at_front g2 w (length g) l in
    let k = white_is _ (every_at IsAsciiWhitespace g2 (length g) 0 l all) in
    both_ways _ (NoCharPasses-byte is_whitespace x 0 first long (subst (λ c. c < 128) (sym here) k.2)) (ap is_whitespace here ∙ k.0))
    (λ l.
    let here : get_or g (length g2) 0 ≡ get_or w 0 0 = sym (at_front g (x ++ t) (length g2) l) ∙ ap (λ l. get_or l (length g2) 0) e ∙ at_seam g2 w in
    let k = graphic_is _ graphic in
    both_ways _ (NoCharPasses-byte is_not_whitespace g (length g2) none l (subst (λ c. c < 128) (sym here) k.2)) (ap is_not_whitespace here ∙ k.1))

-- a word ends where white space begins
word_ends : (x t w rest more : List ℕ) → x ++ t ≡ w ++ rest → NoCharPasses is_whitespace x → EmptyOrStartsWithPassing is_whitespace t more → IsWord w → EndsWord rest → length x ≡ length w
word_ends x t w rest more e none opens word ends = same_number _ _
    (λ l.
    let here : get_or t 0 0 ≡ get_or w (length x) 0 = sym (at_seam x t) ∙ ap (λ s. get_or s (length x) 0) e ∙ at_front w rest (length x) l in
    let k = graphic_is _ (every_at (IsInRange 33 126) w (length x) 0 l word.1) in
    let some : 0 < length t = omega (arith, ap length e, length-append x t, length-append w rest) in
    let o = opens some in
    let is : o.0 ≡ get_or t 0 0 = char_from_byte t more o.0 o.2 (subst (λ c. c < 128) (sym here) k.2) some in
    both_ways _ k.0 (ap is_whitespace (sym here) ∙ ap is_whitespace (sym is) ∙ o.1))
    (λ l.
    let here : get_or x (length w) 0 ≡ get_or rest 0 0 = sym (at_front x t (length w) l) ∙ ap (λ s. get_or s (length w) 0) e ∙ at_seam w rest in
    let some : 0 < length rest = omega (arith, ap length e, length-append x t, length-append w rest) in
    let k = white_is _ (ends_at rest ends some) in
    both_ways _ (NoCharPasses-byte is_whitespace x (length w) none l (subst (λ c. c < 128) (sym here) k.2)) (ap is_whitespace here ∙ k.0))

-- the next word is the first one, and the others are left
pub next_word : (s : SplitWhitespace) (r : Option (Bor (List ℕ))) (t : SplitWhitespace) (word : List ℕ) (words : List (List ℕ)) → split_whitespace_steps s r t →
    HasWords (split_whitespace_rest s) (word ∷ words) → MatchOption r ⊥ (λ x. (x.now ≡ word) × HasWords (split_whitespace_rest t) words)
next_word s None t word words k h =
    let gap = h.0 in
    let rest = h.1 in
    let text = split_whitespace_rest s in
    let here : get_or text (length gap) 0 ≡ get_or word 0 0 = ap (λ l. get_or l (length gap) 0) h.2 ∙ at_seam gap (word ++ rest) ∙ at_front word rest 0 h.4.0 in
    let k2 = graphic_is _ (every_at (IsInRange 33 126) word 0 0 h.4.0 h.4.1) in
    let inside : length gap < length text = omega (arith, ap length h.2, length-append gap (word ++ rest), length-append word rest, h.4.0) in
    both_ways _ (NoCharPasses-byte is_not_whitespace text (length gap) k.1 inside (subst (λ c. c < 128) (sym here) k2.2)) (ap is_not_whitespace here ∙ k2.1)
next_word s (Some x) t word words k h =
    let e : k.0 ++ (x.now ++ split_whitespace_rest t) ≡ h.0 ++ (word ++ h.1) = sym k.1 ∙ h.2 in
    let first : IsInRange 33 126 (get_or (word ++ h.1) 0 0) = subst (IsInRange 33 126) (sym (at_front word h.1 0 h.4.0)) (every_at (IsInRange 33 126) word 0 0 h.4.0 h.4.1) in
    let some : 0 < length (word ++ h.1) = omega (arith, length-append word h.1, h.4.0) in
    let p = parted k.0 _ h.0 _ e (gaps k.0 x.now (split_whitespace_rest t) h.0 (word ++ h.1) e k.2 k.3 k.4 h.3 some first) in
    let q = parted x.now _ word _ p.1 (word_ends x.now (split_whitespace_rest t) word h.1 k.5.0 p.1 k.4 k.5.1 h.4 h.5) in
    (q.0, subst (λ l. HasWords l words) (sym q.1) h.6)

-- there is no next word where there are none
pub next_none : (s : SplitWhitespace) (r : Option (Bor (List ℕ))) (t : SplitWhitespace) → split_whitespace_steps s r t → HasWords (split_whitespace_rest s) [] → r ≡ None
next_none s None t k h = refl
next_none s (Some x) t k h =
    let text = split_whitespace_rest s in
    let inside : length k.0 < length text = omega (arith, ap length k.1, length-append k.0 (x.now ++ split_whitespace_rest t), length-append x.now (split_whitespace_rest t), k.2) in
    let here : get_or text (length k.0) 0 ≡ get_or x.now 0 0 = ap (λ l. get_or l (length k.0) 0) k.1 ∙ at_seam k.0 (x.now ++ split_whitespace_rest t) ∙ at_front x.now (split_whitespace_rest t) 0 k.2 in
    let w = white_is _ (every_at IsAsciiWhitespace text (length k.0) 0 inside h) in
    absurd (both_ways _ (NoCharPasses-byte is_whitespace x.now 0 k.4 k.2 (subst (λ c. c < 128) here w.2)) (ap is_whitespace (sym here) ∙ w.0))

-- what came off is the word, as `==` finds it
pub found : (r : Option (Bor (List ℕ))) (word : List ℕ) (H : Type 0) → MatchOption r ⊥ (λ x. (x.now ≡ word) × H) → (x : Bor (List ℕ)) × (r ≡ Some x) × (x.now ≡ word) × H
found None word H k = absurd k
found (Some x) word H k = (x, refl, k.0, k.1)

same_text : (a b : List ℕ) → a ≡ b → bytes_eq a b ≡ true
same_text a b e = (bytes_eq-Decides a b).1 e

pub found_is : (r : Option (Bor (List ℕ))) (word : Bor (List ℕ)) (H : Type 0) → MatchOption r ⊥ (λ x. (x.now ≡ word.now) × H) → option_eq (λ x y. bytes_eq x.now y.now) r (Some word) ≡ true
found_is None word H k = absurd k
found_is (Some x) word H k = same_text x.now word.now k.0

pub of_some : {X : Type 0} (r : Option X) (P : X → Type 0) (x : X) → r ≡ Some x → IfSome r P → P x
of_some r P x e h = subst (λ r. IfSome r P) e h

pub not_both : {T E : Type 0} (r : Result T E) (x : T) (e : E) → r ≡ Err e → r ≡ Ok x → ⊥
not_both r x e a b = cc

-- a number's digits are read as that number only
pub u64 : {E : Type 0} (n : ℕ) (r : Result ℕ E) → n < 2 ^ 64 → ParsesUnsigned 64 10 (decimal n) r → r ≡ Ok n
u64 n r h p = parse-decimal 64 n (decimal n) r h h refl p

pub u32 : {E : Type 0} (n : ℕ) (r : Result ℕ E) → n < 2 ^ 32 → ParsesUnsigned 32 10 (decimal n) r → r ≡ Ok n
u32 n r h p = parse-decimal 32 n (decimal n) r h (omega arith) refl p

mag_fits : (n : ℤ) → FitsSigned w64 n → mag n < 2 ^ 63
mag_fits (pos n) h = search (rules, h)
mag_fits (negsuc n) h = search (rules, h)

pub i64 : {E : Type 0} (n : ℤ) (r : Result ℤ E) → FitsSigned w64 n → ParsesSigned w64 10 (signed_decimal n) r → r ≡ Ok n
i64 n r h p = parse-signed_decimal w64 n (signed_decimal n) r h (mag_fits n h) refl p

-- what was read is what stands there
pub is_same : {T E : Type 0} (r : Result T E) (x y : T) → r ≡ Ok x → r ≡ Ok y → x ≡ y
is_same r x y a b = cc

pub same_signed : (x y : ℤ) → FitsSigned w64 y → x ≡ y → to_z w64 (of_z w64 x) ≡ y
same_signed x y fits e = ap (λ z. to_z w64 (of_z w64 z)) e ∙ to_z-of_z fits

pub same_word : (r : Option (Bor (List ℕ))) (x y : Bor (List ℕ)) (word : List ℕ) → r ≡ Some x → r ≡ Some y → y.now ≡ word → x.now ≡ word
same_word r x y word a b e = let same : x ≡ y = cc in ap (λ b. b.now) same ∙ e

pub not_none : {X : Type 0} (r : Option X) (x : X) → r ≡ None → r ≡ Some x → ⊥
not_none r x a b = cc
