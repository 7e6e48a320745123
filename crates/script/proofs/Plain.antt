-- The text of an entry has its words, and no comment in it.
use Rattle.std.proofs.Common.{◌≡◌, ◌∙◌, refl, sym, ap, subst, ℕ, ◌+◌, ◌%◌, ◌<◌, ◌≤◌, ◌^◌, Bool, true, false, cond, ◌&&◌, List, [], ◌∷◌, ◌++◌, length, nat_lt, ◌==◌, not, take_all, lit<, ℤ, pos, negsuc, suc, codes, arith, tests, rules, inr, FitsSigned, w64}
use lib.ListN.{length-append}
use Rattle.std.proofs.lemmas.Fmt.{decimal_by_steps}
use Rattle.std.specs.Char.{IsAsciiWhitespace}
use Rattle.std.specs.Fmt.{decimal, signed_decimal}
use Rattle.std.specs.Int.{IsInRange}
use Rattle.std.specs.List.{AllByRecursion, position_or_len}
use Rattle.script.specs.Words.{EndsWord, HasWords, before_comment}
use Rattle.script.specs.Text.{HasNumbers, words_of, behind, spaced, text_of}
use Rattle.script.specs.declared.entry.Entry.{Entry}
use Rattle.script.specs.declared.entry.Entry.TheVariants as entry

-- a word with no `#` in it
abbrev pub IsPlain : List ℕ → Type 0
IsPlain word = (0 < length word) × AllByRecursion (IsInRange 36 126) word

-- a literal is one, by a test
abbrev pub looks_plain : List ℕ → Bool
looks_plain [] = true
looks_plain (c ∷ cs) = (nat_lt 35 c && nat_lt c 127) && looks_plain cs

each_plain : (w : List ℕ) → looks_plain w ≡ true → AllByRecursion (IsInRange 36 126) w
each_plain [] h = tt
each_plain (c ∷ cs) h = let p = both (nat_lt 35 c && nat_lt c 127) (looks_plain cs) h in let q = both (nat_lt 35 c) (nat_lt c 127) p.0 in (grind (arith, tests, q.0, q.1), each_plain cs p.1)
  where
    both : (a b : Bool) → (a && b) ≡ true → (a ≡ true) × (b ≡ true)
    both true b h = (refl, h)
    both false b h = absurd (cc)

lit : (w : List ℕ) → looks_plain w ≡ true → 0 < length w → IsPlain w
lit w h long = (long, each_plain w h)

-- so is a number
with_last : (P : ℕ → Type 0) (xs : List ℕ) (c : ℕ) → AllByRecursion P xs → P c → AllByRecursion P (xs ++ c ∷ [])
with_last P [] c all h = (h, tt)
with_last P (x ∷ xs) c all h = (all.0, with_last P xs c all.1 h)

number : (n : ℕ) → n < 2 ^ 64 → IsPlain (decimal n)
number n h = decimal_by_steps (λ _ ds. IsPlain ds)
    (λ m l. (omega arith, ((omega arith, omega arith), tt)))
    (λ m ds l k. (omega (arith, length-append ds ((48 + m % 10) ∷ [])), with_last (IsInRange 36 126) ds (48 + m % 10) k.1 (omega arith, omega arith)))
    n h

signed : (n : ℤ) → FitsSigned w64 n → IsPlain (signed_decimal n)
signed (pos n) h = number n (search (rules, h))
signed (negsuc n) h = let k = number (suc n) (search (rules, h)) in (omega arith, ((omega arith, omega arith), k.1))

pub plain : (line : Entry) → HasNumbers line → AllByRecursion IsPlain (words_of line)
plain (entry.Cluster a b c d) h = (lit (codes "cluster") refl (lit< tt), (lit (codes "nodes") refl (lit< tt), (number a h.0, (lit (codes "faults") refl (lit< tt), (number b h.1, (lit (codes "drift") refl (lit< tt), (number c h.2, (lit (codes "jitter") refl (lit< tt), (number d h.3, tt)))))))))
plain (entry.Timing a b c d) h = (lit (codes "timing") refl (lit< tt), (lit (codes "length") refl (lit< tt), (number a h.0, (lit (codes "pause") refl (lit< tt), (number b h.1, (lit (codes "message") refl (lit< tt), (number c h.2, (lit (codes "wire") refl (lit< tt), (number d h.3, tt)))))))))
plain (entry.Good a b c) h = (lit (codes "good") refl (lit< tt), (number a h.0, (lit (codes "value") refl (lit< tt), (number b (omega (arith, h.1)), (lit (codes "ahead") refl (lit< tt), (number c h.2, tt))))))
plain (entry.Bad a) h = (lit (codes "bad") refl (lit< tt), (number a h, tt))
plain entry.Round h = (lit (codes "round") refl (lit< tt), tt)
plain (entry.Says a b c d) h = absurd h
plain (entry.Jitter a b c) h = (lit (codes "jitter") refl (lit< tt), (number a h.0, (lit (codes "of") refl (lit< tt), (number b h.1, (lit (codes "by") refl (lit< tt), (signed c h.2, tt))))))
plain (entry.Drift a b) h = (lit (codes "drift") refl (lit< tt), (number a h.0, (lit (codes "by") refl (lit< tt), (signed b h.1, tt))))
plain (entry.Value a b) h = (lit (codes "value") refl (lit< tt), (number a h.0, (lit (codes "next") refl (lit< tt), (number b (omega (arith, h.1)), tt))))

-- words with a space between them are these words
white : IsAsciiWhitespace 32
white = inr (omega arith, omega arith)

ends : (ws : List (List ℕ)) → EndsWord (behind ws)
ends [] = tt
ends (w ∷ ws) = white

wider : (w : List ℕ) → AllByRecursion (IsInRange 36 126) w → AllByRecursion (IsInRange 33 126) w
wider [] h = tt
wider (c ∷ cs) h = ((omega (arith, h.0.0), h.0.1), wider cs h.1)

behind_has : (ws : List (List ℕ)) → AllByRecursion IsPlain ws → HasWords (behind ws) ws
behind_has [] h = tt
behind_has (w ∷ ws) h = (32 ∷ [], behind ws, refl, (white, tt), (h.0.0, wider w h.0.1), ends ws, behind_has ws h.1)

spaced_has : (ws : List (List ℕ)) → AllByRecursion IsPlain ws → HasWords (spaced ws) ws
spaced_has [] h = tt
spaced_has (w ∷ ws) h = ([], behind ws, refl, tt, (h.0.0, wider w h.0.1), ends ws, behind_has ws h.1)

-- and nothing of it is a comment
abbrev pub IsBefore : ℕ → Type 0
IsBefore c = (c == 35) ≡ false

joined : (P : ℕ → Type 0) (a b : List ℕ) → AllByRecursion P a → AllByRecursion P b → AllByRecursion P (a ++ b)
joined P [] b h k = k
joined P (x ∷ xs) b h k = (h.0, joined P xs b h.1 k)

before : (w : List ℕ) → AllByRecursion (IsInRange 36 126) w → AllByRecursion IsBefore w
before [] h = tt
before (c ∷ cs) h = (grind (arith, tests, h.0), before cs h.1)

behind_before : (ws : List (List ℕ)) → AllByRecursion IsPlain ws → AllByRecursion IsBefore (behind ws)
behind_before [] h = tt
behind_before (w ∷ ws) h = (refl, joined IsBefore w (behind ws) (before w h.0.1) (behind_before ws h.1))

spaced_before : (ws : List (List ℕ)) → AllByRecursion IsPlain ws → AllByRecursion IsBefore (spaced ws)
spaced_before [] h = tt
spaced_before (w ∷ ws) h = joined IsBefore w (behind ws) (before w h.0.1) (behind_before ws h.1)

no_comment : (text : List ℕ) → AllByRecursion IsBefore text → length text ≤ position_or_len (λ c. c == 35) text
no_comment [] h = omega arith
no_comment (c ∷ cs) h =
    let n : ℕ = position_or_len (λ c. c == 35) cs in
    let first : position_or_len (λ c. c == 35) (c ∷ cs) ≡ 1 + n = ap (λ b. cond (not b) (1 + n) 0) h.0 in
    omega (arith, first, no_comment cs h.1)

whole : (text : List ℕ) → AllByRecursion IsBefore text → before_comment text ≡ text
whole text h = take_all _ text (no_comment text h)

-- the text of an entry has its words
pub words_in : (text : List ℕ) (line : Entry) → HasNumbers line → text ≡ text_of line → HasWords (before_comment text) (words_of line)
words_in text line h e =
    let ws : List (List ℕ) = words_of line in
    let p = plain line h in
    let same : text_of line ≡ before_comment text = sym (whole (text_of line) (spaced_before ws p)) ∙ ap before_comment (sym e) in
    let P : List ℕ → Type 0 = λ t. HasWords t ws in
    subst P same (spaced_has ws p)
