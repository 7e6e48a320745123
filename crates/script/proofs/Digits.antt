-- Hex digits: bytes that are written one after another, and that a byte's digits write it.
use Rattle.std.proofs.Common.{take_all, ◌≡◌, ◌≤◌, ◌-◌, length, take, drop, get_or, arith, refl, ap, sym, ◌∙◌, List, [], ◌∷◌, ◌++◌, Some, None, Option, ℕ, append_assoc}
use Rattle.script.specs.Hex.{in_front, byte_value, bytes_written}

-- what digits write behind bytes that are written already
abbrev pub behind : List ℕ → Option (List ℕ) → Option (List ℕ)
behind bytes None = None
behind bytes (Some others) = Some (bytes ++ others)

pub behind-in_front : (bytes : List ℕ) (byte : ℕ) (others : Option (List ℕ)) → behind bytes (in_front (Some byte) others) ≡ behind (bytes ++ byte ∷ []) others
behind-in_front bytes byte None = refl
behind-in_front bytes byte (Some others) = ap Some (sym (append_assoc bytes (byte ∷ []) others))

pub one_more : (bytes : List ℕ) (high low byte : ℕ) (digits : List ℕ) → byte_value high low ≡ Some byte →
    behind bytes (bytes_written (high ∷ low ∷ digits)) ≡ behind (bytes ++ byte ∷ []) (bytes_written digits)
one_more bytes high low byte digits h = ap (λ v. behind bytes (in_front v (bytes_written digits))) h ∙ behind-in_front bytes byte (bytes_written digits)

pub none_more : (bytes : List ℕ) (high low : ℕ) (digits : List ℕ) → byte_value high low ≡ None → behind bytes (bytes_written (high ∷ low ∷ digits)) ≡ None
none_more bytes high low digits h = ap (λ v. behind bytes (in_front v (bytes_written digits))) h

-- the same of a row of digits that begins with two
pub two_more : (bytes left : List ℕ) (byte n : ℕ) → 2 ≤ length left → n ≡ length left - 2 → byte_value (get_or left 0 0) (get_or left 1 0) ≡ Some byte →
    behind bytes (bytes_written left) ≡ behind (bytes ++ byte ∷ []) (bytes_written (take n (drop 2 left)))
two_more bytes [] byte n long is h = absurd (omega arith)
two_more bytes (digit ∷ []) byte n long is h = absurd (omega arith)
two_more bytes (high ∷ low ∷ digits) byte n long is h =
    one_more bytes high low byte digits h
    ∙ ap (λ row. behind (bytes ++ byte ∷ []) (bytes_written row)) (sym (take_all n digits (omega (arith, is))))
