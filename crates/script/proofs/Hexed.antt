-- The digits of bytes write these bytes.
use Rattle.std.proofs.Common.{◌≡◌, ◌∙◌, refl, ap, ℕ, ◌+◌, ◌*◌, ◌/◌, ◌%◌, ◌<◌, List, [], ◌∷◌, Some, arith, tests}
use Rattle.script.specs.Hex.{digit_of, digit_value, byte_of, byte_value, in_front, bytes_written, AreBytes}
use Rattle.script.specs.Text.{each_of, byte_text}

digit : (v : ℕ) → v < 16 → digit_value (digit_of v) ≡ Some v
digit v h = grind (arith, tests)

byte : (b : ℕ) → b < 256 → byte_value (digit_of (b / 16)) (digit_of (b % 16)) ≡ Some b
byte b h =
    let whole : 16 * (b / 16) + b % 16 ≡ b = omega arith in
    (λ i. byte_of (digit (b / 16) (omega arith) i) (digit (b % 16) (omega arith) i)) ∙ ap Some whole

pub again : (place : ℕ) (bytes : List ℕ) → AreBytes bytes → bytes_written (each_of byte_text place bytes) ≡ Some bytes
again place [] h = refl
again place (b ∷ bytes) h = λ i. in_front (byte b h.0 i) (again (place + 1) bytes h.1 i)
