-- Numbers as bytes, the low byte first. Assumes nothing: these are definitions.
use Rattle.std.specs.Prelude.{ℕ, zero, suc, ◌+◌, ◌*◌, ◌/◌, ◌%◌, ◌<◌, List, [], ◌∷◌, take, drop, All}

-- the low bytes of a number, so many of them; what is above them is left out
abbrev pub low_first : ℕ → ℕ → List ℕ
low_first zero number = []
low_first (suc width) number = number % 256 ∷ low_first width (number / 256)

-- the number that bytes make
abbrev pub number_of : List ℕ → ℕ
number_of [] = 0
number_of (byte ∷ bytes) = byte + 256 * number_of bytes

-- the first numbers in a row of bytes, so many of them, where each has a width of so many bytes
abbrev pub numbers_in : ℕ → ℕ → List ℕ → List ℕ
numbers_in width zero row = []
numbers_in width (suc count) row = number_of (take width row) ∷ numbers_in width count (drop width row)

-- the numbers of a row are bytes
abbrev pub Bytes : List ℕ → Type 0
Bytes row = All (λ byte. byte < 256) row
