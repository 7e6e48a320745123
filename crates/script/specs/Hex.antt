-- Bytes as hex digits, the high one first. Assumes nothing: these are definitions.
use Rattle.std.specs.Prelude.{ℕ, ◌<◌, ◌+◌, ◌-◌, ◌*◌, ◌/◌, ◌%◌, cond, nat_lt, List, [], ◌∷◌, Some, None, Option}
use Rattle.std.specs.List.{AllByRecursion}

-- the value that a digit has: 0 to 9, or a to f in either case, which stand for 10 to 15
abbrev pub digit_value : ℕ → Option ℕ
digit_value digit =
    cond (nat_lt digit 48) None
    (cond (nat_lt digit 58) (Some (digit - 48))
    (cond (nat_lt digit 65) None
    (cond (nat_lt digit 71) (Some (digit - 55))
    (cond (nat_lt digit 97) None
    (cond (nat_lt digit 103) (Some (digit - 87)) None)))))

-- the byte that two digits write
abbrev pub byte_of : Option ℕ → Option ℕ → Option ℕ
byte_of None low = None
byte_of (Some high) None = None
byte_of (Some high) (Some low) = Some (16 * high + low)

abbrev pub byte_value : ℕ → ℕ → Option ℕ
byte_value high low = byte_of (digit_value high) (digit_value low)

-- the bytes that digits write, if they write any: there is an even number of digits, and nothing else
abbrev pub in_front : Option ℕ → Option (List ℕ) → Option (List ℕ)
in_front None bytes = None
in_front (Some byte) None = None
in_front (Some byte) (Some bytes) = Some (byte ∷ bytes)

abbrev pub bytes_written : List ℕ → Option (List ℕ)
bytes_written [] = Some []
bytes_written (digit ∷ []) = None
bytes_written (high ∷ low ∷ digits) = in_front (byte_value high low) (bytes_written digits)

-- the digit that a value below 16 has, and the two of a byte
abbrev pub digit_of : ℕ → ℕ
digit_of value = cond (nat_lt value 10) (48 + value) (87 + value)

abbrev pub digits_of : ℕ → List ℕ
digits_of byte = digit_of (byte / 16) ∷ digit_of (byte % 16) ∷ []

-- bytes, each of which has its two digits
abbrev pub AreBytes : List ℕ → Type 0
AreBytes bytes = AllByRecursion (λ byte. byte < 256) bytes
