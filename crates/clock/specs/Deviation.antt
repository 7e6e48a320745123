-- How far another clock is ahead, as a signed number, and what is read of it. Assumes nothing: these are definitions.
use Rattle.std.specs.Prelude.{ℕ, min, cond, ℤ, pos, negsuc, ◌+ℤ◌, ◌-ℤ◌, int_lt}

-- the smallest and the largest number of 64 bits with a sign, and the largest without
abbrev pub smallest_signed : ℤ
smallest_signed = negsuc 9223372036854775807

abbrev pub largest_signed : ℤ
largest_signed = pos 9223372036854775807

abbrev pub largest : ℕ
largest = 18446744073709551615

-- a number that stops at these two
abbrev pub held : ℤ → ℤ
held z = cond (int_lt z smallest_signed) smallest_signed (cond (int_lt largest_signed z) largest_signed z)

-- when a message was due to begin, less when it began, both by the own clock; what does not fit stops at the smallest or at the largest number
abbrev pub deviation_of : ℕ → ℕ → ℤ
deviation_of due began = held (pos due -ℤ pos began)

-- a time moved by a signed number of ticks; it stops at 0 and at the largest number
abbrev pub counted : ℤ → ℕ
counted (pos n) = min n largest
counted (negsuc n) = 0

abbrev pub moved : ℕ → ℤ → ℕ
moved time by = counted (pos time +ℤ by)
