-- The values of a payload. Assumes nothing.
use Rattle.std.proofs.Common.{◌≡◌, ℕ, ◌+◌, ◌*◌, ◌/◌, ◌^◌, ◌<◌, ◌≤◌, List, length, All, Some, None, slice_get, slice_index, ap, ◌∙◌, arith}
use Rattle.std.proofs.lemmas.List.{take_all}
use Rattle.frame.specs.Numbers.{Bytes}
use Rattle.frame.specs.Layout.{value_length, bytes_of, values_in}
use Rattle.frame.proofs.Bytes.{length-numbers_written, numbers_written, numbers_read, length-numbers_in, numbers_fit, number_at, no_number_at, number_of_four_at}

pub length-bytes_of : (values : List ℕ) → length (bytes_of values) ≡ value_length * length values
length-bytes_of values = length-numbers_written value_length values

pub length-values_in : (payload : List ℕ) → length (values_in payload) ≡ length payload / value_length
length-values_in payload = length-numbers_in value_length (length payload / value_length) payload

pub values_fit : (payload : List ℕ) → Bytes payload → All (λ value. value < 2 ^ 32) (values_in payload)
values_fit payload bytes = numbers_fit value_length (length payload / value_length) payload bytes (omega arith)

-- the values of a payload that was filled
pub values_written : (values : List ℕ) → All (λ value. value < 2 ^ 32) values → values_in (bytes_of values) ≡ values
values_written values fit =
    let count : length (bytes_of values) / value_length ≡ length values = omega (arith, length-bytes_of values) in
    rw count (numbers_written value_length values fit)

-- a payload of whole values
pub payload_read : (payload : List ℕ) (count : ℕ) → Bytes payload → length payload ≡ value_length * count → bytes_of (values_in payload) ≡ payload
payload_read payload count bytes long =
    let many : length payload / value_length ≡ count = omega (arith, long) in
    rw many (numbers_read value_length count payload bytes (omega (arith, long)) ∙ take_all (value_length * count) payload (omega (arith, long)))

-- the value at an index, as its four bytes give it
pub value_at : (payload : List ℕ) (index : ℕ) → index < length payload / value_length →
    slice_get (values_in payload) index
    ≡ Some
    (slice_index payload (4 * index)
    + slice_index payload (4 * index + 1) * 256
    + slice_index payload (4 * index + 2) * 65536
    + slice_index payload (4 * index + 3) * 16777216)
value_at payload index h =
    number_at value_length (length payload / value_length) payload index h ∙ ap Some (number_of_four_at payload (4 * index) (omega arith))

pub no_value_at : (payload : List ℕ) (index : ℕ) → length payload / value_length ≤ index → slice_get (values_in payload) index ≡ None
no_value_at payload index h = no_number_at value_length (length payload / value_length) payload index h
