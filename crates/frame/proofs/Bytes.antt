-- Numbers as bytes, written and read, of any width. Assumes nothing.
use Rattle.std.proofs.Common.{◌≡◌, ℕ, zero, suc, ◌+◌, ◌*◌, ◌/◌, ◌%◌, ◌^◌, ◌≤◌, ◌<◌, List, [], ◌∷◌, ◌++◌, length, take, drop, set, flat_map, Some, None, slice_get, slice_index, sym, refl, ap, ◌∙◌, arith}
use Rattle.std.specs.List.{All}
use Rattle.std.proofs.Math.Nat.{pow-suc}
use Rattle.std.proofs.Math.Seq.{take-add}
use Rattle.std.proofs.lemmas.Nat.{div_below}
use Rattle.std.proofs.lemmas.List.{length-append, length-take, length-take-le, length-drop, get_or-take, get_or-drop, drop-drop, drop_more, take_at, drop_at, append_assoc}
use Rattle.frame.specs.Numbers.{low_first, number_of, numbers_in, Bytes}

-- one number more in a row
one_more : (width count : ℕ) → width * suc count ≡ width + width * count
one_more width count = omega arith

pub length-low_first : (width number : ℕ) → length (low_first width number) ≡ width
length-low_first zero number = refl
length-low_first (suc width) number = ap suc (length-low_first width (number / 256))

pub length-numbers_written : (width : ℕ) (numbers : List ℕ) → length (flat_map (low_first width) numbers) ≡ width * length numbers
length-numbers_written width [] = omega arith
length-numbers_written width (number ∷ numbers) =
    let row = flat_map (low_first width) numbers in
    let both = length-append (low_first width number) row in
    omega (arith, both, length-low_first width number, length-numbers_written width numbers, one_more width (length numbers))

-- what is written of a number that fits is read
pub number_written : (width number : ℕ) → number < 256 ^ width → number_of (low_first width number) ≡ number
number_written zero number h = omega (arith, h)
number_written (suc width) number h =
    let rest = number_written width (number / 256) (div_below number 256 (256 ^ width) (omega arith) (rw (pow-suc 256 width) at h)) in omega (arith, rest)

-- and what is read of bytes gives the bytes
first_byte : (byte : ℕ) (bytes : List ℕ) → Bytes (byte ∷ bytes) → byte < 256
first_byte byte bytes all = all 0 0 (omega arith)

rest_bytes : (byte : ℕ) (bytes : List ℕ) → Bytes (byte ∷ bytes) → Bytes bytes
rest_bytes byte bytes all k d h = all (suc k) d (omega arith)

pub bytes_read : (bytes : List ℕ) → Bytes bytes → low_first (length bytes) (number_of bytes) ≡ bytes
bytes_read [] all = refl
bytes_read (byte ∷ bytes) all =
    let small = first_byte byte bytes all in
    let low : (byte + 256 * number_of bytes) % 256 ≡ byte = omega (arith, small) in
    let high : (byte + 256 * number_of bytes) / 256 ≡ number_of bytes = omega (arith, small) in
    rw (low, high) (ap (λ rest. byte ∷ rest) (bytes_read bytes (rest_bytes byte bytes all)))

number_fits : (bytes : List ℕ) → Bytes bytes → number_of bytes < 256 ^ length bytes
number_fits [] all = omega arith
number_fits (byte ∷ bytes) all =
    rw (pow-suc 256 (length bytes)) (omega (arith, first_byte byte bytes all, number_fits bytes (rest_bytes byte bytes all)))

pub take_bytes : (n : ℕ) (row : List ℕ) → Bytes row → Bytes (take n row)
take_bytes n row all k d h = let long = length-take n row in rw (get_or-take n row k d (omega (arith, long, h))) (all k d (omega (arith, long, h)))

pub drop_bytes : (n : ℕ) (row : List ℕ) → Bytes row → Bytes (drop n row)
drop_bytes n row all k d h = rw (get_or-drop n row k d) (all (n + k) d (omega (arith, length-drop n row, h)))

-- rows of numbers
pub numbers_written : (width : ℕ) (numbers : List ℕ) → All (λ number. number < 256 ^ width) numbers →
    numbers_in width (length numbers) (flat_map (low_first width) numbers) ≡ numbers
numbers_written width [] all = refl
numbers_written width (number ∷ numbers) all =
    let first = low_first width number in
    let rest = flat_map (low_first width) numbers in
    let long = length-low_first width number in
    rw (take_at first rest width long, drop_at first rest width long, number_written width number (all 0 0 (omega arith)))
    (ap (λ read. number ∷ read) (numbers_written width numbers (λ k d h. all (suc k) d (omega arith))))

pub numbers_read : (width count : ℕ) (row : List ℕ) → Bytes row → width * count ≤ length row →
    flat_map (low_first width) (numbers_in width count row) ≡ take (width * count) row
numbers_read width zero row all h = let none : width * 0 ≡ 0 = omega arith in rw none
numbers_read width (suc count) row all h =
    let more = one_more width count in
    let long : length (take width row) ≡ width = length-take-le width row (omega (arith, more, h)) in
    let first : low_first width (number_of (take width row)) ≡ take width row =
    ap (λ w. low_first w (number_of (take width row))) (sym long) ∙ bytes_read (take width row) (take_bytes width row all) in
    let rest = numbers_read width count (drop width row) (drop_bytes width row all) (omega (arith, more, h, length-drop width row)) in
    rw (first, rest, more) (sym (take-add width (width * count) row))

pub length-numbers_in : (width count : ℕ) (row : List ℕ) → length (numbers_in width count row) ≡ count
length-numbers_in width zero row = refl
length-numbers_in width (suc count) row = ap suc (length-numbers_in width count (drop width row))

pub numbers_fit : (width count : ℕ) (row : List ℕ) → Bytes row → width * count ≤ length row →
    All (λ number. number < 256 ^ width) (numbers_in width count row)
numbers_fit width zero row all h k d l = absurd (omega arith)
numbers_fit width (suc count) row all h zero d l =
    let more = one_more width count in
    let long : length (take width row) ≡ width = length-take-le width row (omega (arith, more, h)) in
    rw long at (number_fits (take width row) (take_bytes width row all))
numbers_fit width (suc count) row all h (suc k) d l =
    let more = one_more width count in
    numbers_fit width count (drop width row) (drop_bytes width row all) (omega (arith, more, h, length-drop width row)) k d (omega arith)

-- the number at an index
pub number_at : (width count : ℕ) (row : List ℕ) (index : ℕ) → index < count →
    slice_get (numbers_in width count row) index ≡ Some (number_of (take width (drop (width * index) row)))
number_at width zero row index h = absurd (omega arith)
number_at width (suc count) row zero h = let none : width * 0 ≡ 0 = omega arith in rw none
number_at width (suc count) row (suc index) h =
    let more = one_more width index in
    number_at width count (drop width row) index (omega arith)
    ∙ ap (λ rest. Some (number_of (take width rest))) (drop-drop (width * index) width row ∙ ap (λ k. drop k row) (sym more))

pub no_number_at : (width count : ℕ) (row : List ℕ) (index : ℕ) → count ≤ index → slice_get (numbers_in width count row) index ≡ None
no_number_at width zero row index h = refl
no_number_at width (suc count) row zero h = absurd (omega arith)
no_number_at width (suc count) row (suc index) h = no_number_at width count (drop width row) index (omega arith)

-- a number that is put at an index
pub number_put : (width count : ℕ) (row : List ℕ) (index number : ℕ) → index < count → width * count ≤ length row → number < 256 ^ width →
    numbers_in width count (take (width * index) row ++ low_first width number ++ drop (width * index + width) row) ≡ set (numbers_in width count row) index number
number_put width zero row index number h l f = absurd (omega arith)
number_put width (suc count) row zero number h l f =
    let first = low_first width number in
    let none : width * 0 ≡ 0 = omega arith in
    let behind : 0 + width ≡ width = omega arith in
    let long = length-low_first width number in
    rw (none, behind, take_at first (drop width row) width long, drop_at first (drop width row) width long, number_written width number f)
number_put width (suc count) row (suc index) number h l f =
    let more = one_more width count in
    let first = take width row in
    let rest = drop width row in
    let long : length first ≡ width = length-take-le width row (omega (arith, more, l)) in
    let before = take (width * index) rest in
    let put = before ++ low_first width number in
    let behind = drop (width * index + width) rest in
    let same : width + width * index + width ≡ width + (width * index + width) = omega arith in
    let split : take (width * suc index) row ++ low_first width number ++ drop (width * suc index + width) row ≡ first ++ (put ++ behind) =
    rw (
      one_more width index,
      take-add width (width * index) row,
      append_assoc first before (low_first width number),
      drop-drop (width * index + width) width row,
      same,
    ) (append_assoc first put (drop (width + (width * index + width)) row)) in
    rw (split, take_at first (put ++ behind) width long, drop_at first (put ++ behind) width long)
    (ap (λ numbers. number_of first ∷ numbers) (number_put width count rest index number (omega arith) (omega (arith, more, l, length-drop width row)) f))

-- four bytes in a row
pub number_of_four_at : (row : List ℕ) (i : ℕ) → i + 4 ≤ length row →
    number_of (take 4 (drop i row))
    ≡ slice_index row i + slice_index row (i + 1) * 256 + slice_index row (i + 2) * 65536 + slice_index row (i + 3) * 16777216
number_of_four_at row i h =
    let two : i + 1 + 1 ≡ i + 2 = omega arith in
    let three : i + 2 + 1 ≡ i + 3 = omega arith in
    let more : (k : ℕ) → k < length row → drop k row ≡ slice_index row k ∷ drop (k + 1) row = λ k h. drop_more row k 0 h in
    rw (more i (omega arith), more (i + 1) (omega arith), two, more (i + 2) (omega arith), three, more (i + 3) (omega arith)) (omega arith)
