-- A frame that was written into memory. Assumes nothing.
use Rattle.std.proofs.Common.{◌≡◌, ℕ, ◌+◌, ◌-◌, ◌*◌, ◌/◌, ◌≤◌, ◌<◌, List, [], ◌++◌, length, take, drop, nat_lt, true, sym, refl, ap, ◌∙◌, arith}
use borrow.Rule.Slice.PartMut.{put_mid}
use Rattle.std.proofs.lemmas.List.{places, take_at, drop_at, drop_all, drop-drop, append-nil, append_assoc, length-append, length-drop, flat_map_more}
use Rattle.std.proofs.lemmas.Bool.Decides.{nat_tests}
use Rattle.std.proofs.lemmas.Slice.{drop-append-drop}
use Rattle.std.proofs.lemmas.List.FromFn.{length-map-range_with_len, map-range_with_len_more}
use Rattle.frame.specs.Numbers.{low_first}
use Rattle.frame.specs.Layout.{value_length, bytes_of}
use Rattle.frame.specs.Writing.{written_over, first_values, filled, with_value}
use Rattle.frame.proofs.Payloads.{length-bytes_of}

pub length-values : (value : ℕ → ℕ) (count : ℕ) → length (bytes_of (first_values value count)) ≡ value_length * count
length-values value count = length-bytes_of (first_values value count) ∙ ap (λ n. value_length * n) (length-map-range_with_len value 0 count)

-- a header, and behind it a payload that values have filled
pub framed : (value : ℕ → ℕ) (header memory payload : List ℕ) (n m count : ℕ) →
    length header ≡ n → m ≡ n + value_length * count → m ≤ length memory →
    payload ≡ filled value (take (m - n) (drop n (header ++ drop n memory))) →
    put_mid n (m - n) (header ++ drop n memory) payload ≡ written_over (header ++ bytes_of (first_values value count)) memory
framed value header memory payload n m count h e l p =
    let row : List ℕ = bytes_of (first_values value count) in
    let long : length row ≡ value_length * count = length-values value count in
    let behind : drop n (header ++ drop n memory) ≡ drop n memory = drop_at header (drop n memory) n h in
    let room : length (take (m - n) (drop n memory)) ≡ value_length * count = search (arith, places) in
    let many : length (take (m - n) (drop n memory)) / value_length ≡ count = omega (arith, room) in
    let nothing : drop (length row) (take (m - n) (drop n memory)) ≡ [] = drop_all (length row) (take (m - n) (drop n memory)) (omega (arith, room, long)) in
    let is : payload ≡ row = p ∙ rw (behind, many) (ap (λ t. row ++ t) nothing ∙ append-nil row) in
    let whole : length (header ++ row) ≡ m = omega (arith, length-append header row, long) in
    let rest : drop (m - n) (drop n memory) ≡ drop m memory = drop-drop (m - n) n memory ∙ ap (λ k. drop k memory) (omega arith) in
    rw (is, behind, take_at header (drop n memory) n h, rest, whole) (sym (append_assoc header row (drop m memory)))

-- a payload that is being filled, one value more: the step of every loop that fills one
pub filled_more : (value : ℕ → ℕ) (index : ℕ) (old payload : List ℕ) → index < length old / value_length →
    payload ≡ written_over (bytes_of (first_values value index)) old →
    with_value index (value index) payload ≡ written_over (bytes_of (first_values value (index + 1))) old
filled_more value index old payload h p =
    let row = bytes_of (first_values value index) in
    let long : length row ≡ value_length * index = length-values value index in
    let low = low_first value_length (value index) in
    let more : bytes_of (first_values value (index + 1)) ≡ row ++ low =
    ap bytes_of (map-range_with_len_more value 0 index index (omega arith))
    ∙ sym (flat_map_more (low_first value_length) [] (first_values value index) (value index)) in
    let kept : length payload ≡ length old = rw p (omega (arith, length-append row (drop (length row) old), length-drop (length row) old, long, h)) in
    let reaches : nat_lt index (length payload / value_length) ≡ true = grind (arith, nat_tests, kept, h) in
    let front : take (value_length * index) payload ≡ row = rw p (take_at row (drop (length row) old) (value_length * index) long) in
    let behind : drop (value_length * index + value_length) payload ≡ drop (value_length * index + value_length) old =
    rw p (drop-append-drop (length row) old row (value_length * index + value_length) (omega (arith, long)) refl) in
    let both : length (row ++ low) ≡ value_length * index + value_length = omega (arith, length-append row low, long) in
    rw (reaches, front, behind, more, both)
