-- Rows of nodes and their numbers are one to one, and rise together. Assumes nothing.
use Rattle.std.proofs.Common.{◌≡◌, ℕ, zero, suc, ◌+◌, ◌*◌, ◌/◌, ◌%◌, ◌^◌, ◌≤◌, ◌<◌, ◌⊎◌, List, [], ◌∷◌, ◌++◌, length, map, reverse, drop, get_or, inl, inr, sym, refl, ap, ◌∙◌, arith}
use Rattle.std.specs.List.{All, Contains, range_with_len}
use Rattle.std.proofs.Math.Nat.{pow-suc}
use Rattle.std.proofs.lemmas.Bool.{cases_order}
use Rattle.std.proofs.lemmas.Nat.{mul-le, div_below, mod_below}
use Rattle.std.proofs.lemmas.List.{reverse-append, reverse-reverse, length-reverse}
use Rattle.std.proofs.lemmas.List.Elements.{All-cons, All-nil, All-head, All-tail, All-map, All-same, All-contains}
use Rattle.std.proofs.lemmas.List.FromFn.{length-range_with_len, get_or-range_with_len, length-map-range_with_len, get_or-map-range_with_len}
use Rattle.relay.specs.Paths.{AllBelow, index_of, rows, row_at}
use Rattle.relay.specs.Theorems.{RowOf, Before, IndexIsOrder}
use Rattle.relay.proofs.Numbers.{positive, index_below, row_at_number, rows_are, rows_long, numbers_of_rows}

-- the rows that are listed are all rows
row_at_below : (n count index : ℕ) → index < n ^ count → AllBelow n (row_at n count index)
row_at_below n zero index h = All-nil (λ node. node < n)
row_at_below n (suc count) index h =
    let within : index < n ^ count * n = rw (pow-suc n count) at h in
    let some : 0 < n = positive n (n ^ count) index within in
    All-cons (λ node. node < n) (index % n) (row_at n count (index / n)) (mod_below index n some) (row_at_below n count (index / n) (div_below index n (n ^ count) some within))

rows_below : (n count : ℕ) → All (AllBelow n) (rows n count)
rows_below n count =
    let m = n ^ count in
    All-same (AllBelow n) (rows n count) (map (row_at n count) (range_with_len 0 m)) (rows_are n count)
    (All-map (AllBelow n) (row_at n count) (range_with_len 0 m)
    (λ k d h.
    let long = length-range_with_len 0 m in
    let is : get_or (range_with_len 0 m) k d ≡ 0 + k = get_or-range_with_len 0 m k d (omega (arith, long, h)) in
    row_at_below n count (get_or (range_with_len 0 m) k d) (omega (arith, is, long, h))))

pub listed : (n count : ℕ) (row : List ℕ) → RowOf n count row → Contains (rows n count) row
listed n count row r =
    let within : index_of n row < n ^ count = rw r.as_long at (index_below n row r.of_cluster) in
    let long : length (rows n count) ≡ n ^ count = ap length (rows_are n count) ∙ length-map-range_with_len (row_at n count) 0 (n ^ count) in
    let row_is : row_at n count (index_of n row) ≡ row = ap (λ k. row_at n k (index_of n row)) (sym r.as_long) ∙ row_at_number n row r.of_cluster in (
      index_of n row,
      omega (arith, within, long),
      ap (λ all. get_or all (index_of n row) row) (rows_are n count)
          ∙ get_or-map-range_with_len (row_at n count) 0 (n ^ count) (index_of n row) (index_of n row) row within (omega arith)
          ∙ row_is,
    )

row_of : (n count : ℕ) (row : List ℕ) → Contains (rows n count) row → RowOf n count row
row_of n count row in_list = record {
  as_long = All-contains (λ row. length row ≡ count) (rows n count) row (rows_long n count) in_list;
  of_cluster = All-contains (AllBelow n) (rows n count) row (rows_below n count) in_list;
}

one_row : (n count : ℕ) (one two : List ℕ) → RowOf n count one → RowOf n count two → index_of n one ≡ index_of n two → one ≡ two
one_row n count one two r s same =
    sym (row_at_number n one r.of_cluster)
    ∙ ap (λ k. row_at n k (index_of n one)) (r.as_long ∙ sym s.as_long)
    ∙ ap (row_at n (length two)) same
    ∙ row_at_number n two s.of_cluster

-- rows that are longer by a node at the end
before_from : (xs ys : List ℕ) (x y : ℕ) → length xs ≡ length ys → (Before xs ys ⊎ ((xs ≡ ys) × (x < y))) → Before (xs ++ x ∷ []) (ys ++ y ∷ [])
before_from [] [] x y long (inl none) = absurd none
before_from [] [] x y long (inr (same, h)) = inl h
before_from [] (b ∷ ys) x y long before = absurd (omega (arith, long))
before_from (a ∷ xs) [] x y long before = absurd (omega (arith, long))
before_from (a ∷ xs) (b ∷ ys) x y long (inl (inl h)) = inl h
before_from (a ∷ xs) (b ∷ ys) x y long (inl (inr (same, rest))) = inr (same, before_from xs ys x y (omega (arith, long)) (inl rest))
before_from (a ∷ xs) (b ∷ ys) x y long (inr (same, h)) =
    inr (ap (λ list. get_or list 0 0) same, before_from xs ys x y (omega (arith, long)) (inr (ap (drop 1) same, h)))

before_to : (xs ys : List ℕ) (x y : ℕ) → length xs ≡ length ys → Before (xs ++ x ∷ []) (ys ++ y ∷ []) → (Before xs ys ⊎ ((xs ≡ ys) × (x < y)))
before_to [] [] x y long (inl h) = inr (refl, h)
before_to [] [] x y long (inr (same, none)) = absurd none
before_to [] (b ∷ ys) x y long before = absurd (omega (arith, long))
before_to (a ∷ xs) [] x y long before = absurd (omega (arith, long))
before_to (a ∷ xs) (b ∷ ys) x y long (inl h) = inl (inl h)
before_to (a ∷ xs) (b ∷ ys) x y long (inr (same, rest)) =
    elim (before_to xs ys x y (omega (arith, long)) rest) [
      | inl earlier ↦ inl (inr (same, earlier))
      | inr (equal, h) ↦ inr (ap (λ node. node ∷ xs) same ∙ ap (λ row. b ∷ row) equal, h)
    ]

-- and their numbers
number_from : (n i j x y : ℕ) → x < n → y < n → ((i < j) ⊎ ((i ≡ j) × (x < y))) → i * n + x < j * n + y
number_from n i j x y within other (inl h) = let more : (i + 1) * n ≤ j * n = mul-le (i + 1) n j n (omega (arith, h)) (omega arith) in omega (arith, more, within)
number_from n i j x y within other (inr (same, h)) = rw same (omega (arith, h))

number_to : (n i j x y : ℕ) → x < n → y < n → i * n + x < j * n + y → ((i < j) ⊎ ((i ≡ j) × (x < y)))
number_to n i j x y within other h =
    elim (cases_order i j) [
      | inl same ↦ let flat : j * n + x < j * n + y = rw same at h in inr (same, omega (arith, flat))
      | inr (inl earlier) ↦ inl earlier
      | inr (inr later) ↦ let more : (j + 1) * n ≤ i * n = mul-le (j + 1) n i n (omega (arith, later)) (omega arith) in absurd (omega (arith, more, other, h))
    ]

-- so rows rise, read from the last node to the first, as their numbers do
reversed : (x : ℕ) (xs : List ℕ) → reverse (x ∷ xs) ≡ reverse xs ++ x ∷ []
reversed x xs = reverse-append (x ∷ []) xs

head_below : (n count : ℕ) (x : ℕ) (xs : List ℕ) → RowOf n count (x ∷ xs) → x < n
head_below n count x xs r = All-head (λ node. node < n) x xs r.of_cluster

tail_of : (n count : ℕ) (x : ℕ) (xs : List ℕ) → RowOf n (suc count) (x ∷ xs) → RowOf n count xs
tail_of n count x xs r = record {
  as_long = omega (arith, r.as_long);
  of_cluster = All-tail (λ node. node < n) x xs r.of_cluster;
}

same_length : (n count : ℕ) (xs ys : List ℕ) → RowOf n count xs → RowOf n count ys → length (reverse xs) ≡ length (reverse ys)
same_length n count xs ys r s = length-reverse xs ∙ r.as_long ∙ sym s.as_long ∙ sym (length-reverse ys)

rises : (n count : ℕ) (xs ys : List ℕ) → RowOf n count xs → RowOf n count ys → index_of n xs < index_of n ys → Before (reverse xs) (reverse ys)
rises n count [] [] r s h = absurd (omega (arith, h))
rises n count [] (y ∷ ys) r s h = absurd (omega (arith, r.as_long, s.as_long))
rises n count (x ∷ xs) [] r s h = absurd (omega (arith, r.as_long, s.as_long))
rises n zero (x ∷ xs) (y ∷ ys) r s h = absurd (omega (arith, r.as_long))
rises n (suc count) (x ∷ xs) (y ∷ ys) r s h =
    let r′ = tail_of n count x xs r in
    let s′ = tail_of n count y ys s in
    let behind : Before (reverse xs) (reverse ys) ⊎ ((reverse xs ≡ reverse ys) × (x < y)) =
    elim (number_to n (index_of n xs) (index_of n ys) x y (head_below n (suc count) x xs r) (head_below n (suc count) y ys s) h) [
      | inl earlier ↦ inl (rises n count xs ys r′ s′ earlier)
      | inr (same, l) ↦ inr (ap reverse (one_row n count xs ys r′ s′ same), l)
    ] in
    rw (reversed x xs, reversed y ys) (before_from (reverse xs) (reverse ys) x y (same_length n count xs ys r′ s′) behind)

rises_back : (n count : ℕ) (xs ys : List ℕ) → RowOf n count xs → RowOf n count ys → Before (reverse xs) (reverse ys) → index_of n xs < index_of n ys
rises_back n count [] ys r s before = absurd before
rises_back n count (x ∷ xs) [] r s before = absurd (omega (arith, r.as_long, s.as_long))
rises_back n zero (x ∷ xs) (y ∷ ys) r s before = absurd (omega (arith, r.as_long))
rises_back n (suc count) (x ∷ xs) (y ∷ ys) r s before =
    let r′ = tail_of n count x xs r in
    let s′ = tail_of n count y ys s in
    let split : Before (reverse xs ++ x ∷ []) (reverse ys ++ y ∷ []) = rw (reversed x xs, reversed y ys) at before in
    let behind : (index_of n xs < index_of n ys) ⊎ ((index_of n xs ≡ index_of n ys) × (x < y)) =
    elim (before_to (reverse xs) (reverse ys) x y (same_length n count xs ys r′ s′) split) [
      | inl earlier ↦ inl (rises_back n count xs ys r′ s′ earlier)
      | inr (same, l) ↦ inr (ap (index_of n) (sym (reverse-reverse xs) ∙ ap reverse same ∙ reverse-reverse ys), l)
    ] in
    number_from n (index_of n xs) (index_of n ys) x y (head_below n (suc count) x xs r) (head_below n (suc count) y ys s) behind

pub index_is_order : IndexIsOrder
index_is_order n count = record {
  one_to_one = one_row n count;
  rises = λ one two r s. (rises n count one two r s, rises_back n count one two r s);
  all_rows = λ row. (listed n count row, row_of n count row);
  in_order = numbers_of_rows n count;
}
