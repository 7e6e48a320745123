-- Rows of nodes and their numbers. Assumes nothing.
use Rattle.std.proofs.Common.{◌≡◌, ℕ, zero, suc, ◌+◌, ◌*◌, ◌/◌, ◌^◌, ◌≤◌, ◌<◌, Bool, List, [], ◌∷◌, ◌++◌, length, get_or, map, flat_map, inl, inr, sym, refl, ap, ◌∙◌, arith}
use Rattle.std.specs.List.{All, filter, range_with_len}
use Rattle.std.proofs.Math.Nat.{pow-suc, pow-zero, pow-le-pow_right, pow-le-pow_left}
use Rattle.std.proofs.lemmas.Bool.{cases_lt, cases_Bool}
use Rattle.std.proofs.lemmas.Nat.{mul-add-lt, div_below, div-mul-add, mod-mul-add}
use Rattle.std.proofs.lemmas.List.{flat_map_more}
use Rattle.std.proofs.lemmas.List.FromFn.{map-range_with_len_more, fill_by_all, length-map-range_with_len, get_or-map-range_with_len, length-range_with_len, get_or-range_with_len}
use Rattle.std.proofs.lemmas.List.Elements.{All-head, All-tail, All-map, All-same}
use Rattle.relay.specs.Paths.{AllBelow, index_of, rows, each_in_front, row_at}

-- the number of a row is below n to the power of its length, so it is small for up to four nodes of up to 16
pub index_below : (n : ℕ) (row : List ℕ) → AllBelow n row → index_of n row < n ^ length row
index_below n [] all = omega (arith, pow-zero n)
index_below n (node ∷ row) all =
    let head : node < n = All-head (λ node. node < n) node row all in
    let rest = index_below n row (All-tail (λ node. node < n) node row all) in
    rw (pow-suc n (length row)) (omega (arith, mul-add-lt (index_of n row) n node (n ^ length row) rest head))

pub power_small : (n k : ℕ) → n ≤ 16 → k ≤ 4 → n ^ k ≤ 65536
power_small n k h l =
    let base : n ^ k ≤ 16 ^ k = pow-le-pow_left h k in
    let most : 16 ^ k ≤ 16 ^ 4 = pow-le-pow_right (omega arith) l in
    omega (arith, base, most)

pub index_small : (n : ℕ) (row : List ℕ) → AllBelow n row → n ≤ 16 → length row ≤ 4 → index_of n row < 65536
index_small n row all h l = omega (arith, index_below n row all, power_small n (length row) h l)

-- what is below a product is below it with a factor above 0
pub positive : (n m index : ℕ) → index < m * n → 0 < n
positive n m index h =
    elim (cases_lt 0 n) [
      | inl some ↦ some
      | inr none ↦ let is : n ≡ 0 = omega (arith, none) in let nothing : index < m * 0 = rw is at h in absurd (omega (arith, nothing))
    ]

-- a row has a number, and is the row with that number
pub number_of_row_at : (n count index : ℕ) → index < n ^ count → index_of n (row_at n count index) ≡ index
number_of_row_at n zero index h = omega (arith, pow-zero n, h)
number_of_row_at n (suc count) index h =
    let within : index < n ^ count * n = rw (pow-suc n count) at h in
    let some : 0 < n = positive n (n ^ count) index within in
    let rest = number_of_row_at n count (index / n) (div_below index n (n ^ count) some within) in
    rw rest (omega arith)

pub row_at_number : (n : ℕ) (row : List ℕ) → AllBelow n row → row_at n (length row) (index_of n row) ≡ row
row_at_number n [] all = refl
row_at_number n (node ∷ row) all =
    let head : node < n = All-head (λ node. node < n) node row all in
    let rest = row_at_number n row (All-tail (λ node. node < n) node row all) in
    rw (mod-mul-add (index_of n row) n node head, div-mul-add (index_of n row) n node head) (ap (λ row. node ∷ row) rest)

-- a row in front of which a node is put: its number is one of the rows with one node more
pub index_more : (n count index node : ℕ) → node < n → index < n ^ count → index * n + node < n ^ suc count
index_more n count index node known within = rw (pow-suc n count) (omega (arith, mul-add-lt index n node (n ^ count) within known))

pub row_at_more : (n count index node : ℕ) → node < n → row_at n (suc count) (index * n + node) ≡ node ∷ row_at n count index
row_at_more n count index node h = rw (mod-mul-add index n node h, div-mul-add index n node h)

-- a list of what stands at numbers from a on: in two parts, counted from there, and with another function that agrees
range_parts : {X : Type 0} (f : ℕ → X) (a m n : ℕ) → map f (range_with_len a (m + n)) ≡ map f (range_with_len a m) ++ map f (range_with_len (a + m) n)
range_parts f a zero n = let none : 0 + n ≡ n = omega arith in let same : a + 0 ≡ a = omega arith in rw (none, same)
range_parts f a (suc m) n =
    let more : suc m + n ≡ suc (m + n) = omega arith in
    let further : a + suc m ≡ a + 1 + m = omega arith in
    rw (more, further) (ap (λ rest. f a ∷ rest) (range_parts f (a + 1) m n))

range_from : {X : Type 0} (f : ℕ → X) (a b n : ℕ) → map f (range_with_len (a + b) n) ≡ map (λ k. f (a + k)) (range_with_len b n)
range_from f a b zero = refl
range_from f a b (suc n) = let further : a + b + 1 ≡ a + (b + 1) = omega arith in rw further (ap (λ rest. f (a + b) ∷ rest) (range_from f a (b + 1) n))

pub range_agrees : {X : Type 0} (d : X) (f g : ℕ → X) (n : ℕ) → ((k : ℕ) → k < n → f k ≡ g k) → map f (range_with_len 0 n) ≡ map g (range_with_len 0 n)
range_agrees d f g n same =
    fill_by_all g (map f (range_with_len 0 n)) n d (length-map-range_with_len f 0 n) (λ k h. get_or-map-range_with_len f 0 n k k d h (omega arith) ∙ same k h)

-- the rows of so many nodes are those with the numbers from 0 on
each_in_front_at : (n count index : ℕ) → map (row_at n (suc count)) (range_with_len (index * n) n) ≡ each_in_front n (row_at n count index)
each_in_front_at n count index =
    let start : index * n ≡ index * n + 0 = omega arith in
    ap (λ a. map (row_at n (suc count)) (range_with_len a n)) start
    ∙ range_from (row_at n (suc count)) (index * n) 0 n
    ∙ range_agrees [] (λ node. row_at n (suc count) (index * n + node)) (λ node. node ∷ row_at n count index) n (λ node h. row_at_more n count index node h)

rows_up_to : (n count m : ℕ) → flat_map (each_in_front n) (map (row_at n count) (range_with_len 0 m)) ≡ map (row_at n (suc count)) (range_with_len 0 (m * n))
rows_up_to n count zero = let none : 0 * n ≡ 0 = omega arith in rw none
rows_up_to n count (suc m) =
    let one : suc m ≡ m + 1 = omega arith in
    let more : suc m * n ≡ m * n + n = omega arith in
    let nothing : 0 + m * n ≡ m * n = omega arith in
    let so_far = map (row_at n count) (range_with_len 0 m) in
    ap (λ k. flat_map (each_in_front n) (map (row_at n count) (range_with_len 0 k))) one
    ∙ ap (flat_map (each_in_front n)) (map-range_with_len_more (row_at n count) 0 m m (omega arith))
    ∙ sym (flat_map_more (each_in_front n) [] so_far (row_at n count m))
    ∙ ap (λ front. front ++ each_in_front n (row_at n count m)) (rows_up_to n count m)
    ∙ ap (λ last. map (row_at n (suc count)) (range_with_len 0 (m * n)) ++ last) (sym (each_in_front_at n count m))
    ∙ ap (λ a. map (row_at n (suc count)) (range_with_len 0 (m * n)) ++ map (row_at n (suc count)) (range_with_len a n)) (sym nothing)
    ∙ sym (range_parts (row_at n (suc count)) 0 (m * n) n)
    ∙ ap (λ k. map (row_at n (suc count)) (range_with_len 0 k)) (sym more)

pub rows_are : (n count : ℕ) → rows n count ≡ map (row_at n count) (range_with_len 0 (n ^ count))
rows_are n zero = rw (pow-zero n)
rows_are n (suc count) =
    ap (flat_map (each_in_front n)) (rows_are n count) ∙ rows_up_to n count (n ^ count) ∙ ap (λ k. map (row_at n (suc count)) (range_with_len 0 k)) (sym (pow-suc n count))

-- so their numbers are those from 0 on, and the numbers of the rows that pass a test are those at which it is passed
pub range_below : (n : ℕ) → All (λ index. index < n) (range_with_len 0 n)
range_below n k d h = let long = length-range_with_len 0 n in let is : get_or (range_with_len 0 n) k d ≡ 0 + k = get_or-range_with_len 0 n k d (omega (arith, long, h)) in omega (arith, is, long, h)

numbered : (n count : ℕ) (xs : List ℕ) → All (λ index. index < n ^ count) xs → map (index_of n) (map (row_at n count) xs) ≡ xs
numbered n count [] all = refl
numbered n count (x ∷ xs) all =
    rw (number_of_row_at n count x (All-head (λ index. index < n ^ count) x xs all))
    (ap (λ rest. x ∷ rest) (numbered n count xs (All-tail (λ index. index < n ^ count) x xs all)))

pub numbers_of_rows : (n count : ℕ) → map (index_of n) (rows n count) ≡ range_with_len 0 (n ^ count)
numbers_of_rows n count = ap (map (index_of n)) (rows_are n count) ∙ numbered n count (range_with_len 0 (n ^ count)) (range_below (n ^ count))

numbered_where : (p : List ℕ → Bool) (n count : ℕ) (xs : List ℕ) → All (λ index. index < n ^ count) xs →
    map (index_of n) (filter p (map (row_at n count) xs)) ≡ filter (λ index. p (row_at n count index)) xs
numbered_where p n count [] all = refl
numbered_where p n count (x ∷ xs) all =
    let is = number_of_row_at n count x (All-head (λ index. index < n ^ count) x xs all) in
    let rest = numbered_where p n count xs (All-tail (λ index. index < n ^ count) x xs all) in
    elim (cases_Bool (p (row_at n count x))) [
      | inl passes ↦ rw (passes, is) (ap (λ rest. x ∷ rest) rest)
      | inr fails ↦ rw fails rest
    ]

pub numbers_where : (p : List ℕ → Bool) (n count : ℕ) → map (index_of n) (filter p (rows n count)) ≡ filter (λ index. p (row_at n count index)) (range_with_len 0 (n ^ count))
numbers_where p n count =
    ap (λ all. map (index_of n) (filter p all)) (rows_are n count) ∙ numbered_where p n count (range_with_len 0 (n ^ count)) (range_below (n ^ count))

-- and they have so many nodes each
row_at_long : (n count index : ℕ) → length (row_at n count index) ≡ count
row_at_long n zero index = refl
row_at_long n (suc count) index = ap suc (row_at_long n count (index / n))

pub rows_long : (n count : ℕ) → All (λ row. length row ≡ count) (rows n count)
rows_long n count =
    All-same (λ row. length row ≡ count) (rows n count) (map (row_at n count) (range_with_len 0 (n ^ count))) (rows_are n count)
    (All-map (λ row. length row ≡ count) (row_at n count) (range_with_len 0 (n ^ count)) (λ k d h. row_at_long n count (get_or (range_with_len 0 (n ^ count)) k d)))
