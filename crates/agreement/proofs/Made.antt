-- What is made of paths, a node at a time. Assumes nothing.
use Rattle.std.proofs.Common.{◌≡◌, ℕ, suc, ◌+◌, ◌-◌, ◌^◌, ◌≤◌, ◌<◌, Bool, true, false, cond, List, [], ◌∷◌, ◌++◌, length, map, take, slice_index, slice_set, sym, refl, ap, ◌∙◌, arith}
use Rattle.std.specs.List.{filter, range_with_len}
use Rattle.std.proofs.lemmas.List.{take_more_set, append-nil, map-append, map-id}
use Rattle.std.proofs.lemmas.List.FromFn.{filter_of_map_range_with_len_more, fill_by_all, get_or-map-range_with_len}
use Rattle.relay.specs.Paths.{row_at}
use Rattle.relay.specs.Tables.{held_in, held_for}
use Rattle.relay.proofs.Numbers.{number_of_row_at}
use Rattle.agreement.specs.Majority.{majority}
use Rattle.clock.specs.declared.limits.Cluster.{Cluster}
use Rattle.agreement.specs.Results.{made_of, nodes_off, made_of_path, result_for, results_of}
use Rattle.agreement.specs.Theorems.{ResultsAreMade}

-- the two cases of what is made of a path: where no telling is left the table has it, at the path's index
pub made_last : (n length index left : ℕ) (table : List ℕ) → index < n ^ length → (1 ≤ left → ⊥) →
    slice_index table index ≡ made_of_path n left (held_in n table) (row_at n length index)
unfolding made_of_path
made_last n length index left table within not_more =
    let none : left ≡ 0 = grind (arith, not_more) in
    ap (slice_index table) (sym (number_of_row_at n length index within)) ∙ ap (λ k. made_of_path n k (held_in n table) (row_at n length index)) (sym none)

-- else it is the majority of a list
pub made_of_list : (n left : ℕ) (held : List ℕ → ℕ) (path values : List ℕ) → 1 ≤ left →
    values ≡ map (λ node. made_of_path n (left - 1) held (node ∷ path)) (nodes_off n path) → majority values ≡ made_of_path n left held path
unfolding made_of_path
made_of_list n left held path values some are =
    let more : left ≡ suc (left - 1) = omega (arith, some) in
    ap majority are ∙ ap (λ k. made_of_path n k held path) (sym more)

-- the numbers below one more that pass a test
numbers_where_more : (test : ℕ → Bool) (n : ℕ) → filter test (range_with_len 0 (n + 1)) ≡ filter test (range_with_len 0 n) ++ cond (test n) (n ∷ []) []
numbers_where_more test n =
    ap (filter test) (sym (map-id (range_with_len 0 (n + 1))))
    ∙ filter_of_map_range_with_len_more test (λ k. k) 0 n n (omega arith)
    ∙ ap (λ numbers. filter test numbers ++ cond (test n) (n ∷ []) []) (map-id (range_with_len 0 n))

-- a list of what a function gives of them, on its way: one that passes goes behind the others, and one that does not is left out
pub kept_more : (test : ℕ → Bool) (f : ℕ → ℕ) (n count x : ℕ) (values : List ℕ) → test n ≡ true → x ≡ f n → count < length values →
    take count values ≡ map f (filter test (range_with_len 0 n)) → take (count + 1) (slice_set values count x) ≡ map f (filter test (range_with_len 0 (n + 1)))
kept_more test f n count x values passes is room so_far =
    let last : filter test (range_with_len 0 (n + 1)) ≡ filter test (range_with_len 0 n) ++ n ∷ [] = rw passes at (numbers_where_more test n) in
    take_more_set values count x room
    ∙ ap (λ front. front ++ x ∷ []) so_far
    ∙ ap (λ y. map f (filter test (range_with_len 0 n)) ++ y ∷ []) is
    ∙ sym (map-append f (filter test (range_with_len 0 n)) (n ∷ []))
    ∙ ap (map f) (sym last)

pub left_out : (test : ℕ → Bool) (f : ℕ → ℕ) (n count : ℕ) (values : List ℕ) → test n ≡ false →
    take count values ≡ map f (filter test (range_with_len 0 n)) → take count values ≡ map f (filter test (range_with_len 0 (n + 1)))
left_out test f n count values fails so_far =
    let none : filter test (range_with_len 0 (n + 1)) ≡ filter test (range_with_len 0 n) ++ [] = rw fails at (numbers_where_more test n) in
    so_far ∙ ap (map f) (sym (none ∙ append-nil (filter test (range_with_len 0 n))))

-- of one path, said in two ways
pub made_same : {n m : ℕ} {row other : List ℕ} (left : ℕ) (table : List ℕ) → m ≡ n → other ≡ row →
    made_of_path m left (held_in m table) other ≡ made_of_path n left (held_in n table) row
made_same {n} {m} {row} {other} left table cluster same = ap (λ k. made_of_path k left (held_in k table) other) cluster ∙ ap (made_of_path n left (held_in n table)) same

-- and of one that is given as a row
pub made_of_row : (c : Cluster) (table row other : List ℕ) (m left : ℕ) → m ≡ c.nodes → left ≡ c.faults + 1 - length row → other ≡ row →
    made_of_path m left (held_in m table) other ≡ made_of c table row
made_of_row c table row other m left nodes tellings same =
    made_same left table nodes same ∙ ap (λ left. made_of_path c.nodes left (held_in c.nodes table) row) tellings

-- the results when each is there
pub all_results : (c : Cluster) (table memory : List ℕ) → length memory ≡ c.nodes →
    ((k : ℕ) → k < c.nodes → slice_index memory k ≡ result_for c.nodes c.faults (held_for c table) k) → memory ≡ results_of c table
all_results c table memory long each = fill_by_all (result_for c.nodes c.faults (held_for c table)) memory c.nodes 0 long each

pub results_are_made : ResultsAreMade
unfolding made_of_path
results_are_made c table = record {
  alone = λ r h.
      let tellings : c.faults ≡ c.faults + 1 - 1 = omega arith in
      get_or-map-range_with_len (result_for c.nodes c.faults (held_for c table)) 0 c.nodes r r 0 h (omega arith)
      ∙ ap (λ left. made_of_path c.nodes left (held_for c table) (r ∷ [])) tellings;
  shorter = λ path short.
      let more : c.faults + 1 - length path ≡ suc (c.faults + 1 - suc (length path)) = omega (arith, short) in
      ap (λ left. made_of_path c.nodes left (held_for c table) path) more;
  told_last = λ path long. let none : c.faults + 1 - length path ≡ 0 = omega (arith, long) in rw none refl;
}
