-- What is left of the numbers of the paths that a node tells of. Assumes nothing.
use Rattle.std.proofs.Common.{◌≡◌, ℕ, suc, ◌+◌, ◌-◌, ◌*◌, ◌^◌, ◌<◌, Bool, true, false, not, map, cond, ◌∷◌, sym, refl, ap, ◌∙◌, arith}
use Rattle.std.specs.List.{filter, range_with_len}
use Rattle.relay.specs.Nodes.{among}
use Rattle.relay.specs.Paths.{index_of, is_path_without, paths_without}
use Rattle.relay.specs.Indices.{told_at, next_index, indices_left, OneFurther}
use Rattle.relay.specs.declared.indices.PathIndices.{PathIndices}
use Rattle.relay.proofs.Numbers.{numbers_where}

-- the row that is looked at next is the first of those that are left, or is not told of
pub left_more : (p q : PathIndices) → next_index p < p.end → OneFurther p q →
    indices_left p ≡ cond (told_at p.nodes p.sender p.path_length (next_index p)) (next_index p ∷ indices_left q) (indices_left q)
left_more p q h further =
    let one : p.end - next_index p ≡ suc (p.end - (next_index p + 1)) = omega (arith, h) in
    rw (one, further.next, further.same_nodes, further.same_sender, further.same_count, further.same_end) refl

-- whether it is told of says the set of those that may not stand first
turned : (told barred : Bool) → barred ≡ not told → told ≡ not barred
turned true barred is = sym (ap not is)
turned false barred is = sym (ap not is)

pub next_told : (p : PathIndices) (barred : Bool) → barred ≡ among p.barred p.first → told_at p.nodes p.sender p.path_length (next_index p) ≡ not barred
next_told p barred is = turned (told_at p.nodes p.sender p.path_length (next_index p)) barred (is ∙ p.told p.first p.within)

pub left_told : (p q : PathIndices) (barred : Bool) → next_index p < p.end → OneFurther p q → barred ≡ among p.barred p.first → barred ≡ false → indices_left p ≡ next_index p ∷ indices_left q
left_told p q barred h further is told = let test = next_told p barred is in left_more p q h further ∙ rw (test, told)

pub left_passed : (p q : PathIndices) (barred : Bool) → next_index p < p.end → OneFurther p q → barred ≡ among p.barred p.first → barred ≡ true → indices_left p ≡ indices_left q
left_passed p q barred h further is told = let test = next_told p barred is in left_more p q h further ∙ rw (test, told)

-- at the start all indices are left
pub left_at_start : (nodes sender path_length end n count : ℕ) → nodes ≡ n → path_length ≡ count → end ≡ nodes ^ path_length →
    filter (told_at nodes sender path_length) (range_with_len (0 * nodes + 0) (end - (0 * nodes + 0))) ≡ map (index_of n) (paths_without n sender count)
left_at_start nodes sender path_length end n count same_nodes same_count is =
    let start : 0 * nodes + 0 ≡ 0 = omega arith in
    let all : n ^ count - 0 ≡ n ^ count = omega arith in
    rw (start, is, same_nodes, same_count, all) (sym (numbers_where (is_path_without n sender) n count))
