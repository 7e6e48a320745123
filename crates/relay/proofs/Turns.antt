-- The paths that a node tells of in its turn, and their numbers. Assumes nothing.
use Rattle.std.proofs.Common.{◌≡◌, ℕ, suc, ◌+◌, ◌*◌, ◌^◌, ◌≤◌, ◌<◌, Bool, not, List, [], length, map, get_or, slice_index, refl, arith}
use Rattle.std.specs.List.{All, filter, range_with_len}
use Rattle.std.specs.List.Sorted.{IsStrictlyIncreasing}
use Rattle.std.proofs.Math.Nat.{pow-le-pow_right}
use Rattle.std.proofs.lemmas.List.FromFn.{length-range_with_len, get_or-range_with_len}
use Rattle.std.proofs.lemmas.List.{get_or-map, length-map}
use Rattle.std.proofs.lemmas.List.Elements.{All-filter, filter_passes, All-same}
use Rattle.std.proofs.lemmas.List.Filters.{length-filter_both}
use Rattle.std.proofs.lemmas.List.Kept.{AllPairs-from_increasing, IsStrictlyIncreasing-filter}
use Rattle.frame.specs.Layout.{place_in_cycle}
use Rattle.frame.proofs.Counts.{within_cycle}
use Rattle.frame.specs.declared.turn.Turn.{Turn}
use Rattle.relay.specs.Paths.{index_of, is_path_without, rows, row_at}
use Rattle.relay.specs.Tables.{table_length_of}
use Rattle.relay.specs.Telling.{paths_of, IsTold}
use Rattle.relay.proofs.Numbers.{index_more, numbers_where, rows_long, range_below}

-- how many nodes the paths have, and their numbers
abbrev pub place_of : Turn → ℕ
place_of t = place_in_cycle t.cluster t.round

abbrev pub indices_of : Turn → List ℕ
indices_of t = map (index_of t.cluster.nodes) (paths_of t)

indices_are : (t : Turn) →
    indices_of t ≡ filter (λ index. is_path_without t.cluster.nodes t.sender (row_at t.cluster.nodes (place_of t) index)) (range_with_len 0 (t.cluster.nodes ^ place_of t))
indices_are t = numbers_where (is_path_without t.cluster.nodes t.sender) t.cluster.nodes (place_of t)

-- they are below n to the power of the place, and rise
pub indices_below : (t : Turn) → All (λ index. index < t.cluster.nodes ^ place_of t) (indices_of t)
indices_below t =
    let m = t.cluster.nodes ^ place_of t in
    All-same (λ index. index < m) (indices_of t) (filter (λ index. is_path_without t.cluster.nodes t.sender (row_at t.cluster.nodes (place_of t) index)) (range_with_len 0 m)) (indices_are t)
    (All-filter (λ index. is_path_without t.cluster.nodes t.sender (row_at t.cluster.nodes (place_of t) index)) (λ index. index < m) (range_with_len 0 m) (range_below m))

range_rises : (n : ℕ) → IsStrictlyIncreasing (range_with_len 0 n)
range_rises n k h =
    let long = length-range_with_len 0 n in
    let here = get_or-range_with_len 0 n k 0 (omega (arith, long, h)) in
    let next = get_or-range_with_len 0 n (k + 1) 0 (omega (arith, long, h)) in
    omega (arith, here, next)

pub indices_rise : (t : Turn) → IsStrictlyIncreasing (indices_of t)
indices_rise t =
    let told : ℕ → Bool = λ index. is_path_without t.cluster.nodes t.sender (row_at t.cluster.nodes (place_of t) index) in
    rw (indices_are t) (IsStrictlyIncreasing-filter told (range_with_len 0 (t.cluster.nodes ^ place_of t)) (range_rises (t.cluster.nodes ^ place_of t)))

pub indices_differ : (t : Turn) (i j : ℕ) → i < j → j < length (indices_of t) → slice_index (indices_of t) i < slice_index (indices_of t) j
indices_differ t i j h l = AllPairs-from_increasing (indices_of t) (indices_rise t) i j 0 h l

-- with the sender in front they are numbers of the table
pub entry_within : (t : Turn) (index : ℕ) → t.sender < t.cluster.nodes → index < t.cluster.nodes ^ place_of t →
    index * t.cluster.nodes + t.sender < table_length_of t.cluster
entry_within t index known within =
    let n = t.cluster.nodes in
    let here = index_more n (place_of t) index t.sender known within in
    let more : n ^ suc (place_of t) ≤ n ^ (t.cluster.faults + 1) = pow-le-pow_right (omega (arith, t.cluster.enough)) (omega (arith, within_cycle t)) in
    omega (arith, here, more)

pub index_within_table : (t : Turn) (index : ℕ) → index < t.cluster.nodes ^ place_of t → index < table_length_of t.cluster
index_within_table t index within =
    let more : t.cluster.nodes ^ place_of t ≤ t.cluster.nodes ^ (t.cluster.faults + 1) = pow-le-pow_right (omega (arith, t.cluster.enough)) (omega (arith, within_cycle t)) in
    omega (arith, within, more)

-- each of the paths is one that is told of, and has its number at its place
pub each_is_told : (t : Turn) (j : ℕ) → j < length (paths_of t) → IsTold t (get_or (paths_of t) j [])
each_is_told t j h =
    let told = is_path_without t.cluster.nodes t.sender in
    let all = rows t.cluster.nodes (place_of t) in record {
      as_long = All-filter told (λ row. length row ≡ place_of t) all (rows_long t.cluster.nodes (place_of t)) j [] h;
      path_without_sender = filter_passes told all j [] h;
    }

pub number_at : (t : Turn) (j : ℕ) → j < length (paths_of t) → slice_index (indices_of t) j ≡ index_of t.cluster.nodes (get_or (paths_of t) j [])
number_at t j h = get_or-map (index_of t.cluster.nodes) (paths_of t) j [] 0 h

pub as_many : (t : Turn) → length (indices_of t) ≡ length (paths_of t)
as_many t = length-map (paths_of t) (index_of t.cluster.nodes)

-- and there are no more than rows
pub numbers_at_most : (t : Turn) → length (indices_of t) ≤ t.cluster.nodes ^ place_of t
numbers_at_most t =
    let told : ℕ → Bool = λ index. is_path_without t.cluster.nodes t.sender (row_at t.cluster.nodes (place_of t) index) in
    let m = t.cluster.nodes ^ place_of t in
    rw (indices_are t) (omega (arith, length-filter_both told (λ index. not (told index)) (λ index. refl) (range_with_len 0 m), length-range_with_len 0 m))
