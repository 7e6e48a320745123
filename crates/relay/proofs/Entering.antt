-- Values that are entered into a table one after the other. Assumes nothing.
use Rattle.std.proofs.Common.{◌≡◌, ℕ, ◌++◌, ◌^◌, Option, Some, None, MatchOption, drop, ◌+◌, ◌*◌, ◌^◌, ◌≤◌, ◌<◌, List, [], ◌∷◌, length, map, get_or, slice_index, slice_set, ◌≢◌, inl, inr, sym, refl, ap, ◌∙◌, arith}
use Rattle.std.specs.List.{range_with_len}
use Rattle.std.proofs.lemmas.Bool.{cases_eq, cases_lt}
use Rattle.std.proofs.lemmas.Nat.{same_from_place}
use Rattle.std.proofs.lemmas.List.{get_or-set_same, get_or-set_other, length-set, length-map, get_or-map, get_or_past, drop_all, append-nil}
use Rattle.std.proofs.lemmas.List.FromFn.{fill_by_all}
use Rattle.frame.specs.Layout.{values_in}
use Rattle.frame.proofs.Counts.{within_cycle}
use Rattle.frame.specs.declared.turn.Turn.{Turn}
use Rattle.relay.specs.Tables.{table_length_of, held_for}
use Rattle.relay.specs.Telling.{paths_of, told_from, heard_in, nothing_heard, Entered}
use Rattle.relay.proofs.Lists.{Yields, yields, next_of, none_left, list_by_index}
use Rattle.relay.proofs.Numbers.{power_small}
use Rattle.relay.proofs.Turns.{indices_of, numbers_at_most, indices_differ, indices_below, index_within_table, entry_within, place_of, each_is_told, number_at, as_many}

-- where the value of a path goes, by the path's number
abbrev pub entry : Turn → ℕ → ℕ
entry t index = index * t.cluster.nodes + t.sender

-- a table into which the values of the first paths were entered, so many of them
pub record EnteredTo (t : Turn) (value : ℕ → ℕ) (count : ℕ) (old new : List ℕ) : Type 0 where
  pub told : (j : ℕ) → j < count → slice_index new (entry t (slice_index (indices_of t) j)) ≡ value j
  pub kept : (i : ℕ) → ((j : ℕ) → j < count → i ≡ entry t (slice_index (indices_of t) j) → ⊥) → slice_index new i ≡ slice_index old i
  pub same_length : length new ≡ length old

pub entered_none : (t : Turn) (value : ℕ → ℕ) (table : List ℕ) → EnteredTo t value 0 table table
entered_none t value table = record {
  told = λ j h. absurd (omega (arith, h));
  kept = λ i other. refl;
  same_length = refl;
}

-- two paths' values go to two places
apart : (t : Turn) (j k : ℕ) → t.sender < t.cluster.nodes → j < k → k < length (indices_of t) →
    entry t (slice_index (indices_of t) j) ≡ entry t (slice_index (indices_of t) k) → ⊥
apart t j k known h l same =
    let index = same_from_place (slice_index (indices_of t) j) t.sender (slice_index (indices_of t) k) t.sender t.cluster.nodes known known same in
    absurd (omega (arith, index.0, indices_differ t j k h l))

cases_apart : (j count : ℕ) → j < count + 1 → (j ≡ count → ⊥) → j < count
cases_apart j count h differs = elim (cases_lt j count) [ inl earlier ↦ earlier | inr later ↦ absurd (differs (omega (arith, h, later))) ]

pub entered_more : (t : Turn) (value : ℕ → ℕ) (count : ℕ) (old new : List ℕ) (at v : ℕ) → t.sender < t.cluster.nodes → count < length (indices_of t) →
    at ≡ entry t (slice_index (indices_of t) count) → at < length new → v ≡ value count → EnteredTo t value count old new →
    EnteredTo t value (count + 1) old (slice_set new at v)
entered_more t value count old new at v known within is fits value_is before = record {
  told = λ j h.
      elim (cases_eq j count) [
        | inl same ↦
            let here : entry t (slice_index (indices_of t) j) ≡ at = ap (λ k. entry t (slice_index (indices_of t) k)) same ∙ sym is in
            rw here (get_or-set_same new at v 0 fits) ∙ value_is ∙ ap value (sym same)
        | inr differs ↦
            let earlier : j < count = cases_apart j count h differs in
            let other : entry t (slice_index (indices_of t) j) ≢ at = λ same. apart t j count known earlier within (same ∙ is) in
            get_or-set_other new at (entry t (slice_index (indices_of t) j)) v 0 other ∙ before.told j earlier
      ];
  kept = λ i other.
      let elsewhere : i ≢ at = λ same. other count (omega arith) (same ∙ is) in
      get_or-set_other new at i v 0 elsewhere ∙ before.kept i (λ j h. other j (omega (arith, h)));
  same_length = length-set new at v ∙ before.same_length;
}

-- what is at its place for each path is a list of the paths' values
told_as_list : (t : Turn) (value : ℕ → ℕ) (count : ℕ) (old new : List ℕ) → count ≡ length (indices_of t) → EnteredTo t value count old new →
    map (λ path. held_for t.cluster new (t.sender ∷ path)) (paths_of t) ≡ map value (range_with_len 0 (length (paths_of t)))
told_as_list t value count old new all entered =
    let held : List ℕ → ℕ = λ path. held_for t.cluster new (t.sender ∷ path) in
    fill_by_all value (map held (paths_of t)) (length (paths_of t)) 0 (length-map (paths_of t) held)
    (λ k h.
    get_or-map held (paths_of t) k [] 0 h
    ∙ ap (λ index. slice_index new (entry t index)) (sym (number_at t k h))
    ∙ entered.told k (omega (arith, all, as_many t, h)))

pub entered_all : (t : Turn) (value : ℕ → ℕ) (values : List ℕ) (count : ℕ) (old new : List ℕ) → count ≡ length (indices_of t) →
    map value (range_with_len 0 (length (paths_of t))) ≡ values → EnteredTo t value count old new → Entered t values old new
entered_all t value values count old new all are entered = record {
  told = told_as_list t value count old new all entered ∙ are;
  kept = λ index other.
      entered.kept index
      (λ j h same.
      let reached : j < length (paths_of t) = omega (arith, all, as_many t, h) in
      other (get_or (paths_of t) j []) (each_is_told t j reached) (same ∙ ap (entry t) (number_at t j reached)));
  same_length = entered.same_length;
}

-- a number that is reached in going through those of the paths is one of the table's, with the sender in front too
pub record Reached (t : Turn) (yielded : List ℕ) (x : ℕ) (rest : List ℕ) : Type 0 where
  pub yields : Yields (indices_of t) yielded x rest
  pub within : x < table_length_of t.cluster
  pub entry_within : t.sender < t.cluster.nodes → entry t x < table_length_of t.cluster
  pub few : table_length_of t.cluster ≤ 65536

pub reached : (t : Turn) (yielded before rest : List ℕ) (x : ℕ) → yielded ++ before ≡ indices_of t → before ≡ x ∷ rest → Reached t yielded x rest
reached t yielded before rest x whole is =
    let next = yields (indices_of t) yielded before rest x whole is in
    let below : slice_index (indices_of t) (length yielded) < t.cluster.nodes ^ place_of t = indices_below t (length yielded) 0 next.within in
    let within : x < t.cluster.nodes ^ place_of t = omega (arith, below, next.here) in
    let longest : table_length_of t.cluster ≤ 65536 = power_small t.cluster.nodes (t.cluster.faults + 1) t.cluster.most (omega (arith, t.cluster.few)) in
    record {
      yields = next;
      within = index_within_table t x within;
      entry_within = λ known. entry_within t x known within;
      few = longest;
    }

pub entered_next : (t : Turn) (value : ℕ → ℕ) (yielded : List ℕ) (x : ℕ) (rest : List ℕ) (old new : List ℕ) (at v : ℕ) → t.sender < t.cluster.nodes →
    length old ≡ table_length_of t.cluster → Reached t yielded x rest → at ≡ entry t x → v ≡ value (length yielded) → EnteredTo t value (length yielded) old new →
    EnteredTo t value (length (yielded ++ x ∷ [])) old (slice_set new at v)
entered_next t value yielded x rest old new at v known long r is value_is before =
    rw r.yields.longer
    (entered_more t value (length yielded) old new at v known r.yields.within (is ∙ ap (entry t) r.yields.here)
    (omega (arith, is, r.entry_within known, before.same_length, long)) value_is before)

-- what was gone through when nothing is left is all
pub all_yielded : (t : Turn) (yielded rest : List ℕ) → yielded ++ rest ≡ indices_of t → rest ≡ [] → length yielded ≡ length (indices_of t)
all_yielded t yielded rest whole none = ap length (sym (append-nil yielded) ∙ ap (λ t. yielded ++ t) (sym none) ∙ whole)

-- a value that a table holds for a path, by the path's number
pub told_at_index : (t : Turn) (table : List ℕ) (j : ℕ) → j < length (indices_of t) → slice_index (told_from t table) j ≡ slice_index table (slice_index (indices_of t) j)
told_at_index t table j h =
    let within : j < length (paths_of t) = omega (arith, h, as_many t) in
    get_or-map (held_for t.cluster table) (paths_of t) j [] 0 within ∙ ap (slice_index table) (sym (number_at t j within))

pub told_past_end : (t : Turn) (table : List ℕ) (j : ℕ) → length (indices_of t) ≤ j → slice_index (told_from t table) j ≡ 0
told_past_end t table j h = get_or_past (told_from t table) j 0 (omega (arith, h, as_many t, length-map (paths_of t) (held_for t.cluster table)))

-- what a node tells is its list of values
pub told_by_index : (t : Turn) (table : List ℕ) → map (slice_index (told_from t table)) (range_with_len 0 (length (paths_of t))) ≡ told_from t table
told_by_index t table =
    let long : length (told_from t table) ≡ length (paths_of t) = length-map (paths_of t) (held_for t.cluster table) in
    ap (λ n. map (slice_index (told_from t table)) (range_with_len 0 n)) (sym long) ∙ sym (list_by_index (told_from t table))

-- of no payload nothing is heard
pub nothing_in : (t : Turn) → heard_in t [] ≡ nothing_heard t
nothing_in t =
    sym (fill_by_all (slice_index (values_in [])) (nothing_heard t) (length (paths_of t)) 0 (length-map (paths_of t) (λ path. 0)) (λ k h. get_or-map (λ path. 0) (paths_of t) k [] 0 h))

-- what is told of entries that fit into four bytes fits too
pub told_fits : (t : Turn) (table : List ℕ) (j : ℕ) → ((i : ℕ) → slice_index table i < 4294967296) → slice_index (told_from t table) j < 4294967296
told_fits t table j fits =
    elim (cases_lt j (length (indices_of t))) [
      | inl h ↦ rw (told_at_index t table j h) (fits (slice_index (indices_of t) j))
      | inr h ↦ rw (told_past_end t table j h) (omega arith)
    ]

-- the next value that is told, by the number that comes next, if one does
pub told_next : (t : Turn) (table : List ℕ) (place : ℕ) (before rest : List ℕ) (next : Option ℕ) (v : ℕ) → before ≡ drop place (indices_of t) →
    MatchOption next ((before ≡ []) × (rest ≡ [])) (λ x. before ≡ x ∷ rest) → MatchOption next (v ≡ 0) (λ index. v ≡ slice_index table index) →
    (rest ≡ drop (place + 1) (indices_of t)) × (v ≡ slice_index (told_from t table) place)
told_next t table place before rest None v left (none, nothing) held =
    let past : length (indices_of t) ≤ place = none_left (indices_of t) place (sym left ∙ none) in
    (nothing ∙ sym (drop_all (place + 1) (indices_of t) (omega (arith, past))), held ∙ sym (told_past_end t table place past))
told_next t table place before rest (Some x) v left first held =
    let next = next_of (indices_of t) place x rest (sym left ∙ first) in
    (next.behind, held ∙ ap (slice_index table) next.here ∙ sym (told_at_index t table place next.within))

-- a node tells of fewer paths than its table has entries
pub numbers_few : (t : Turn) → length (indices_of t) ≤ 65536
numbers_few t =
    let small = power_small t.cluster.nodes (place_of t) t.cluster.most (omega (arith, within_cycle t, t.cluster.few)) in
    omega (arith, numbers_at_most t, small)
