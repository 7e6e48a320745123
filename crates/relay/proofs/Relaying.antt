-- What is held of what was told. Assumes nothing.
use Rattle.std.proofs.Common.{◌≡◌, ℕ, zero, suc, ◌+◌, ◌^◌, ◌<◌, Bool, true, false, not, ◌||◌, ◌==◌, List, [], ◌∷◌, length, map, get_or, slice_index, inl, inr, sym, refl, ap, ◌∙◌, arith}
use Rattle.std.specs.List.{Contains, filter, range_with_len}
use Rattle.std.proofs.Math.Nat.{pow-suc, one-le-pow}
use Rattle.std.proofs.lemmas.Bool.{cases_Bool, or_parts, eqb-true, eqb-false, true≢false, false≢true, not-true, and_parts, and_from, ltb-true}
use Rattle.std.proofs.lemmas.Bool.Decides.{nat_tests}
use Rattle.std.proofs.lemmas.Nat.{same_from_place, mul-le}
use Rattle.std.proofs.lemmas.List.{get_or-set_same, get_or-map, length-drop}
use Rattle.std.proofs.lemmas.List.Elements.{All-head, All-cons, All-nil, All-contains, All-filter, filter_passes}
use Rattle.clock.specs.declared.limits.Cluster.{Cluster}
use Rattle.frame.specs.Layout.{place_in_cycle, value_count_of, frame_length_of, payload_of, values_in}
use Rattle.frame.specs.Writing.{first_values}
use Rattle.frame.specs.declared.turn.Turn.{Turn}
use Rattle.frame.specs.declared.reading.Reception.TheVariants.{Whole, TurnedAway}
use Rattle.frame.proofs.Payloads.{length-values_in}
use Rattle.frame.proofs.Frames.{received_whole}
use Rattle.relay.specs.Paths.{AllBelow, stands_in, is_path, is_path_without, index_of, rows}
use Rattle.relay.specs.Tables.{table_length_of, held_for, with_entry}
use Rattle.relay.specs.Telling.{paths_of, IsTold, told_from, heard_in, Entered}
use Rattle.relay.specs.Theorems.{IsPathBehind, turn_in, EnteredAll, RoundIsWhole, PathsAreInOrder, ValuesAreAsMany, Relays, HoldsWhatItTells, SilenceIsZero, OthersStay, FirstIsOwn, TablesAreWithin}
use Rattle.relay.proofs.Lists.{list_by_index}
use Rattle.relay.proofs.Numbers.{index_below, power_small, rows_long}
use Rattle.relay.proofs.Order.{listed}
use Rattle.relay.proofs.Told.{path_parts, longer}
use Rattle.relay.proofs.Counts.{paths_are_as_many}
use Rattle.relay.proofs.Entering.{told_by_index}
use Rattle.relay.proofs.Turns.{place_of, indices_rise, entry_within}

-- the paths that are told of are those that are listed
path_below : (n : ℕ) (row : List ℕ) → is_path n row ≡ true → AllBelow n row
path_below n [] path = All-nil (λ node. node < n)
path_below n (node ∷ row) path =
    let p = path_parts n node row path in
    All-cons (λ node. node < n) node row (ltb-true node n p.within) (path_below n row p.behind)

kept_in : (p : List ℕ → Bool) (all : List (List ℕ)) (x : List ℕ) → p x ≡ true → Contains all x → Contains (filter p all) x
kept_in p [] x passes (k, h, is) = absurd (omega (arith, h))
kept_in p (y ∷ all) x passes (zero, h, is) = let here : p y ≡ true = ap p is ∙ passes in rw here (0, omega arith, is)
kept_in p (y ∷ all) x passes (suc k, h, is) =
    let (j, within, there) = kept_in p all x passes (k, omega (arith, h), is) in
    elim (cases_Bool (p y)) [
      | inl one ↦ rw one (suc j, omega (arith, within), there)
      | inr none ↦ rw none (j, within, there)
    ]

each : (t : Turn) (path : List ℕ) → IsTold t path → Contains (paths_of t) path
each t path told =
    let n = t.cluster.nodes in
    let (is, free) = and_parts (is_path n path) (not (stands_in t.sender path)) told.path_without_sender in
    kept_in (is_path_without n t.sender) (rows n (place_of t)) path told.path_without_sender
    (listed n (place_of t) path (record { as_long = told.as_long; of_cluster = path_below n path is }))

only : (t : Turn) (path : List ℕ) → Contains (paths_of t) path → IsTold t path
only t path in_list =
    let told = is_path_without t.cluster.nodes t.sender in
    let all = rows t.cluster.nodes (place_of t) in record {
      as_long = All-contains (λ row. length row ≡ place_of t) (paths_of t) path (All-filter told (λ row. length row ≡ place_of t) all (rows_long t.cluster.nodes (place_of t))) in_list;
      path_without_sender = All-contains (λ row. told row ≡ true) (paths_of t) path (filter_passes told all) in_list;
    }

pub shorter_path : (t : Turn) (path : List ℕ) → IsPathBehind t path → IsTold t path
shorter_path t path longer =
    let n = t.cluster.nodes in
    let p = path_parts n t.sender path longer.with_sender in
    record { as_long = longer.as_long; path_without_sender = and_from (is_path n path) (not (stands_in t.sender path)) p.behind (ap not p.free) }

longer_path : (t : Turn) (path : List ℕ) → t.sender < t.cluster.nodes → IsTold t path → is_path t.cluster.nodes (t.sender ∷ path) ≡ true
longer_path t path known told =
    let n = t.cluster.nodes in
    let (is, free) = and_parts (is_path n path) (not (stands_in t.sender path)) told.path_without_sender in
    longer n t.sender path known (not-true (stands_in t.sender path) free) is

pub paths_in_order : PathsAreInOrder
paths_in_order t = record {
  each = λ path. (each t path, only t path);
  rising = indices_rise t;
  in_front = λ known path. (λ told. record { as_long = told.as_long; with_sender = longer_path t path known told }, shorter_path t path);
  within = λ known path told.
      let n = t.cluster.nodes in
      let (is, free) = and_parts (is_path n path) (not (stands_in t.sender path)) told.path_without_sender in
      let small : index_of n path < n ^ place_of t = rw told.as_long at (index_below n path (path_below n path is)) in
      entry_within t (index_of n path) known small;
}

-- a frame has a value for each
pub as_many_values : ValuesAreAsMany
as_many_values t known =
    let count = paths_are_as_many t.cluster.nodes t.sender (place_of t) known in record {
      count = count;
      all_heard = λ frame taken.
          let long : length frame ≡ frame_length_of t = grind (arith, nat_tests) in
          let many : length (values_in (payload_of frame)) ≡ length (paths_of t) = omega (arith, length-values_in (payload_of frame), length-drop 5 frame, long, count) in
          ap (λ n. map (slice_index (values_in (payload_of frame))) (range_with_len 0 n)) (sym many) ∙ sym (list_by_index (values_in (payload_of frame)));
    }

-- what gives the same list for the paths that are told of gives the same for each of them
pub same_for : (t : Turn) (f g : List ℕ → ℕ) → map f (paths_of t) ≡ map g (paths_of t) → (path : List ℕ) → IsTold t path → f path ≡ g path
same_for t f g same path told =
    let (k, within, is) = each t path told in
    ap f (sym is) ∙ sym (get_or-map f (paths_of t) k path 0 within) ∙ ap (λ values. get_or values k 0) same ∙ get_or-map g (paths_of t) k path 0 within ∙ ap g is

-- so what is held for the node in front of a path
held_of : (t : Turn) (f : List ℕ → ℕ) (old new : List ℕ) → Entered t (map f (paths_of t)) old new → (path : List ℕ) → IsTold t path →
    held_for t.cluster new (t.sender ∷ path) ≡ f path
held_of t f old new entered path told = same_for t (λ path. held_for t.cluster new (t.sender ∷ path)) f entered.told path told

pub silence_is_zero : SilenceIsZero
silence_is_zero t old new entered path told = held_of t (λ path. 0) old new entered path told

pub holds_what_it_tells : HoldsWhatItTells
holds_what_it_tells t table old new entered path told = held_of t (held_for t.cluster table) old new entered path told

-- what is written into a frame is all that is told
all_told : (t : Turn) (table : List ℕ) → t.sender < t.cluster.nodes → first_values (slice_index (told_from t table)) (value_count_of t) ≡ told_from t table
all_told t table known =
    ap (λ n. map (slice_index (told_from t table)) (range_with_len 0 n)) (sym (paths_are_as_many t.cluster.nodes t.sender (place_of t) known)) ∙ told_by_index t table

-- and what is heard of a payload that has these values
pub heard_as_told : (t : Turn) (table payload : List ℕ) → t.sender < t.cluster.nodes →
    values_in payload ≡ first_values (slice_index (told_from t table)) (value_count_of t) → heard_in t payload ≡ told_from t table
heard_as_told t table payload known same =
    ap (λ values. map (slice_index values) (range_with_len 0 (length (paths_of t)))) (same ∙ all_told t table known) ∙ told_by_index t table

pub relays : Relays
relays t table memory old new deviation (Whole ahead payload) known fit received entered =
    let same = (received_whole t (slice_index (told_from t table)) memory deviation (Whole ahead payload) fit received).1 in
    let heard : heard_in t payload.now ≡ told_from t table = heard_as_told t table payload.now known same in
    let own : Entered t (told_from t table) old new = rw heard at entered in
    record { entered = own; held = held_of t (held_for t.cluster table) old new own }
relays t table memory old new deviation (TurnedAway refusal) known fit received entered =
    absurd (received_whole t (slice_index (told_from t table)) memory deviation (TurnedAway refusal) fit received)

pub others_stay : OthersStay
others_stay t values old new known entered other row within differs =
    let n = t.cluster.nodes in
    entered.kept (index_of n (other ∷ row)) (λ path told same. differs (same_from_place (index_of n row) other (index_of n path) t.sender n within known same).1)

-- what was entered of a node stays when others are entered, so in the end it is there of each
stays : (c : Cluster) (round : ℕ) (values : ℕ → List ℕ) (senders old new : List ℕ) → is_path c.nodes senders ≡ true → EnteredAll c round values senders old new →
    (node : ℕ) → node < c.nodes → stands_in node senders ≡ false → (row : List ℕ) → held_for c new (node ∷ row) ≡ held_for c old (node ∷ row)
stays c round values [] old new path same node known free row = ap (λ table. held_for c table (node ∷ row)) same
stays c round values (sender ∷ senders) old new path (between, entered, rest) node known free row =
    let p = path_parts c.nodes sender senders path in
    let (differs, others) = or_parts (sender == node) (stands_in node senders) free in
    stays c round values senders between new p.behind rest node known others row
    ∙ others_stay (turn_in c round sender) (values sender) old between (ltb-true sender c.nodes p.within) entered node row known (λ same. eqb-false sender node differs (sym same))

other_stands : (a b : Bool) → a ≡ false → (a || b) ≡ true → b ≡ true
other_stands true b fails holds = absurd (true≢false fails)
other_stands false b fails holds = holds

told_of_each : (c : Cluster) (round : ℕ) (values : ℕ → List ℕ) (senders old new : List ℕ) → is_path c.nodes senders ≡ true → EnteredAll c round values senders old new →
    (sender : ℕ) → stands_in sender senders ≡ true → map (λ path. held_for c new (sender ∷ path)) (paths_of (turn_in c round sender)) ≡ values sender
told_of_each c round values [] old new path same sender stands = absurd (false≢true stands)
told_of_each c round values (first ∷ senders) old new path (between, entered, rest) sender stands =
    let p = path_parts c.nodes first senders path in
    let kept : (row : List ℕ) → held_for c new (first ∷ row) ≡ held_for c between (first ∷ row) = λ row. stays c round values senders between new p.behind rest first (ltb-true first c.nodes p.within) p.free row in
    let here : map (λ path. held_for c new (first ∷ path)) (paths_of (turn_in c round first)) ≡ values first =
    (λ i. map (λ path. kept path i) (paths_of (turn_in c round first))) ∙ entered.told in
    elim (cases_Bool (first == sender)) [
      | inl same ↦ rw (eqb-true first sender same) at here
      | inr differs ↦ told_of_each c round values senders between new p.behind rest sender (other_stands (first == sender) (stands_in sender senders) differs stands)
    ]

-- so the entries of all paths of the round are those of what was entered
one_behind : (c : Cluster) (round : ℕ) (values : ℕ → List ℕ) (senders new other : List ℕ) →
    ((sender : ℕ) → stands_in sender senders ≡ true → map (λ path. held_for c new (sender ∷ path)) (paths_of (turn_in c round sender)) ≡ values sender) →
    ((sender : ℕ) → stands_in sender senders ≡ true → map (λ path. held_for c other (sender ∷ path)) (paths_of (turn_in c round sender)) ≡ values sender) →
    ((node : ℕ) → node < c.nodes → stands_in node senders ≡ true) →
    (path : List ℕ) → length path ≡ place_in_cycle c round + 1 → is_path c.nodes path ≡ true → held_for c new path ≡ held_for c other path
one_behind c round values senders new other one two all [] long path = absurd (omega (arith, long))
one_behind c round values senders new other one two all (first ∷ behind) long path =
    let t = turn_in c round first in
    let within = All-head (λ node. node < c.nodes) first behind (path_below c.nodes (first ∷ behind) path) in
    let told = shorter_path t behind (record { as_long = omega (arith, long); with_sender = path }) in
    let value : List ℕ → List ℕ → ℕ = λ table path. held_for c table (first ∷ path) in
    same_for t (value new) (value other) (one first (all first within) ∙ sym (two first (all first within))) behind told

pub round_is_whole : RoundIsWhole
round_is_whole c round values senders old new path entered = record {
  told = told_of_each c round values senders old new path entered;
  nothing_old = λ all other last again.
      one_behind c round values senders new last (told_of_each c round values senders old new path entered) (told_of_each c round values senders other last path again) all;
}

pub tables_within : TablesAreWithin
tables_within c = record {
  least =
      let one : c.faults + 1 ≡ suc c.faults = omega arith in
      let more = mul-le 1 4 (c.nodes ^ c.faults) c.nodes (one-le-pow c.faults c.nodes (omega (arith, c.enough))) c.enough in
      rw (one, pow-suc c.nodes c.faults) (omega (arith, more));
  most = power_small c.nodes (c.faults + 1) c.most (omega (arith, c.few));
  longest = λ nodes faults. rw (nodes, faults) refl;
  constant = refl;
}

-- the value that is put into a table as a cycle begins
pub own_value : (c : Cluster) (value : ℕ) (table : List ℕ) → length table ≡ table_length_of c → held_for c (with_entry c [] value table) [] ≡ value
own_value c value table long = get_or-set_same table 0 value 0 (omega (arith, long, (tables_within c).least))

pub first_is_own : FirstIsOwn
first_is_own t value table first long =
    let own = own_value t.cluster value table long in record {
      told = rw first (ap (λ told. told ∷ []) own);
      held = λ old new entered.
          holds_what_it_tells t (with_entry t.cluster [] value table) old new entered [] (record { as_long = sym first; path_without_sender = refl }) ∙ own;
    }
