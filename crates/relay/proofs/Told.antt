-- Which rows are told of, a node at a time. Assumes nothing.
use Rattle.std.proofs.Common.{◌≡◌, ℕ, suc, ◌-◌, ◌/◌, ◌%◌, ◌≤◌, ◌<◌, Bool, true, false, not, ◌&&◌, ◌||◌, ◌==◌, nat_lt, List, ◌∷◌, inl, inr, sym, refl, ap, ◌∙◌, arith}
use Rattle.std.proofs.lemmas.Bool.{cases_Bool, and_parts, and_from, and_cases, and_left, and_right, or_parts, or_right, not-true, not-false, not_from_true, lt-ltb, false≢true}
use Rattle.std.proofs.lemmas.Nat.{mod_below}
use Rattle.relay.specs.Nodes.{among, added}
use Rattle.relay.specs.Paths.{stands_in, is_path, is_path_without, row_at}
use Rattle.relay.specs.declared.nodes.NodeSet.{NodeSet}

-- what is said of a path with a node in front
pub record PathParts (n node : ℕ) (path : List ℕ) : Type 0 where
  pub within : nat_lt node n ≡ true
  pub free : stands_in node path ≡ false
  pub behind : is_path n path ≡ true

pub path_parts : (n node : ℕ) (path : List ℕ) → is_path n (node ∷ path) ≡ true → PathParts n node path
path_parts n node path is =
    let (front, behind) = and_parts (nat_lt node n && not (stands_in node path)) (is_path n path) is in
    let (within, free) = and_parts (nat_lt node n) (not (stands_in node path)) front in
    record { within = within; free = not-true (stands_in node path) free; behind = behind }

-- and what makes one
pub longer : (n node : ℕ) (path : List ℕ) → node < n → stands_in node path ≡ false → is_path n path ≡ true → is_path n (node ∷ path) ≡ true
longer n node path within free is =
    and_from (nat_lt node n && not (stands_in node path)) (is_path n path) (and_from (nat_lt node n) (not (stands_in node path)) (lt-ltb node n within) (ap not free)) is

-- and of one that a node tells of
pub record Parts (n sender node : ℕ) (path : List ℕ) : Type 0 where
  pub of_cluster : nat_lt node n ≡ true
  pub stood_not : stands_in node path ≡ false
  pub path_behind : is_path n path ≡ true
  pub not_sender : (node == sender) ≡ false
  pub sender_not : stands_in sender path ≡ false

pub parts : (n sender node : ℕ) (path : List ℕ) → is_path_without n sender (node ∷ path) ≡ true → Parts n sender node path
parts n sender node path told =
    let (path_is, sender_free) = and_parts (is_path n (node ∷ path)) (not (stands_in sender (node ∷ path))) told in
    let p = path_parts n node path path_is in
    let (differs, others) = or_parts (node == sender) (stands_in sender path) (not-true (stands_in sender (node ∷ path)) sender_free) in
    record {
      of_cluster = p.within;
      stood_not = p.free;
      path_behind = p.behind;
      not_sender = differs;
      sender_not = others;
    }

-- a row is told of with a node in front only if it is told of itself
pub told_behind : (n sender node : ℕ) (row : List ℕ) → is_path_without n sender row ≡ false → is_path_without n sender (node ∷ row) ≡ false
told_behind n sender node row not_told =
    elim (and_cases (is_path n row) (not (stands_in sender row)) not_told) [
      | inl no_path ↦
          and_left (is_path n (node ∷ row)) (not (stands_in sender (node ∷ row)))
          (and_right (nat_lt node n && not (stands_in node row)) (is_path n row) no_path)
      | inr stands ↦
          let holds : stands_in sender row ≡ true = not-false (stands_in sender row) stands in
          and_right (is_path n (node ∷ row)) (not (stands_in sender (node ∷ row)))
          (not_from_true (stands_in sender (node ∷ row)) (or_right (node == sender) (stands_in sender row) holds))
    ]

-- and then if the node is another one than the first, and may stand in front of what is behind it
pub told_more : (n sender node first : ℕ) (path : List ℕ) → is_path_without n sender (first ∷ path) ≡ true →
    is_path_without n sender (node ∷ first ∷ path) ≡ (not (first == node) && is_path_without n sender (node ∷ path))
told_more n sender node first path told =
    let p = parts n sender first path told in
    elim (cases_Bool (first == node)) [
      | inl same ↦ elim (cases_Bool (nat_lt node n)) [ inl a ↦ rw (same, a) | inr b ↦ rw (same, b) ]
      | inr differs ↦ rw (differs, p.of_cluster, p.stood_not, p.path_behind, p.not_sender, p.sender_not)
    ]

-- which nodes may not stand in front of a row, from which may not in front of what is behind its first node
abbrev pub BarredBefore : ℕ → ℕ → List ℕ → NodeSet → Type 0
BarredBefore n sender row set = (node : ℕ) → node < n → among set node ≡ not (is_path_without n sender (node ∷ row))

first_of_row : (n count index : ℕ) → 0 < count → row_at n count index ≡ index % n ∷ row_at n (count - 1) (index / n)
first_of_row n count index some = let one : count ≡ suc (count - 1) = omega (arith, some) in ap (λ k. row_at n k index) one

either : (same told in_set within : Bool) → within ≡ true → in_set ≡ not told → ((within && same) || in_set) ≡ not (not same && told)
either true told in_set true h was = refl
either false true in_set true h was = was
either false false in_set true h was = was
either same told in_set false h was = absurd (false≢true h)

pub barred_all : (n sender count index : ℕ) (behind set : NodeSet) → 0 < n → n ≤ 16 → 0 < count →
    BarredBefore n sender (row_at n (count - 1) (index / n)) behind → among behind (index % n) ≡ true →
    ((node : ℕ) → among set node ≡ nat_lt node 16) → BarredBefore n sender (row_at n count index) set
barred_all n sender count index behind set some few more before stands all node h =
    let first = index % n in
    let path = row_at n (count - 1) (index / n) in
    let told : is_path_without n sender (first ∷ path) ≡ false = not-true (is_path_without n sender (first ∷ path)) (sym (before first (mod_below index n some)) ∙ stands) in
    let no : is_path_without n sender (node ∷ first ∷ path) ≡ false = told_behind n sender node (first ∷ path) told in
    rw (first_of_row n count index more, no) (all node ∙ lt-ltb node 16 (omega (arith, h, few)))

pub barred_more : (n sender count index : ℕ) (behind set : NodeSet) → 0 < n → n ≤ 16 → 0 < count →
    BarredBefore n sender (row_at n (count - 1) (index / n)) behind → among behind (index % n) ≡ false →
    ((node : ℕ) → among set node ≡ added (among behind) (index % n) node) → BarredBefore n sender (row_at n count index) set
barred_more n sender count index behind set some few more before free one node h =
    let first = index % n in
    let path = row_at n (count - 1) (index / n) in
    let small = lt-ltb first 16 (omega (arith, mod_below index n some, few)) in
    let told : is_path_without n sender (first ∷ path) ≡ true = not-false (is_path_without n sender (first ∷ path)) (sym (before first (mod_below index n some)) ∙ free) in
    let is = told_more n sender node first path told in
    let was = before node h in
    rw (first_of_row n count index more, is) (one node ∙ either (first == node) (is_path_without n sender (node ∷ path)) (among behind node) (nat_lt first 16) small was)
