-- Tables of a cycle, as what good nodes hold for paths. Assumes nothing.
use Rattle.std.proofs.Common.{◌≡◌, ℕ, zero, suc, ◌+◌, ◌*◌, ◌/◌, ◌%◌, ◌≤◌, ◌<◌, Bool, true, false, ◌==◌, List, [], ◌∷◌, length, map, inl, inr, sym, refl, ap, ◌∙◌, arith}
use Rattle.std.specs.List.{range_with_len}
use Rattle.std.proofs.Math.Nat.{mod-add-div'}
use Rattle.std.proofs.lemmas.Nat.{mod-mul-add}
use Rattle.std.proofs.lemmas.Bool.{cases_eq, or_from, or_right, or_left, eq-eqb, ne_eqb}
use Rattle.std.proofs.lemmas.List.FromFn.{get_or-map-range_with_len}
use Rattle.clock.specs.Rounds.{GoodNode}
use Rattle.clock.specs.declared.limits.Cluster.{Cluster}
use Rattle.frame.specs.Layout.{place_in_cycle}
use Rattle.relay.specs.Paths.{stands_in, is_path}
use Rattle.relay.specs.Tables.{held_for}
use Rattle.relay.specs.Telling.{paths_of, told_from}
use Rattle.relay.specs.Theorems.{turn_in}
use Rattle.relay.proofs.Numbers.{range_agrees}
use Rattle.relay.proofs.Told.{longer}
use Rattle.relay.proofs.Relaying.{same_for, shorter_path, own_value, round_is_whole}
use Rattle.agreement.specs.Majority.{majority}
use Rattle.agreement.specs.Results.{nodes_off, made_of_path, result_for}
use Rattle.agreement.specs.Holdings.{Tells}
use Rattle.agreement.specs.Cycles.{Cycle}
use Rattle.agreement.specs.Theorems.{AgreedByTables}
use Rattle.agreement.proofs.Agreeing.{agreed}

-- the nodes in their order are different ones, and all
stands_past : (x a m : ℕ) → x < a → stands_in x (range_with_len a m) ≡ false
stands_past x a zero h = refl
stands_past x a (suc m) h =
    or_from (a == x) (stands_in x (range_with_len (a + 1) m)) (ne_eqb a x (λ same. absurd (omega (arith, h, same)))) (stands_past x (a + 1) m (omega (arith, h)))

pub in_order : (n a m : ℕ) → a + m ≤ n → is_path n (range_with_len a m) ≡ true
in_order n a zero h = refl
in_order n a (suc m) h =
    longer n a (range_with_len (a + 1) m) (omega (arith, h)) (stands_past a (a + 1) m (omega arith)) (in_order n (a + 1) m (omega (arith, h)))

pub stands_among : (x a m : ℕ) → a ≤ x → x < a + m → stands_in x (range_with_len a m) ≡ true
stands_among x a zero h l = absurd (omega (arith, h, l))
stands_among x a (suc m) h l =
    elim (cases_eq a x) [
      | inl same ↦ or_left (a == x) (stands_in x (range_with_len (a + 1) m)) (eq-eqb a x same)
      | inr differs ↦ or_right (a == x) (stands_in x (range_with_len (a + 1) m)) (stands_among x (a + 1) m (grind (arith, differs, h)) (omega (arith, l)))
    ]

-- the rounds of a cycle have the places 0, 1, 2 ..
pub place_of_round : (c : Cluster) (first k : ℕ) → place_in_cycle c first ≡ 0 → k ≤ c.faults → place_in_cycle c (first + k) ≡ k
place_of_round c first k is_first h =
    let m = c.faults + 1 in
    let whole : first ≡ first / m * m = omega (arith, mod-add-div' first m, is_first) in
    ap (λ round. (round + k) % m) whole ∙ mod-mul-add (first / m) m k (omega (arith, h))

module _ (c : Cluster) (good : ℕ → Bool) (value : ℕ → ℕ) (first : ℕ) (tables : ℕ → ℕ → List ℕ) (cycle : Cycle c good value first tables) where
  -- for a path a node holds what its table has as the round is over whose place is one less than the path has nodes
  abbrev held : ℕ → List ℕ → ℕ
  held p path = held_for c (tables (length path) p) path

  tells : Tells c.nodes c.faults good held
  tells p q path of_p of_q is short =
      let k = length path in
      let t = turn_in c (first + k) q in
      let round = cycle.rounds k p short of_p in
      let whole = round_is_whole c (first + k) round.values round.senders round.old (tables (suc k) p) round.once round.each in
      let entered : map (λ path. held_for c (tables (suc k) p) (q ∷ path)) (paths_of t) ≡ told_from t (tables k q) =
      whole.told q (round.all q of_q.0) ∙ round.told q of_q in
      same_for t (λ path. held_for c (tables (suc k) p) (q ∷ path)) (held_for c (tables k q)) entered path
      (shorter_path t path (record { as_long = sym (place_of_round c first k cycle.is_first short); with_sender = is }))

  given : (p : ℕ) → GoodNode c good p → held p [] ≡ value p
  given p of_p =
      let begun = cycle.begun p of_p in
      ap (λ table. held_for c table []) begun.own ∙ own_value c (value p) begun.old begun.fits

-- what is made of a path depends on what is held for paths of a cycle's rounds only
leaves_only : (n left : ℕ) (held other : List ℕ → ℕ) (path : List ℕ) → ((row : List ℕ) → length row ≡ left + length path → held row ≡ other row) →
    made_of_path n left held path ≡ made_of_path n left other path
unfolding made_of_path
leaves_only n zero held other path same = same path (omega arith)
leaves_only n (suc left) held other path same =
    (λ i. majority (map (λ node. leaves_only n left held other (node ∷ path) (λ row long. same row (omega (arith, long))) i) (nodes_off n path)))

pub agreed_by_tables : AgreedByTables
agreed_by_tables c good value first tables few cycle =
    let last = suc c.faults in
    let by_path = agreed c.nodes c.faults good (held c good value first tables cycle) (omega (arith, c.tolerated)) few (tells c good value first tables cycle) in
    let at_end : (p r : ℕ) → result_for c.nodes c.faults (held c good value first tables cycle p) r ≡ result_for c.nodes c.faults (held_for c (tables last p)) r =
    λ p r. leaves_only c.nodes c.faults (held c good value first tables cycle p) (held_for c (tables last p)) (r ∷ []) (λ row long. ap (λ k. held_for c (tables k p) row) (omega (arith, long))) in
    record {
      same = λ p q of_p of_q. range_agrees 0 (result_for c.nodes c.faults (held_for c (tables last p))) (result_for c.nodes c.faults (held_for c (tables last q))) c.nodes
          (λ r h. sym (at_end p r) ∙ by_path.same p q r of_p of_q h ∙ at_end q r);
      right = λ p r of_p of_r.
          get_or-map-range_with_len (result_for c.nodes c.faults (held_for c (tables last p))) 0 c.nodes r r 0 of_r.0 (omega arith)
          ∙ sym (at_end p r) ∙ by_path.right p r of_p of_r ∙ given c good value first tables cycle r of_r;
    }
