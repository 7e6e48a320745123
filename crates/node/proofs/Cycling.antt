-- A cycle of a run, by the tables that good nodes read and write in it. Assumes nothing.
use Rattle.std.proofs.Common.{◌≡◌, ℕ, zero, suc, ◌+◌, ◌%◌, ◌<◌, ◌≤◌, Bool, cond, ◌==◌, List, [], ◌∷◌, ◌++◌, length, Some, replicate, inl, inr, refl, sym, subst, ap, ◌∙◌, arith}
use Rattle.std.specs.Prelude.{take, drop}
use Rattle.std.specs.List.{range_with_len}
use Rattle.std.specs.Option.{option_map}
use Rattle.std.proofs.Math.Nat.{suc-mod, mod-eq_of_lt, mod-lt}
use Rattle.std.proofs.Math.Numerals.{suc-eq-add-one}
use Rattle.std.proofs.lemmas.Bool.{cases_lt, eq-eqb, ne_eqb}
use Rattle.std.proofs.lemmas.List.{map-id, take_at}
use Rattle.std.proofs.lemmas.List.FromFn.{length-map-range_with_len, map-range_with_len_more}
use Rattle.midpoint.specs.Setting.{most_readings}
use Rattle.clock.specs.Rounds.{GoodNode, FewBad}
use Rattle.clock.specs.declared.limits.Cluster.{Cluster}
use Rattle.schedule.specs.declared.limits.Schedule.{Schedule}
use Rattle.frame.specs.Layout.{place_in_cycle}
use Rattle.frame.specs.Writing.{written_over}
use Rattle.relay.specs.Tables.{table_length_of, with_entry, held_for}
use Rattle.relay.specs.Telling.{told_from, Entered}
use Rattle.relay.specs.Theorems.{turn_in, EnteredAll}
use Rattle.agreement.specs.Results.{results_of, result_for}
use Rattle.agreement.specs.Cycles.{Begun, Cycle}
use Rattle.agreement.proofs.Cycles.{agreed_by_tables, in_order, stands_among, place_of_round}
use Rattle.node.specs.Nodes.{results_in}
use Rattle.node.specs.Runs.{Run, reads, writes, Agreed}
use Rattle.node.proofs.Completing.{one_entered_more}

-- What is known of the tables of good nodes in so many rounds: what each enters of each node, in their order, and that it is what a good one tells; and that as
-- a round is over, the table that was written is the one that is read next, at a cycle's end with the value of the next cycle in it, and that the results then
-- stand.
pub record Kept (s : Schedule) (good : ℕ → Bool) (rounds : ℕ) (r : Run) (values : ℕ → ℕ → ℕ → List ℕ) : Type 0 where
  pub begins :
      (p : ℕ) → GoodNode s.cluster good p →
      (old : List ℕ) × (length old ≡ table_length_of s.cluster) × (reads r 0 p ≡ with_entry s.cluster [] (r.value 0 p) old)
  pub entered :
      (k p q : ℕ) → k < rounds → GoodNode s.cluster good p → q < s.cluster.nodes →
      Entered (turn_in s.cluster k q) (values k p q) (writes r k p q) (writes r k p (suc q))
  pub told :
      (k p q : ℕ) → k < rounds → GoodNode s.cluster good p → GoodNode s.cluster good q →
      values k p q ≡ told_from (turn_in s.cluster k q) (reads r k q)
  pub fits : (k p : ℕ) → k < rounds → GoodNode s.cluster good p → length (writes r k p s.cluster.nodes) ≡ table_length_of s.cluster
  pub next :
      (k p : ℕ) → k < rounds → GoodNode s.cluster good p →
      let whole = writes r k p s.cluster.nodes in
      reads r (suc k) p ≡ cond (place_in_cycle s.cluster k == s.cluster.faults) (with_entry s.cluster [] (r.value (suc k) p) whole) whole
  pub config : (k p : ℕ) → k ≤ rounds → GoodNode s.cluster good p → (r.node k p 0).schedule ≡ s
  pub results :
      (k p : ℕ) → k < rounds → GoodNode s.cluster good p → place_in_cycle s.cluster k ≡ s.cluster.faults →
      (r.node (suc k) p 0).results ≡ Some (written_over (results_of s.cluster (writes r k p s.cluster.nodes)) (replicate most_readings 0))

-- the numbers of a range with one number more
range_further : (n : ℕ) → range_with_len 0 (suc n) ≡ range_with_len 0 n ++ n ∷ []
range_further n =
    let more = map-range_with_len_more (λ (x : ℕ). x) 0 n n (omega arith) in
    ap (range_with_len 0) (suc-eq-add-one n) ∙ (rw (map-id (range_with_len 0 (n + 1)), map-id (range_with_len 0 n)) at more)

-- the round before the first one of a cycle is the last one of another
is_last_before : (c : Cluster) (k : ℕ) → place_in_cycle c (suc k) ≡ 0 → place_in_cycle c k ≡ c.faults
is_last_before c k is_first =
    let m = c.faults + 1 in
    elim (cases_lt (suc (k % m)) m) [
      | inl less ↦ absurd (omega (arith, suc-mod k m, mod-eq_of_lt less, is_first))
      | inr no_less ↦ omega (arith, mod-lt k {m = m} (omega arith), no_less)
    ]

module _ (s : Schedule) (good : ℕ → Bool) (rounds : ℕ) (r : Run) (values : ℕ → ℕ → ℕ → List ℕ) (kept : Kept s good rounds r values) where
  -- behind so many nodes of a round, those before them are entered in their order
  all_entered : (k p count : ℕ) → k < rounds → GoodNode s.cluster good p → count ≤ s.cluster.nodes →
      EnteredAll s.cluster k (values k p) (range_with_len 0 count) (writes r k p 0) (writes r k p count)
  all_entered k p zero in_run of_p h = refl
  all_entered k p (suc count) in_run of_p h =
      subst (λ senders. EnteredAll s.cluster k (values k p) senders (writes r k p 0) (writes r k p (suc count))) (sym (range_further count))
      (one_entered_more s.cluster k (values k p) (range_with_len 0 count) (writes r k p 0) (writes r k p count) (writes r k p (suc count)) count
      (all_entered k p count in_run of_p (omega (arith, h))) (kept.entered k p count in_run of_p (omega (arith, h))))

  -- the table that is read as a cycle begins has the value of the cycle in it
  begun : (first p : ℕ) → first ≤ rounds → GoodNode s.cluster good p → place_in_cycle s.cluster first ≡ 0 → Begun s.cluster (r.value first p) (reads r first p)
  begun zero p in_run of_p is_first = let (old, fits, own) = kept.begins p of_p in record { old = old; fits = fits; own = own }
  begun (suc k) p in_run of_p is_first =
      record {
        old = writes r k p s.cluster.nodes;
        fits = kept.fits k p in_run of_p;
        own = kept.next k p in_run of_p
            ∙ ap (λ (b : Bool). cond b (with_entry s.cluster [] (r.value (suc k) p) (writes r k p s.cluster.nodes)) (writes r k p s.cluster.nodes))
            (eq-eqb (place_in_cycle s.cluster k) s.cluster.faults (is_last_before s.cluster k is_first));
      }

  module _ (first : ℕ) (is_first : place_in_cycle s.cluster first ≡ 0) (within : first + s.cluster.faults < rounds) where
    -- what good nodes read in the rounds of a cycle, and what they have written as it is over
    tables : ℕ → ℕ → List ℕ
    tables zero p = reads r first p
    tables (suc j) p = writes r (first + j) p s.cluster.nodes

    read_there : (k q : ℕ) → k ≤ s.cluster.faults → GoodNode s.cluster good q → reads r (first + k) q ≡ tables k q
    unfolding tables
    read_there zero q h of_q = let same : first + 0 ≡ first = omega arith in ap (λ (k : ℕ). reads r k q) same
    read_there (suc j) q h of_q =
        let place = place_of_round s.cluster first j is_first (omega (arith, h)) in
        let whole = writes r (first + j) q s.cluster.nodes in
        let same : first + suc j ≡ suc (first + j) = omega arith in
        ap (λ (k : ℕ). reads r k q) same ∙ kept.next (first + j) q (omega (arith, within, h)) of_q
        ∙ ap (λ (b : Bool). cond b (with_entry s.cluster [] (r.value (suc (first + j)) q) whole) whole)
        (ne_eqb (place_in_cycle s.cluster (first + j)) s.cluster.faults (λ same. absurd (omega (arith, place, same, h))))

    cycle : Cycle s.cluster good (r.value first) first tables
    unfolding tables
    cycle = record {
      is_first = is_first;
      begun = λ p of_p. begun first p (omega (arith, within)) of_p is_first;
      rounds = λ k p h of_p. record {
        old = writes r (first + k) p 0;
        values = values (first + k) p;
        senders = range_with_len 0 s.cluster.nodes;
        once = in_order s.cluster.nodes 0 s.cluster.nodes (omega arith);
        all = λ node l. stands_among node 0 s.cluster.nodes (omega arith) (omega (arith, l));
        each = all_entered (first + k) p s.cluster.nodes (omega (arith, within, h)) of_p (omega arith);
        told = λ q of_q. kept.told (first + k) p q (omega (arith, within, h)) of_p of_q ∙ ap (told_from (turn_in s.cluster (first + k) q)) (read_there k q h of_q);
      };
    }

    -- the results that a good node has then are those by its table
    results_there : (p : ℕ) → GoodNode s.cluster good p →
        results_in (r.node (first + s.cluster.faults + 1) p 0) ≡ Some (results_of s.cluster (tables (suc s.cluster.faults) p))
    unfolding tables
    results_there p of_p =
        let last = first + s.cluster.faults in
        let table = writes r last p s.cluster.nodes in
        let node = r.node (suc last) p 0 in
        let results = kept.results last p within of_p (place_of_round s.cluster first s.cluster.faults is_first (omega arith)) in
        let config = kept.config (suc last) p within of_p in
        let long = length-map-range_with_len (result_for s.cluster.nodes s.cluster.faults (held_for s.cluster table)) 0 s.cluster.nodes in
        let behind : last + 1 ≡ suc last = omega arith in
        ap (λ (k : ℕ). results_in (r.node k p 0)) behind
        ∙ ap (λ (t : Schedule). option_map (take t.cluster.nodes) node.results) config
        ∙ ap (option_map (take s.cluster.nodes)) results
        ∙ ap Some (take_at (results_of s.cluster table) (drop (length (results_of s.cluster table)) (replicate most_readings 0)) s.cluster.nodes long)

-- so good nodes agree at the end of each cycle
pub agreed : (s : Schedule) (good : ℕ → Bool) (rounds : ℕ) (r : Run) (values : ℕ → ℕ → ℕ → List ℕ) (first : ℕ) → FewBad s.cluster good → Kept s good rounds r values →
    place_in_cycle s.cluster first ≡ 0 → first + s.cluster.faults < rounds → Agreed s good r first
agreed s good rounds r values first few kept is_first within =
    let table = tables s good rounds r values kept first is_first within (suc s.cluster.faults) in
    let settled = agreed_by_tables s.cluster good (r.value first) first (tables s good rounds r values kept first is_first within) few
    (cycle s good rounds r values kept first is_first within) in
    let there = results_there s good rounds r values kept first is_first within in
    record {
      same = λ p q of_p of_q. there p of_p ∙ ap Some (settled.same p q of_p of_q) ∙ sym (there q of_q);
      right = λ p of_p. (
        results_of s.cluster (table p),
        there p of_p,
        length-map-range_with_len (result_for s.cluster.nodes s.cluster.faults (held_for s.cluster (table p))) 0 s.cluster.nodes,
        λ q of_q. settled.right p q of_p of_q,
      );
    }
