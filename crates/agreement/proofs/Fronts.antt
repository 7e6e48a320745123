-- A node in front of a path. Assumes nothing.
use Rattle.std.proofs.Common.{◌≡◌, ℕ, suc, ◌+◌, ◌*◌, ◌^◌, ◌<◌, ◌≤◌, ◌||◌, ◌==◌, ◌∷◌, sym, refl, ap, ◌∙◌, arith}
use Rattle.std.proofs.lemmas.Bool.{lt-ltb}
use Rattle.relay.specs.Nodes.{among, added}
use Rattle.relay.specs.Paths.{stands_in, row_at}
use Rattle.relay.specs.declared.nodes.NodeSet.{NodeSet}
use Rattle.relay.proofs.Numbers.{power_small, index_more, row_at_more}

-- its index is one of the rows with one node more
pub front_within : (n count index node : ℕ) → node < n → index < n ^ count → index * n + node < n ^ (count + 1)
front_within n count index node known within = let one : count + 1 ≡ suc count = omega arith in rw one (index_more n count index node known within)

pub front_fits : (n count index node : ℕ) → n ≤ 16 → count < 4 → node < n → index < n ^ count → index * n + node < 65536
front_fits n count index node few short known within = omega (arith, front_within n count index node known within, power_small n (count + 1) few (omega (arith, short)))

pub row_more : (n count index node : ℕ) → node < n → row_at n (count + 1) (index * n + node) ≡ node ∷ row_at n count index
row_more n count index node known = let one : count + 1 ≡ suc count = omega arith in ap (λ k. row_at n k (index * n + node)) one ∙ row_at_more n count index node known

-- and the nodes on it are those that were, and the node
pub stand_more : (n count index node : ℕ) (before after : NodeSet) → n ≤ 16 → node < n →
    ((other : ℕ) → other < n → among before other ≡ stands_in other (row_at n count index)) →
    ((other : ℕ) → among after other ≡ added (among before) node other) →
    (other : ℕ) → other < n → among after other ≡ stands_in other (row_at n (count + 1) (index * n + node))
stand_more n count index node before after few known were more other h =
    let one : added (among before) node other ≡ ((node == other) || among before other) = rw (lt-ltb node 16 (omega (arith, few, known))) refl in
    more other ∙ one ∙ ap (λ rest. (node == other) || rest) (were other h) ∙ sym (ap (stands_in other) (row_more n count index node known))
