-- Sets of the first nodes of a cluster: those whose slots are over in a round in which each call was made in its turn. Assumes nothing.
use Rattle.std.proofs.Common.{◌≡◌, ℕ, suc, ◌-◌, ◌/◌, ◌%◌, ◌^◌, ◌<◌, ◌≤◌, false, nat_lt, inl, inr, ◌∙◌, arith}
use Rattle.std.proofs.lemmas.Bool.{cases_lt, lt-ltb, le-ltb}
use Rattle.std.proofs.lemmas.Bool.Decides.{nat_tests}
use Rattle.std.proofs.lemmas.Nat.Bits.{bit_at_ones, bit_at_ones_above}
use Rattle.relay.specs.Nodes.{among, added}
use Rattle.relay.specs.declared.nodes.NodeSet.{NodeSet}

-- the first nodes, so many of them
abbrev pub first_nodes : ℕ → NodeSet
first_nodes count = record { bits = 2 ^ count - 1 }

pub among_first : (count node : ℕ) → count ≤ 16 → among (first_nodes count) node ≡ nat_lt node count
among_first count node few =
    elim (cases_lt node count) [
      | inl h ↦ let bit : (2 ^ count - 1) / 2 ^ node % 2 ≡ 1 = bit_at_ones count node h in rw (bit, lt-ltb node count h, lt-ltb node 16 (omega arith))
      | inr h ↦
          let bit : (2 ^ count - 1) / 2 ^ node % 2 ≡ 0 = bit_at_ones_above count node h in
          rw (bit, le-ltb node count h) (grind (arith, nat_tests))
    ]

-- none at first, and then one more with each call
pub none_first : (node : ℕ) → among (first_nodes 0) node ≡ false
none_first node = among_first 0 node (omega arith) ∙ le-ltb node 0 (omega arith)

pub one_more_first : (count node : ℕ) → count < 16 → among (first_nodes (suc count)) node ≡ added (among (first_nodes count)) count node
one_more_first count node few =
    among_first (suc count) node (omega arith) ∙ rw (among_first count node (omega arith)) (grind (arith, nat_tests))
