-- Sets of nodes as bits. Assumes nothing.
use Rattle.std.proofs.Common.{◌≡◌, ℕ, ◌*◌, ◌/◌, ◌%◌, ◌^◌, ◌<◌, nat_lt, inl, inr, bit_or, w16, sym, refl}
use Rattle.std.proofs.lemmas.Bool.{cases_lt, cases_eq, lt-ltb, le-ltb, eq-eqb, ne_eqb}
use Rattle.std.proofs.lemmas.Nat.Bits.{bit_at_ones, bit_at_set_same, bit_at_set_other}
use Rattle.relay.specs.Nodes.{among, added}
use Rattle.relay.specs.declared.nodes.NodeSet.{NodeSet}

pub all_among : (node : ℕ) → among (record { bits = 65535 }) node ≡ nat_lt node 16
all_among node =
    elim (cases_lt node 16) [
      | inl h ↦ let bit : 65535 / 2 ^ node % 2 ≡ 1 = bit_at_ones 16 node h in rw (lt-ltb node 16 h, bit)
      | inr h ↦ rw (le-ltb node 16 h)
    ]

pub one_more : (set : NodeSet) (node other : ℕ) → node < 16 → among (record { bits = bit_or set.bits (1 * 2 ^ node % 65536) }) other ≡ added (among set) node other
one_more set node other h =
    elim (cases_eq node other) [
      | inl same ↦
          let bit : bit_or set.bits (1 * 2 ^ node % 65536) / 2 ^ node % 2 ≡ 1 = bit_at_set_same w16 set.bits node h in
          rw (sym same, lt-ltb node 16 h, bit, eq-eqb node node refl)
      | inr differs ↦
          let bit : bit_or set.bits (1 * 2 ^ node % 65536) / 2 ^ other % 2 ≡ set.bits / 2 ^ other % 2 = bit_at_set_other w16 set.bits node h other (λ same. differs (sym same)) in
          rw (lt-ltb node 16 h, bit, ne_eqb node other differs)
    ]
