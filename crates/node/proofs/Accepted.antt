-- Calls that no row of their lists turns away, and the times at which calls are due. Assumes nothing.
use Rattle.std.proofs.Common.{◌≡◌, ℕ, ◌+◌, ◌*◌, ◌<◌, ◌≤◌, min, false, List, length, None, MatchOption, ◌==◌, inl, inr, subst, mul-le-mul_left, arith}
use Rattle.std.proofs.lemmas.Bool.{cases_lt}
use Rattle.std.proofs.lemmas.Bool.Decides.{nat_tests}
use Rattle.midpoint.specs.Refusals.{Row, first_applying}
use Rattle.midpoint.specs.Setting.{clock_limit}
use Rattle.clock.specs.Deviation.{largest}
use Rattle.frame.specs.Layout.{frame_length_of}
use Rattle.relay.specs.Nodes.{among}
use Rattle.relay.specs.Tables.{table_length_of}
use Rattle.node.specs.Nodes.{turn_of}
use Rattle.node.specs.Calls.{unsent, unheard, unended, Leaves}
use Rattle.node.specs.declared.refusal.Refusal.{Refusal}
use Rattle.node.specs.declared.state.Node.{Node}

-- the time is one that a clock shows, and not earlier than the last, and both tables have the length that is needed
pub record Timely (node : Node) (time : ℕ) (first second : List ℕ) : Type 0 where
  pub below : time < clock_limit
  pub later : node.clock.shown ≤ time
  pub first_fits : length first ≡ table_length_of node.schedule.cluster
  pub second_fits : length second ≡ table_length_of node.schedule.cluster

module _ (node : Node) (time : ℕ) (first second : List ℕ) (timely : Timely node time first second) where
  pub sending_taken : (memory : List ℕ) → frame_length_of (turn_of node node.own) ≤ length memory → among node.over node.own ≡ false →
      first_applying (unsent node time first second memory) ≡ None
  sending_taken memory room free =
      grind (arith, nat_tests, timely.below, timely.later, timely.first_fits, timely.second_fits, room, free)

  pub hearing_taken : (sender : ℕ) → sender < node.schedule.cluster.nodes → (sender == node.own) ≡ false → among node.over sender ≡ false →
      first_applying (unheard node time sender first second) ≡ None
  hearing_taken sender known other free =
      grind (arith, nat_tests, timely.below, timely.later, timely.first_fits, timely.second_fits, known, other, free)

  pub ending_taken : first_applying (unended node time first second) ≡ None
  ending_taken = grind (arith, nat_tests, timely.below, timely.later, timely.first_fits, timely.second_fits)

-- What a call leaves that no row turns away is what it does, and the other way round.
pub done : (rows : List (Row Refusal)) (did kept : Type 0) → first_applying rows ≡ None → Leaves rows did kept → did
done rows did kept none leaves = subst (λ row. MatchOption row did (λ refusal. kept)) none leaves

pub is_done : (rows : List (Row Refusal)) (did kept : Type 0) → first_applying rows ≡ None → did → Leaves rows did kept
is_done rows did kept none what = rw none what

-- A time that a clock comes to is not one at which numbers stop.
pub does_not_stop : (slot each more : ℕ) → 1 ≤ each → min (min slot largest * each + more) largest < clock_limit →
    min (min slot largest * each + more) largest ≡ slot * each + more
does_not_stop slot each more long below =
    elim (cases_lt largest slot) [
      | inl past ↦ let m : largest * 1 ≤ largest * each = mul-le-mul_left largest long in absurd (grind (arith, past, m, below))
      | inr within ↦
          let e : min slot largest ≡ slot = omega (arith, within) in
          let l : min (slot * each + more) largest < clock_limit = rw e at below in
          rw e (omega (arith, l))
    ]

-- Nor is the number of a slot that ends at such a time.
pub slot_does_not_stop : (slot each : ℕ) → 1 ≤ each → (slot + 1) * each < clock_limit → min slot largest ≡ slot
slot_does_not_stop slot each long below = let more : (slot + 1) * 1 ≤ (slot + 1) * each = mul-le-mul_left (slot + 1) long in omega (arith, below, more)

-- And where a time stops, it is not before any that a clock comes to.
pub stops_behind : (slot each more time : ℕ) → 1 ≤ each → time < clock_limit → time ≤ slot * each + more →
    time ≤ min (min slot largest * each + more) largest
stops_behind slot each more time long below before =
    elim (cases_lt largest slot) [
      | inl past ↦
          let m : largest * 1 ≤ largest * each = mul-le-mul_left largest long in
          let e : min slot largest ≡ largest = omega (arith, past) in
          rw e (omega (arith, m, below))
      | inr within ↦ let e : min slot largest ≡ slot = omega (arith, within) in rw e (omega (arith, below, before))
    ]
