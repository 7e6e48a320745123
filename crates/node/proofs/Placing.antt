-- Where a node is behind each call of a run, which call is then due, and when. Assumes nothing.
use Rattle.std.proofs.Common.{◌≡◌, ℕ, suc, ◌+◌, ◌*◌, ◌<◌, ◌≤◌, min, cond, nat_lt, Some, None, not, refl, sym, ap, ◌∙◌, inl, inr, add-mul, arith, mul-le-mul_right}
use Rattle.std.specs.List.{find, range_with_len}
use Rattle.std.proofs.lemmas.Bool.{cases_eq, eq-eqb, ne_eqb, cases_lt, lt-ltb, le-ltb}
use Rattle.midpoint.specs.Setting.{clock_limit}
use Rattle.clock.specs.Deviation.{largest}
use Rattle.schedule.specs.Config.{timing_of}
use Rattle.schedule.specs.Slots.{send_time_of, Timing, slot_of, slot_start, slot_end_of, round_end_of}
use Rattle.schedule.specs.declared.limits.Schedule.{Schedule}
use Rattle.relay.specs.Nodes.{among}
use Rattle.relay.specs.Theorems.{turn_in}
use Rattle.node.specs.Nodes.{turn_of}
use Rattle.node.specs.Due.{call_for, call_of, time_of, due_of, next_slot}
use Rattle.node.specs.Runs.{slot_due, Run}
use Rattle.node.specs.declared.due.Call.TheVariants.{Send, SlotOver, RoundOver}
use Rattle.node.specs.declared.state.Node.{Node}
use Rattle.node.proofs.Open.{finds, finds_none}
use Rattle.node.proofs.Accepted.{stops_behind}

-- when calls are due in a round
abbrev pub sending_at : Schedule → ℕ → ℕ → ℕ
sending_at s k own = min (send_time_of (timing_of s) (min (slot_of (timing_of s) k own) largest)) largest

abbrev pub over_at : Schedule → ℕ → ℕ → ℕ
over_at s k q = min (slot_end_of (timing_of s) (min (slot_of (timing_of s) k q) largest)) largest

module _ (s : Schedule) where
  abbrev t : Timing
  t = timing_of s

  abbrev n : ℕ
  n = s.cluster.nodes

  abbrev slot : ℕ → ℕ → ℕ
  slot k p = slot_of t k p

  -- numbers that stop are no larger, so a node sends before its slot is over
  min-le : (m : ℕ) → min m largest ≤ m
  min-le m = omega arith

  min-le_one_more : (m : ℕ) → min m largest + 1 ≤ m + 1
  min-le_one_more m = omega arith

  pub sends_before : (k p : ℕ) → sending_at s k p ≤ slot_end_of t (slot k p)
  sends_before k p = omega (arith, mul-le-mul_right s.length (min-le (slot k p)), add-mul (slot k p) 1 s.length, s.behind)

  -- when the next call is due
  abbrev pub next_time : ℕ → ℕ → ℕ → ℕ
  next_time k p calls = cond (nat_lt calls n) (slot_due s k p calls).time (round_end_of t k)

  -- that is not before the slot has begun, and of a round's first slot not before its pause is over
  pub due_behind : (k p calls : ℕ) → slot_start t (slot k calls) + s.pause ≤ (slot_due s k p calls).time
  due_behind k p calls =
      elim (cases_eq calls p) [
        | inl same ↦ rw (eq-eqb calls p same, same) (omega arith)
        | inr differs ↦ rw (ne_eqb calls p differs) (omega (arith, add-mul (slot k calls) 1 s.length, s.behind))
      ]

  pub next_behind : (k p calls : ℕ) → calls < n → slot_end_of t (slot k calls) ≤ next_time k p (suc calls)
  next_behind k p calls h =
      elim (cases_lt (suc calls) n) [
        | inl more ↦
            let e : slot k calls + 1 ≡ slot k (suc calls) = omega arith in
            rw (lt-ltb (suc calls) n more) (omega (arith, ap (λ m. m * s.length) e, due_behind k p (suc calls)))
        | inr none ↦
            let e : slot k calls + 1 ≡ (k + 1) * n = omega (arith, h, none) in
            rw (le-ltb (suc calls) n (omega (arith, none))) (omega (arith, ap (λ m. m * s.length) e))
      ]

  pub next_of_first : (k p : ℕ) → slot_start t (slot k 0) + s.pause ≤ next_time k p 0
  next_of_first k p = rw (lt-ltb 0 n (omega (arith, s.cluster.enough))) (due_behind k p 0)

  module _ (r : Run) where
    -- What is known of a node in a round behind so many calls: where it is.
    pub record Place (k p calls : ℕ) : Type 0 where
      pub config : (r.node k p calls).schedule ≡ s
      pub own : (r.node k p calls).own ≡ p
      pub counts : (r.node k p calls).clock.round ≡ k
      pub passed : (q : ℕ) → among (r.node k p calls).over q ≡ nat_lt q calls

    module _ (k p calls : ℕ) (place : Place k p calls) where
      abbrev node : Node
      node = r.node k p calls

      pub turn_is : (q : ℕ) → turn_of node q ≡ turn_in s.cluster k q
      turn_is q = λ i. turn_in (place.config i).cluster (place.counts i) q

      next_is : calls < n → next_slot node ≡ Some calls
      next_is h =
          ap (λ m. find (λ q. not (among node.over q)) (range_with_len 0 m)) (ap (λ x. x.cluster.nodes) place.config)
          ∙ finds (among node.over) calls place.passed 0 n (omega arith) (omega (arith, h))

      next_is_none : n ≤ calls → next_slot node ≡ None
      next_is_none h =
          ap (λ m. find (λ q. not (among node.over q)) (range_with_len 0 m)) (ap (λ x. x.cluster.nodes) place.config)
          ∙ finds_none (among node.over) calls place.passed 0 n (omega (arith, h))

      -- the call that is due
      pub due_to_send : calls ≡ p → calls < n → due_of node ≡ record { call = Send; time = sending_at s k p }
      due_to_send same h =
          let e : call_of node ≡ Send = ap (call_for node.own) (next_is h) ∙ rw (eq-eqb calls node.own (same ∙ sym place.own)) refl in
          ap (λ call. record { call = call; time = time_of node call }) e
          ∙ (λ i. record { call = Send; time = sending_at (place.config i) (place.counts i) (place.own i) })

      pub due_to_hear : (calls ≡ p → ⊥) → calls < n → due_of node ≡ record { call = SlotOver calls; time = over_at s k calls }
      due_to_hear differs h =
          let e : call_of node ≡ SlotOver calls = ap (call_for node.own) (next_is h) ∙ rw (ne_eqb calls node.own (λ same. differs (same ∙ place.own))) refl in
          ap (λ call. record { call = call; time = time_of node call }) e
          ∙ (λ i. record { call = SlotOver calls; time = over_at (place.config i) (place.counts i) calls })

      pub due_to_end : n ≤ calls → due_of node ≡ record { call = RoundOver; time = min (round_end_of t k) largest }
      due_to_end h =
          let e : call_of node ≡ RoundOver = ap (call_for node.own) (next_is_none h) in
          ap (λ call. record { call = call; time = time_of node call }) e
          ∙ (λ i. record { call = RoundOver; time = min (round_end_of (timing_of (place.config i)) (place.counts i)) largest })

      -- it is due at its time, or, where numbers stop, before
      pub due_by : (due_of node).time ≤ next_time k p calls
      due_by =
          elim (cases_lt calls n) [
            | inl h ↦
                elim (cases_eq calls p) [
                  | inl same ↦
                      let e : (due_of node).time ≡ sending_at s k p = ap (λ due. due.time) (due_to_send same h) in
                      rw (lt-ltb calls n h, eq-eqb calls p same) (rw same (omega (arith, rw same at e, mul-le-mul_right s.length (min-le (slot k p)))))
                  | inr differs ↦
                      let e : (due_of node).time ≡ over_at s k calls = ap (λ due. due.time) (due_to_hear differs h) in
                      rw (lt-ltb calls n h, ne_eqb calls p differs) (omega (arith, e, mul-le-mul_right s.length (min-le_one_more (slot k calls))))
                ]
            | inr h ↦
                let e : (due_of node).time ≡ min (round_end_of t k) largest = ap (λ due. due.time) (due_to_end (omega (arith, h))) in
                rw (le-ltb calls n (omega (arith, h))) (omega (arith, e))
          ]

      -- and not before any time below the limit that is not past its time
      pub due_from : (time : ℕ) → time < clock_limit → time ≤ next_time k p calls → time ≤ (due_of node).time
      due_from time below before =
          elim (cases_lt calls n) [
            | inl h ↦
                elim (cases_eq calls p) [
                  | inl same ↦
                      let e : (due_of node).time ≡ sending_at s k calls = ap (λ due. due.time) (due_to_send same h) ∙ ap (sending_at s k) (sym same) in
                      let sends : time ≤ send_time_of t (slot k calls) = rw (lt-ltb calls n h, eq-eqb calls p same) at before in
                      rw e (stops_behind (slot k calls) s.length s.pause time (omega (arith, s.behind, s.before)) below sends)
                  | inr differs ↦
                      let e : (due_of node).time ≡ over_at s k calls = ap (λ due. due.time) (due_to_hear differs h) in
                      let over : time ≤ slot_end_of t (slot k calls) = rw (lt-ltb calls n h, ne_eqb calls p differs) at before in
                      let stops =
                      stops_behind (slot k calls) s.length s.length time (omega (arith, s.behind, s.before)) below (omega (arith, over, add-mul (slot k calls) 1 s.length)) in
                      omega (arith, e, stops, add-mul (min (slot k calls) largest) 1 s.length)
                ]
            | inr h ↦
                let e : (due_of node).time ≡ min (round_end_of t k) largest = ap (λ due. due.time) (due_to_end (omega (arith, h))) in
                let ends : time ≤ round_end_of t k = rw (le-ltb calls n (omega (arith, h))) at before in
                omega (arith, e, ends, below)
          ]

      -- so it is due at its time, if that is below the limit
      pub due_then : next_time k p calls < clock_limit → (due_of node).time ≡ next_time k p calls
      due_then below = omega (arith, due_by, due_from (next_time k p calls) below (omega arith))
