-- Messages that pass from node to node: they are whole in their slot, find clocks that are set, and do not overlap. Assumes nothing.
use borrow.Author.Differences.{ints}
use Rattle.std.proofs.Common.{◌≡◌, ℕ, zero, suc, ◌+◌, ◌*◌, ◌<◌, ◌≤◌, Bool, true, false, eqb, List, map, get_or, ℤ, pos, ◌+ℤ◌, ◌-ℤ◌, ◌≤ℤ◌, Some, None, Option, sym, refl, inl, inr, mul-le-mul_right, add-mul, div-mul-le_self, arith}
use Rattle.std.proofs.lemmas.Bool.{cases_Bool, cases_lt, ne_eqb}
use Rattle.std.proofs.lemmas.Bool.Decides.{nat_tests}
use Rattle.std.specs.List.{range_with_len}
use Rattle.midpoint.specs.Midpoint.{midpoint}
use Rattle.midpoint.specs.Refusals.{first_applying}
use Rattle.midpoint.specs.Setting.{unusable, clock_limit}
use Rattle.midpoint.specs.declared.refusal.Code.{Code}
use Rattle.midpoint.proofs.Sorting.{count_none}
use Rattle.clock.specs.Config.{bound_of, width_of}
use Rattle.clock.specs.Deviation.{deviation_of, moved}
use Rattle.clock.specs.Rounds.{Moment, ahead, lead, GoodNode, FewBad, Apart, Round}
use Rattle.clock.specs.Setting.{read_of, reads, readings, unless, settled}
use Rattle.clock.proofs.Nodes.{midpoint_within}
use Rattle.clock.proofs.Rounds.{set_between}
use Rattle.schedule.specs.Config.{timing_of}
use Rattle.schedule.specs.Listening.{whole_in}
use Rattle.schedule.specs.Messages.{Instant, instant, AheadBy, Sends, Course, FromSlot}
use Rattle.schedule.specs.Slots.{Timing, owner_of, round_of, slot_of, slot_start, slot_end_of, round_end_of}
use Rattle.schedule.specs.Theorems.{HearsWhole, HearsGoodNodes, ReadsRight, MakesARound, SetsBefore, NothingOverlaps, SetInTimeWithLeads}
use Rattle.schedule.specs.declared.limits.Schedule.{Schedule}

-- a slot ends a length behind its start
pub slot_long : (t : Timing) (slot : ℕ) → slot_end_of t slot ≡ slot_start t slot + t.length
slot_long t slot = omega (arith, add-mul slot 1 t.length)

-- what is in its slot by both ends is whole in it
pub whole : (t : Timing) (slot began ended : ℕ) → slot_start t slot ≤ began → ended ≤ slot_end_of t slot →
    whole_in t slot (owner_of t slot) began ended ≡ true
whole t slot began ended low high = grind (arith, nat_tests)

pub hears_whole : HearsWhole
hears_whole s slot sent began ended sends way early late =
    whole (timing_of s) slot began.shown ended.shown
    (omega (arith, s.before))
    (omega (arith, s.behind, slot_long (timing_of s) slot))

-- clocks that are compared by what they are ahead of common time
pub ahead_by : (a b : Moment) (d : ℕ) → lead a ≤ℤ (lead b +ℤ pos d) → AheadBy d (instant a) (instant b)
ahead_by a b d h = omega (arith, ints)

pub hears_good_nodes : HearsGoodNodes
hears_good_nodes s good start slot q sent began ended apart gp gq (slow, fast) (begun, _) (_, over) sends way =
    let p = owner_of (timing_of s) slot in
    let drift = s.cluster.drift in
    let bound = bound_of s.cluster in
    hears_whole s slot (instant sent) (instant began) (instant ended) sends way
    (omega (
      arith,
      ahead_by sent (start p) drift fast,
      ahead_by (start p) (start q) bound (apart p q gp gq),
      ahead_by (start q) began drift begun,
    ))
    (omega (
      arith,
      ahead_by ended (start q) drift over,
      ahead_by (start q) (start p) bound (apart q p gq gp),
      ahead_by (start p) sent drift slow,
    ))

-- a message that began in its slot is read as it should be
read_exactly : (own start pause began : ℕ) → own < clock_limit → pause ≤ 1000000000 → start ≤ began → began ≤ own →
    moved own (deviation_of (start + pause) began) + began ≡ own + start + pause
read_exactly own start pause began h p low high = grind (arith, ints)

pub reads_right : ReadsRight
reads_right s slot sent began here there sends left on_time (up, down) (over, under) low high =
    let e = read_exactly here.clock.shown (slot_start (timing_of s) slot) s.pause began.clock.shown here.clock.below
    (omega (arith, s.behind, s.most)) low high in
    (omega (arith, ints), omega (arith, ints))

-- what was heard in a slot is not read past the pause
read_from_slot : (t : Timing) (slot own : ℕ) (heard : Option ℤ) → FromSlot t slot heard → read_of own heard ≤ own + t.pause
read_from_slot t slot own None from = omega arith
read_from_slot t slot own (Some deviation) (began, low, e) = rw e (grind (arith, ints))

reads_from_slot : (t : Timing) (slot own p q : ℕ) (heard : List (Option ℤ)) → FromSlot t slot (get_or heard q None) →
    reads p own heard q ≤ own + t.pause
reads_from_slot t slot own p q heard from =
    let le = read_from_slot t slot own (get_or heard q None) from in
    elim (cases_Bool (eqb q p)) [ inl same ↦ rw same (omega arith) | inr other ↦ rw other le ]

pub makes_a_round : MakesARound
makes_a_round s good round heard ends after set h sets runs counts = record {
  fair = λ p q gp gq d.
      let slot = slot_of (timing_of s) round q in
      let (low, high) = h.in_its_slot p q gp gq d in
      let right =
      reads_right s slot (h.sent q) (h.began p q) (ends p) (ends q) (h.sends q gq) (h.leaves p q gp gq d) (h.on_time p q gp gq d)
      (h.sender_runs q gq) (h.receiver_runs p q gp gq d) low high in
      let other = ne_eqb q p (λ e. d (sym e)) in
      let e = h.hears p q gp gq d in
      rw (other, e) right;
  taken = λ p q g l.
      omega (
        arith,
        h.room p g,
        reads_from_slot (timing_of s) (slot_of (timing_of s) round q) (ends p).clock.shown p q (heard p) (h.from_slots p q g l),
      );
  set = set;
  sets = sets;
  runs = runs;
  counts = counts;
}

-- what both come up to is the most that a setting can leave, whether it is turned away or not
leaves_no_more : (refusal : Option Code) (new own high : ℕ) → new ≤ high → own ≤ high → unless refusal new own ≤ high
leaves_no_more None new own high set kept = set
leaves_no_more (Some code) new own high set kept = kept

-- So nor is a clock set past it: to readings that are not, or, where they are turned away, not at all.
pub settles_no_farther : (s : Schedule) (round own p : ℕ) (heard : List (Option ℤ)) →
    ((q : ℕ) → q < s.cluster.nodes → FromSlot (timing_of s) (slot_of (timing_of s) round q) (get_or heard q None)) →
    settled s.cluster.faults own (readings s.cluster.nodes p own heard) ≤ own + s.pause
unfolding readings
settles_no_farther s round own p heard from =
    let each : (q : ℕ) → q < s.cluster.nodes → reads p own heard q ≤ own + s.pause =
    λ q h. reads_from_slot (timing_of s) (slot_of (timing_of s) round q) own p q heard (from q h) in
    let none = count_none (λ q. false) (range_with_len 0 s.cluster.nodes) (λ i d h. refl) in
    let (_, high) =
    midpoint_within s.cluster (λ q. true) (reads p own heard) 0 (own + s.pause) (omega arith) (λ q h b. (omega arith, omega (arith, each q h))) in
    let xs = map (reads p own heard) (range_with_len 0 s.cluster.nodes) in
    leaves_no_more (first_applying (unusable s.cluster.faults xs)) (midpoint s.cluster.faults xs) own (own + s.pause) high (omega arith)

-- a good clock is set to no more than width and error ahead of any good clock before it was set, so of the pause the drift is left
pub set_ahead : (s : Schedule) (good : ℕ → Bool) (heard : ℕ → List (Option ℤ)) (before after : ℕ → Moment) (p q : ℕ) → FewBad s.cluster good →
    (round : Round s.cluster good heard before after) → Apart s.cluster good (width_of s.cluster) before → GoodNode s.cluster good p →
    GoodNode s.cluster good q → (ahead (before p) (round.set p).shown +ℤ pos s.cluster.drift) ≤ℤ (lead (before q) +ℤ pos s.pause)
set_ahead s good heard before after p q few round apart gp gq =
    let w = width_of s.cluster in
    let (_, high) =
    set_between s.cluster good heard before after few round (lead (before q) -ℤ pos w) (lead (before q) +ℤ pos w)
    (λ r gr. let up = apart r q gr gq in let down = apart q r gq gr in (omega (arith, ints), omega (arith, ints))) p gp in
    omega (arith, ints, s.before)

-- and in the round that follows it is no more than a pause ahead of it
not_far_ahead : (s : Schedule) (good : ℕ → Bool) (heard : ℕ → List (Option ℤ)) (before after : ℕ → Moment) (p q : ℕ) → FewBad s.cluster good →
    Round s.cluster good heard before after → Apart s.cluster good (width_of s.cluster) before → GoodNode s.cluster good p →
    GoodNode s.cluster good q → lead (after p) ≤ℤ (lead (before q) +ℤ pos s.pause)
not_far_ahead s good heard before after p q few round apart gp gq =
    let set = set_ahead s good heard before after p q few round apart gp gq in
    let (runs, _) = round.runs p gp in
    omega (arith, ints)

-- a slot of a later round starts when the round has ended, or later
starts_behind : (t : Timing) (round slot : ℕ) → round < round_of t slot → round_end_of t round ≤ slot_start t slot
starts_behind t round slot h =
    let m : (round + 1) * t.nodes ≤ round_of t slot * t.nodes = mul-le-mul_right t.nodes (omega arith) in
    let k : (round + 1) * t.nodes ≤ slot = omega (arith, div-mul-le_self slot t.nodes) in
    mul-le-mul_right t.length k

pub sets_before : SetsBefore
sets_before s good heard before after round slot p q few turn apart gp gq ends later sends =
    let far = not_far_ahead s good heard before after p q few turn apart gp gq in
    let start = starts_behind (timing_of s) round slot later in
    omega (arith, ints)

pub set_in_time : SetInTimeWithLeads
set_in_time s good heard before after p q slot at setting few turn apart gp gq sends sets =
    let far = not_far_ahead s good heard before after p q few turn apart gp gq in
    omega (arith, ints)

-- a later slot starts when a slot has ended, or later
pub starts_later : (t : Timing) (slot later : ℕ) → slot < later → slot_end_of t slot ≤ slot_start t later
starts_later t slot later h = mul-le-mul_right t.length (omega arith)

pub rises : (f : ℕ → ℕ) (n : ℕ) → ((i : ℕ) → i < n → f i ≤ f (suc i)) → (k j : ℕ) → k ≤ j → j ≤ n → f k ≤ f j
rises f n step k zero le h = let e : k ≡ 0 = omega arith in rw e (omega arith)
rises f n step k (suc j) le h =
    elim (cases_lt k (suc j)) [
      | inl less ↦ let ih = rises f n step k j (omega arith) (omega arith) in omega (arith, step j (omega arith))
      | inr same ↦ let e : k ≡ suc j = omega arith in rw e (omega arith)
    ]

-- the slots of a round lie in it
pub in_round : (s : Schedule) (k p : ℕ) → p < s.cluster.nodes →
    slot_start (timing_of s) (slot_of (timing_of s) k p) + s.length ≤ round_end_of (timing_of s) k
in_round s k p h =
    let n = s.cluster.nodes in
    let l : slot_of (timing_of s) k p + 1 ≤ (k + 1) * n = omega (arith, add-mul k 1 n) in
    omega (arith, mul-le-mul_right s.length l, slot_long (timing_of s) (slot_of (timing_of s) k p))

-- and those of the next one start when it has ended
pub behind_round : (s : Schedule) (k p : ℕ) → round_end_of (timing_of s) k ≤ slot_start (timing_of s) (slot_of (timing_of s) (suc k) p)
behind_round s k p = mul-le-mul_right s.length (omega (arith, add-mul k 1 s.cluster.nodes))

-- what is sent in a round is over when it ends by a clock within the width
pub over_in_round : (s : Schedule) (k p : ℕ) (sent end : Instant) → p < s.cluster.nodes → Sends (timing_of s) (slot_of (timing_of s) k p) sent →
    end.shown ≡ round_end_of (timing_of s) k → AheadBy (width_of s.cluster) end sent → sent.common + s.wire + s.message ≤ end.common
over_in_round s k p sent end l sends ends near = omega (arith, s.behind, in_round s k p l)

module _ (s : Schedule) (good : ℕ → Bool) (rounds : ℕ) (sends ends : ℕ → ℕ → Instant) (course : Course s good rounds sends ends) where
  abbrev slot : ℕ → ℕ → ℕ
  slot k p = slot_of (timing_of s) k p

  -- what is sent in a round is over when the round ends, wherever
  over_in : (k p q : ℕ) → k < rounds → GoodNode s.cluster good p → GoodNode s.cluster good q →
      (sends k p).common + s.wire + s.message ≤ (ends k q).common
  over_in k p q h gp gq =
      over_in_round s k p (sends k p) (ends k q) gp.0 (course.sent k p (omega arith) gp) (course.over k q h gq) (course.ends_together k p q h gp gq)

  sends_rise : (k j q : ℕ) → k ≤ j → j ≤ rounds → GoodNode s.cluster good q → (sends k q).common ≤ (sends j q).common
  sends_rise k j q le h gq =
      rises (λ i. (sends i q).common) rounds (λ i l. omega (arith, course.before_the_end i q l gq, course.behind_it i q l gq)) k j le h

  overlaps_not : (k j p q : ℕ) → k ≤ rounds → j ≤ rounds → GoodNode s.cluster good p → GoodNode s.cluster good q → slot k p < slot j q →
      (sends k p).common + s.wire + s.message ≤ (sends j q).common
  overlaps_not k j p q hk hj gp gq order =
      elim (cases_lt k j) [
        | inl less ↦
            omega (arith, over_in k p q (omega arith) gp gq, course.behind_it k q (omega arith) gq, sends_rise (suc k) j q (omega arith) hj gq)
        | inr more ↦
            elim (cases_lt j k) [
              | inl back ↦
                  let le : (j + 1) * s.cluster.nodes ≤ k * s.cluster.nodes = mul-le-mul_right s.cluster.nodes (omega arith) in
                  absurd (omega (arith, add-mul j 1 s.cluster.nodes, gq.0))
              | inr same ↦
                  let e : k ≡ j = omega arith in
                  let near = course.sends_together j p q hj gp gq in
                  let first = course.sent j p hj gp in
                  let second = course.sent j q hj gq in
                  let l : slot j p < slot j q = rw e at order in
                  rw e (omega (arith, s.behind, slot_long (timing_of s) (slot j p), starts_later (timing_of s) (slot j p) (slot j q) l))
            ]
      ]

pub nothing_overlaps_lem : NothingOverlaps
nothing_overlaps_lem s good rounds sends ends k j p q course = overlaps_not s good rounds sends ends course k j p q
