-- What the theorems ask of good nodes and of messages can be met. Assumes nothing.
use borrow.Author.Differences.{ints}
use Rattle.std.proofs.Common.{◌≡◌, ℕ, ◌+◌, ◌-◌, ◌<◌, min, Bool, cond, List, ℤ, Some, Option, refl, ap, ◌∙◌, inl, inr, arith}
use Rattle.std.proofs.lemmas.Bool.{cases_Bool}
use Rattle.midpoint.specs.Setting.{clock_limit}
use Rattle.clock.specs.Config.{width_of}
use Rattle.clock.specs.Deviation.{deviation_of}
use Rattle.clock.specs.Rounds.{Moment}
use Rattle.clock.proofs.Heard.{as_heard, heard_of}
use Rattle.schedule.specs.Config.{timing_of}
use Rattle.schedule.specs.Messages.{Instant, Course, FromSlot, HeardRound}
use Rattle.schedule.specs.Slots.{slot_of, send_time_of, round_end_of}
use Rattle.schedule.specs.Possible.{Leads, CourseCanBeRun, MessageCanPass, RoundCanBeHeard}
use Rattle.schedule.specs.declared.limits.Schedule.{Schedule}
use Rattle.schedule.proofs.Passing.{in_round, behind_round}

module _ (s : Schedule) (good : ℕ → Bool) (rounds : ℕ) (leads : ℕ → ℕ → ℕ) (most : ℕ) (given : Leads s good leads most) where
  -- a clock that shows a time in a round
  shows : ℕ → ℕ → ℕ → Instant
  shows k p time = record { common = time + most - leads k p; shown = time }

  abbrev sends : ℕ → ℕ → Instant
  sends k p = shows k p (send_time_of (timing_of s) (slot_of (timing_of s) k p))

  abbrev ends : ℕ → ℕ → Instant
  ends k p = shows k p (round_end_of (timing_of s) k)

  runs : Course s good rounds sends ends
  unfolding shows
  runs = record {
    sent = λ k p h g. refl;
    over = λ k p h g. refl;
    before_the_end = λ k p h g. omega (arith, in_round s k p g.0, s.behind);
    behind_it = λ k p h g. omega (arith, behind_round s k p, given.steps k p, given.below k p);
    sends_together = λ k p q h gp gq. omega (arith, given.near k q p gq gp, given.below k p, given.below k q);
    ends_together = λ k p q h gp gq. omega (arith, given.near k q p gq gp, given.below k p, given.below k q);
  }

pub course_can_be_run_lem : CourseCanBeRun
unfolding shows
course_can_be_run_lem s good rounds leads most given = record {
  sends = sends s good rounds leads most given;
  ends = ends s good rounds leads most given;
  course = runs s good rounds leads most given;
  sends_led = λ k p. omega (arith, given.below k p);
  ends_led = λ k p. omega (arith, given.below k p);
}

pub message_can_pass_lem : MessageCanPass
message_can_pass_lem s slot delay lasting first last h l g =
    let w = width_of s.cluster in
    let due = send_time_of (timing_of s) slot in
    record {
      sent = record { common = 0; shown = due };
      began = record { common = delay; shown = due + delay + first - w };
      ended = record { common = delay + lasting; shown = due + delay + lasting + last - w };
      sends = refl;
      way = record { leaves = omega arith; arrives = omega arith; lasts = omega arith };
      before = omega (arith, s.before);
      behind = omega (arith, s.before);
      delayed = omega arith;
      lasted = refl;
      ahead_first = omega (arith, s.before);
      ahead_last = omega (arith, s.before);
    }

-- A round in which good clocks keep common time and messages are not delayed.
module _ (s : Schedule) (good : ℕ → Bool) (round : ℕ) (lies : ℕ → ℕ → Option ℤ)
    (room : round_end_of (timing_of s) round + s.pause < clock_limit)
    (fits : (p q : ℕ) → FromSlot (timing_of s) (slot_of (timing_of s) round q) (lies p q)) where
  abbrev n : ℕ
  n = s.cluster.nodes

  abbrev due : ℕ → ℕ
  due q = send_time_of (timing_of s) (slot_of (timing_of s) round q)

  keeps : ℕ → Moment
  keeps time =
      record { common = min time (clock_limit - 1); clock = record { shown = min time (clock_limit - 1); round = round; below = grind arith } }

  abbrev hears : ℕ → ℕ → Option ℤ
  hears p q = cond (good q) (Some (deviation_of (due q) (keeps (due q)).clock.shown)) (lies p q)

  abbrev all_heard : ℕ → List (Option ℤ)
  all_heard p = as_heard n (hears p)

  abbrev end : Moment
  end = keeps (round_end_of (timing_of s) round)

  -- what is due in the round is shown as it is
  shows_due : (q : ℕ) → q < n → (keeps (due q)).clock.shown ≡ due q
  unfolding keeps
  shows_due q h = let l = in_round s round q h in let b = s.behind in grind arith

  shows_end : end.clock.shown ≡ round_end_of (timing_of s) round
  unfolding keeps
  shows_end = grind arith

  from_all : (p q : ℕ) → q < n → FromSlot (timing_of s) (slot_of (timing_of s) round q) (hears p q)
  from_all p q h =
      elim (cases_Bool (good q)) [
        | inl g ↦ let e = shows_due q h in rw g (due q, omega arith, ap (deviation_of (due q)) e)
        | inr b ↦ rw b (fits p q)
      ]

  round_heard : HeardRound s good round all_heard (λ p. end)
  unfolding keeps
  round_heard = record {
    sent = λ q. keeps (due q);
    began = λ p q. keeps (due q);
    sends = λ q g. shows_due q g.0;
    leaves = λ p q gp gq d. omega arith;
    on_time = λ p q gp gq d. omega arith;
    sender_runs = λ q g. (omega (arith, ints), omega (arith, ints));
    receiver_runs = λ p q gp gq d. (omega (arith, ints), omega (arith, ints));
    in_its_slot = λ p q gp gq d.
        let e = shows_due q gq.0 in let f = shows_end in let l = in_round s round q gq.0 in (omega arith, omega (arith, s.behind));
    hears = λ p q gp gq d. let e = heard_of n s.cluster.most (hears p) q gq.0 in let g = gq.1 in rw (e, g);
    from_slots = λ p q g h. let e = heard_of n s.cluster.most (hears p) q h in rw e (from_all p q h);
    room = λ p g. let f = shows_end in omega arith;
  }

pub round_can_be_heard_lem : RoundCanBeHeard
round_can_be_heard_lem s good round lies room fits = record {
  heard = all_heard s good round lies room fits;
  ends = λ p. end s good round lies room fits;
  is_heard = round_heard s good round lies room fits;
  lied = λ p q h b. heard_of s.cluster.nodes s.cluster.most (hears s good round lies room fits p) q h ∙ rw b;
  ended = λ p. shows_end s good round lies room fits;
}
