-- Slots that are a tick too short, and messages that are not heard in them. Assumes nothing.
use Rattle.std.proofs.Common.{◌≡◌, ℕ, zero, suc, ◌+◌, ◌<◌, true, cond, T, eqb, ltb, List, map, ℤ, pos, negsuc, Some, None, Option, sym, refl, ◌∙◌, inl, inr, arith, lit<, lit≤}
use Rattle.std.proofs.lemmas.List.FromFn.{get_or-map-range_with_len}
use Rattle.std.proofs.lemmas.Bool.{cases_Bool, cases_eq, eq-eqb, eqb-true, ne_eqb}
use Rattle.std.proofs.lemmas.Bool.Decides.{nat_tests}
use Rattle.std.specs.List.{range_with_len}
use Rattle.midpoint.specs.Order.{count, insert, sorted}
use Rattle.midpoint.specs.Setting.{clock_limit}
use Rattle.clock.specs.Config.{width_of}
use Rattle.clock.specs.Rounds.{Moment, ahead, lead, Within, Round}
use Rattle.clock.specs.Setting.{read_of, reads, readings, settled}
use Rattle.clock.specs.declared.limits.Clock.{Clock}
use Rattle.schedule.specs.Messages.{at}
use Rattle.schedule.specs.Tight.{LengthIsTight, ShortPauseFails, seven}

pub length_is_tight_lem : LengthIsTight
length_is_tight_lem c t short = (
  at 0 t.pause,
  at t.wire (t.pause + t.wire + width_of c),
  at (t.wire + t.message) (t.pause + t.wire + width_of c + t.message),
  record {
    sends = omega arith;
    way = record { leaves = omega arith; arrives = omega arith; lasts = omega arith };
    before = omega arith;
    behind = omega arith;
    unheard = grind (arith, nat_tests);
  },
)

-- Seven good clocks as round 0 ends for each: node 1 keeps common time, and the others are ahead by the width.
abbrev clock_at : (shown round : ℕ) → T (ltb shown clock_limit) → Clock
clock_at shown round h = record { shown = shown; round = round; below = lit< h }

abbrev moment_at : ℕ → Clock → Moment
moment_at common clock = record { common = common; clock = clock }

abbrev ending : ℕ → Moment
ending p = cond (eqb p 1) (moment_at 3199 (clock_at 3199 0 tt)) (moment_at 3087 (clock_at 3199 0 tt))

-- Node 1 reads them rightly; they read each other as far ahead as they may, and node 1 rightly.
abbrev deviates : ℕ → ℕ → Option ℤ
deviates p q = cond (eqb p 1) (Some (pos 112)) (cond (eqb q 1) (Some (negsuc 111)) (Some (pos 20)))

abbrev hears : ℕ → List (Option ℤ)
hears p = map (deviates p) (range_with_len 0 16)

-- By that they set their clocks, and node 0's runs fast by the drift.
abbrev set_to : ℕ → Clock
set_to p = cond (eqb p 1) (clock_at 3311 1 tt) (clock_at 3219 1 tt)

abbrev sending : ℕ → Moment
sending p = cond (eqb p 0) (moment_at 3198 (clock_at 3335 1 tt)) (moment_at (ending p).common (set_to p))

abbrev reading : ℕ → ℕ → ℕ
reading p q = reads p (ending p).clock.shown (hears p) q

-- what holds of each of seven nodes
each : (P : ℕ → Type 0) → P 0 → P 1 → P 2 → P 3 → P 4 → P 5 → P 6 → (p : ℕ) → p < 7 → P p
each P a b c d e f g zero h = a
each P a b c d e f g (suc zero) h = b
each P a b c d e f g (suc (suc zero)) h = c
each P a b c d e f g (suc (suc (suc zero))) h = d
each P a b c d e f g (suc (suc (suc (suc zero)))) h = e
each P a b c d e f g (suc (suc (suc (suc (suc zero))))) h = f
each P a b c d e f g (suc (suc (suc (suc (suc (suc zero)))))) h = g
each P a b c d e f g (suc (suc (suc (suc (suc (suc (suc p))))))) h = absurd (omega arith)

is_set : (p : ℕ) → p < 7 → (set_to p).shown ≡ settled 2 (ending p).clock.shown (readings 7 p (ending p).clock.shown (hears p))
unfolding readings sorted insert
is_set =
    each (λ p. (set_to p).shown ≡ settled 2 (ending p).clock.shown (readings 7 p (ending p).clock.shown (hears p))) refl refl refl refl refl refl refl

reads_other : (p q : ℕ) → q < 7 → (p ≡ q → ⊥) → reading p q ≡ read_of (ending p).clock.shown (deviates p q)
reads_other p q h d =
    let other = ne_eqb q p (λ e. d (sym e)) in
    let entry = get_or-map-range_with_len (deviates p) 0 16 q q None (omega arith) (omega arith) in
    rw (other, entry)

is_fair : (p q : ℕ) → q < 7 → (p ≡ q → ⊥) → Within 20 (ahead (ending p) (reading p q)) (lead (ending q))
is_fair p q h d =
    let e = reads_other p q h d in
    rw e
    (elim (cases_Bool (eqb p 1)) [
      | inl one ↦
          elim (cases_Bool (eqb q 1)) [
            | inl same ↦ absurd (d (eqb-true p 1 one ∙ sym (eqb-true q 1 same)))
            | inr other ↦ rw (one, other) (record { le = tt }, record { le = tt })
          ]
      | inr others ↦
          elim (cases_Bool (eqb q 1)) [
            | inl one ↦ rw (others, one) (record { le = tt }, record { le = tt })
            | inr other ↦ rw (others, other) (record { le = tt }, record { le = tt })
          ]
    ])

is_taken : (p q : ℕ) → q < 7 → reading p q < clock_limit
is_taken p q h =
    elim (cases_eq p q) [
      | inl same ↦ let e = eq-eqb q p (sym same) in rw e (ending p).clock.below
      | inr d ↦
          let e = reads_other p q h d in
          rw e
          (elim (cases_Bool (eqb p 1)) [
            | inl one ↦ rw one (lit< tt)
            | inr others ↦ elim (cases_Bool (eqb q 1)) [ inl one ↦ rw (others, one) (lit< tt) | inr other ↦ rw (others, other) (lit< tt) ]
          ])
    ]

runs_off : (p : ℕ) → Within 5 (lead (sending p)) (ahead (ending p) (set_to p).shown)
runs_off p =
    elim (cases_Bool (eqb p 0)) [
      | inl zeroth ↦ let e = eqb-true p 0 zeroth in rw e (record { le = tt }, record { le = tt })
      | inr others ↦
          rw others
          (elim (cases_Bool (eqb p 1)) [ inl one ↦ rw one (record { le = tt }, record { le = tt }) | inr other ↦ rw other (record { le = tt }, record { le = tt }) ])
    ]

same_round : (p : ℕ) → (sending p).clock.round ≡ (set_to p).round
same_round p =
    elim (cases_Bool (eqb p 0)) [ inl zeroth ↦ let e = eqb-true p 0 zeroth in rw e refl | inr others ↦ rw others refl ]

is_round : Round seven (λ p. true) hears ending sending
is_round = record {
  fair = λ p q gp gq d. is_fair p q gq.0 d;
  taken = λ p q g h. is_taken p q h;
  set = set_to;
  sets = λ p g. record {
    its_shown = is_set p g.0;
    its_round = elim (cases_Bool (eqb p 1)) [ inl one ↦ rw one refl | inr others ↦ rw others refl ];
  };
  runs = λ p g. runs_off p;
  counts = λ p g. same_round p;
}

pub short_pause_fails_lem : ShortPauseFails
unfolding count
short_pause_fails_lem = record {
  heard = hears;
  before = ending;
  after = sending;
  few = lit≤ tt;
  goes_round = is_round;
  apart = λ p q gp gq.
      elim (cases_Bool (eqb p 1)) [
        | inl one ↦ elim (cases_Bool (eqb q 1)) [ inl same ↦ rw (one, same) (record { le = tt }) | inr other ↦ rw (one, other) (record { le = tt }) ]
        | inr others ↦ elim (cases_Bool (eqb q 1)) [ inl one ↦ rw (others, one) (record { le = tt }) | inr other ↦ rw (others, other) (record { le = tt }) ]
      ];
  good_sender = (lit< tt, refl);
  good_receiver = (lit< tt, refl);
  is_sent = refl;
  is_set = refl;
  sends = refl;
  first = refl;
  ends = refl;
  too_early = lit< tt;
  at_once = refl;
  same_lead = refl;
  unheard = λ ended. refl;
}
