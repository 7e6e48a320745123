-- A round exists from any good clocks, for any errors, lies and running off that the cluster allows. Assumes nothing.
use borrow.Author.Differences.{ints}
use Rattle.std.proofs.Common.{◌≡◌, ℕ, ◌+◌, ◌-◌, ◌<◌, ◌≤◌, min, Bool, true, false, cond, eqb, List, map, ℤ, pos, ◌+ℤ◌, ◌-ℤ◌, nat_abs, ◌≤ℤ◌, ◌<ℤ◌, Some, Option, sym, refl, ◌∙◌, inl, inr, arith}
use Rattle.std.proofs.lemmas.Bool.{cases_Bool, eqb-false, ne_eqb}
use Rattle.std.specs.List.{range_with_len}
use Rattle.midpoint.specs.Midpoint.{midpoint}
use Rattle.midpoint.specs.Setting.{clock_limit}
use Rattle.midpoint.proofs.Sorting.{count_none}
use Rattle.clock.specs.Config.{error_of}
use Rattle.clock.specs.Deviation.{moved}
use Rattle.clock.specs.Setting.{readings, reads, settled, next_round_of}
use Rattle.clock.specs.Rounds.{Moment, ahead, lead, GoodNode, Round}
use Rattle.clock.specs.Theorems.{IsSigned, LieFits, Start, Chosen}
use Rattle.clock.specs.declared.limits.Clock.{Clock}
use Rattle.clock.specs.declared.limits.Cluster.{Cluster}
use Rattle.clock.proofs.Heard.{as_heard, heard_of, is_handed, lie_signed, lie_read}
use Rattle.clock.proofs.Nodes.{midpoint_within}
use Rattle.clock.proofs.Rounds.{not_turned_away}

-- what no reading comes to here
abbrev most : ℕ
most = 800000000000

-- a time that is moved to one that can be counted
moved_exact : (time : ℕ) (by : ℤ) → pos 0 ≤ℤ (pos time +ℤ by) → (pos time +ℤ by) <ℤ pos clock_limit → pos (moved time by) ≡ pos time +ℤ by
moved_exact time by l h = grind (arith, ints)

-- the deviation by which a clock is read wrong by an error
module _ (own at there at' : ℕ) (by : ℤ) (l : 10000000000 ≤ own) (h : own ≤ 400000000000)
    (over : (pos there -ℤ pos at') ≤ℤ ((pos own -ℤ pos at) +ℤ pos 1000000000)) (under : (pos own -ℤ pos at) ≤ℤ ((pos there -ℤ pos at') +ℤ pos 1000000000))
    (e : nat_abs by ≤ 3000) where
  abbrev deviation : ℤ
  deviation = ((pos there -ℤ pos at') -ℤ (pos own -ℤ pos at)) +ℤ by

  read_wrong : (moved own deviation < most) × (pos (moved own deviation) -ℤ pos at ≡ (pos there -ℤ pos at') +ℤ by)
  read_wrong = let w = moved_exact own deviation (omega (arith, ints)) (omega (arith, ints)) in (omega (arith, ints), omega (arith, ints))

module _ (c : Cluster) (good : ℕ → Bool) (before : ℕ → Moment) (errors : ℕ → ℕ → ℤ) (lies : ℕ → ℕ → Option ℤ) (offs : ℕ → ℤ) (start : Start c good before)
    (small : (p q : ℕ) → nat_abs (errors p q) ≤ error_of c) (fits : (p q : ℕ) → LieFits (lies p q)) (steady : (p : ℕ) → nat_abs (offs p) ≤ c.drift) where
  abbrev own : ℕ → ℕ
  own p = (before p).clock.shown

  abbrev hears : ℕ → ℕ → Option ℤ
  hears p q = cond (good q) (Some ((lead (before q) -ℤ lead (before p)) +ℤ errors p q)) (lies p q)

  abbrev all_heard : ℕ → List (Option ℤ)
  all_heard p = as_heard c.nodes (hears p)

  fits_all : (p q : ℕ) → GoodNode c good p → q < c.nodes → IsSigned (hears p q)
  fits_all p q g h =
      elim (cases_Bool (good q)) [
        | inl gq ↦
            let over = start.near q p (h, gq) g in
            let under = start.near p q g (h, gq) in
            let error : nat_abs (errors p q) ≤ 3000 = omega (arith, small p q, c.steady, c.exact) in
            rw gq (omega (arith, ints), omega (arith, ints))
        | inr b ↦ rw b (lie_signed (lies p q) (fits p q))
      ]

  abbrev reading : ℕ → ℕ → ℕ
  reading p q = reads p (own p) (all_heard p) q

  reads_good : (p q : ℕ) → GoodNode c good p → GoodNode c good q → (p ≡ q → ⊥) →
      (reading p q < most) × (ahead (before p) (reading p q) ≡ lead (before q) +ℤ errors p q)
  reads_good p q gp gq d =
      let e = heard_of c.nodes c.most (hears p) q gq.0 in
      let g = gq.1 in
      let other = ne_eqb q p (λ s. d (sym s)) in
      let (l, h) = start.room p gp in
      let error : nat_abs (errors p q) ≤ 3000 = omega (arith, small p q, c.steady, c.exact) in
      rw (other, e, g)
      (read_wrong (own p) (before p).common (own q) (before q).common (errors p q) l h (start.near q p gq gp) (start.near p q gp gq) error)

  reads_below : (p q : ℕ) → GoodNode c good p → q < c.nodes → reading p q < most
  reads_below p q g h =
      let (l, u) = start.room p g in
      let e = heard_of c.nodes c.most (hears p) q h in
      elim (cases_Bool (eqb q p)) [
        | inl same ↦ rw same (omega arith)
        | inr other ↦
            elim (cases_Bool (good q)) [
              | inl gq ↦ (reads_good p q g (h, gq) (λ d. eqb-false q p other (sym d))).0
              | inr b ↦ let f = lie_read (own p) (lies p q) (fits p q) in rw (other, e, b) (omega arith)
            ]
      ]

  abbrev middle : ℕ → ℕ
  middle p = midpoint c.faults (map (reading p) (range_with_len 0 c.nodes))

  middle_below : (p : ℕ) → GoodNode c good p → middle p ≤ most
  middle_below p g =
      let none = count_none (λ q. false) (range_with_len 0 c.nodes) (λ i d h. refl) in
      (midpoint_within c (λ q. true) (reading p) 0 most (omega arith) (λ q h t. let b = reads_below p q g h in (omega arith, omega arith))).1

  set_to : ℕ → Clock
  set_to p = record { shown = min (middle p) most; round = next_round_of (before p).clock.round; below = grind arith }

  run : ℕ → Moment
  run p = record {
    common = (before p).common + 1000000;
    clock = record { shown = min (moved (min (middle p) most + 1000000) (offs p)) (clock_limit - 1); round = next_round_of (before p).clock.round; below = grind arith };
  }

  is_middle : (p : ℕ) → GoodNode c good p → (set_to p).shown ≡ settled c.faults (own p) (readings c.nodes p (own p) (all_heard p))
  unfolding readings set_to
  is_middle p g =
      let b = middle_below p g in
      let u = not_turned_away c (reading p) (λ q h. let l = reads_below p q g h in omega arith) in
      rw u (grind arith)

  runs_off : (p : ℕ) → lead (run p) ≡ ahead (before p) (set_to p).shown +ℤ offs p
  unfolding run set_to
  runs_off p =
      let s : min (middle p) most ≤ most = grind arith in
      let o : nat_abs (offs p) ≤ 1000 = omega (arith, steady p, c.steady) in
      let e = moved_exact (min (middle p) most + 1000000) (offs p) (omega (arith, ints)) (omega (arith, ints)) in
      let m : moved (min (middle p) most + 1000000) (offs p) < clock_limit = omega (arith, ints) in
      let t : min (moved (min (middle p) most + 1000000) (offs p)) (clock_limit - 1) ≡ moved (min (middle p) most + 1000000) (offs p) = grind arith in
      omega (arith, ints)

  one_round : Round c good all_heard before run
  unfolding run set_to
  one_round = record {
    fair = λ p q gp gq d. let (_, e) = reads_good p q gp gq d in let s = small p q in (omega (arith, ints), omega (arith, ints));
    taken = λ p q g h. let l = reads_below p q g h in omega arith;
    set = set_to;
    sets = λ p g. record { its_shown = is_middle p g; its_round = refl };
    runs = λ p g. let e = runs_off p in let s = steady p in (omega (arith, ints), omega (arith, ints));
    counts = λ p g. refl;
  }

  pub chosen : Chosen c good before errors lies offs
  unfolding one_round
  chosen = record {
    heard = all_heard;
    after = run;
    round = one_round;
    handed = λ p g. is_handed c.nodes c.most (hears p) (λ q h. fits_all p q g h);
    lied = λ p q h b. heard_of c.nodes c.most (hears p) q h ∙ rw b;
    erred = λ p q gp gq d. (reads_good p q gp gq d).1;
    ran = λ p g. runs_off p;
    later = λ p g. omega arith;
  }
