-- What a round makes of the good clocks, and many rounds. Assumes nothing.
use Rattle.std.proofs.Common.{◌≡◌, ℕ, zero, suc, ◌+◌, ◌-◌, ◌*◌, ◌/◌, ◌^◌, ◌<◌, ◌≤◌, Bool, not, eqb, List, map, ℤ, pos, ◌+ℤ◌, ◌≤ℤ◌, None, Option, sym, ap, ◌∙◌, inl, inr, pow-suc, div-one, arith}
use native.Mathlib.Nat.{div-div-eq-div-mul}
use borrow.Author.Differences.{ints}
use Rattle.std.proofs.lemmas.List.FromFn.{length-map-range_with_len, get_or-map-range_with_len}
use Rattle.std.proofs.lemmas.List.Sums.{prefix_len_is}
use Rattle.std.proofs.lemmas.Bool.{cases_Bool, eqb-false, eqb-true, not-false, lt-ltb}
use Rattle.std.proofs.lemmas.Bool.Decides.{nat_tests}
use Rattle.std.specs.List.{range_with_len}
use Rattle.midpoint.specs.Refusals.{first_applying}
use Rattle.midpoint.specs.Setting.{unusable, shown, clock_limit}
use Rattle.clock.specs.Config.{error_of, bound_of}
use Rattle.clock.specs.Setting.{readings}
use Rattle.clock.specs.Rounds.{Moment, ahead, lead, Within, GoodNode, FewBad, Apart, read_by, Round, Rounds}
use Rattle.clock.specs.Theorems.{StaysTogether, StaysInWidth, Halves, ComesTogether, StaysBetween, CountsTogether, rest_of}
use Rattle.clock.specs.declared.limits.Cluster.{Cluster}
use Rattle.clock.proofs.Nodes.{at_place, shared}

-- readings of a cluster's nodes of which none comes to the limit are not turned away
pub not_turned_away : (c : Cluster) (y : ℕ → ℕ) → ((q : ℕ) → q < c.nodes → y q < clock_limit) →
    first_applying (unusable c.faults (map y (range_with_len 0 c.nodes))) ≡ None
not_turned_away c y each =
    let long = length-map-range_with_len y 0 c.nodes in
    let all =
    prefix_len_is shown (map y (range_with_len 0 c.nodes)) c.nodes 0 (omega arith)
    (λ q h. let e = get_or-map-range_with_len y 0 c.nodes q q 0 h (omega arith) in rw e (lt-ltb (y q) clock_limit (each q h)))
    (λ h. absurd (omega arith)) in
    let e = c.enough in
    let m = c.most in
    let t = c.tolerated in
    grind (arith, nat_tests)

module _ (c : Cluster) (good : ℕ → Bool) (heard : ℕ → List (Option ℤ)) (before after : ℕ → Moment) (few : FewBad c good) (round : Round c good heard before after) where
  -- what p reads, by its place in rising order, and the place that has as many above it as may be faulty
  abbrev at : ℕ → ℕ → ℕ
  at p i = at_place c.nodes (read_by before heard p) i

  abbrev top : ℕ
  top = c.nodes - 1 - c.faults

  is_set_to : (p : ℕ) → GoodNode c good p → (round.set p).shown ≡ (at p c.faults + at p top) / 2
  unfolding readings
  is_set_to p g =
      let long = length-map-range_with_len (read_by before heard p) 0 c.nodes in
      let t = not_turned_away c (read_by before heard p) (λ q h. round.taken p q g h) in
      (round.sets p g).its_shown ∙ rw (t, long)

  -- a good node reads good ones rightly up to the error, itself exactly
  reads_right : (p q : ℕ) → GoodNode c good p → GoodNode c good q →
      Within (error_of c) (ahead (before p) (read_by before heard p q)) (lead (before q))
  reads_right p q gp gq =
      elim (cases_Bool (eqb q p)) [
        | inl same ↦ let e = eqb-true q p same in rw (same, e) (omega (arith, ints), omega (arith, ints))
        | inr other ↦ round.fair p q gp gq (λ e. eqb-false q p other (sym e))
      ]

  -- some good clock is neither behind what p reads at place i nor ahead of what q reads at place j, but for the error
  some_good : (p q i j : ℕ) → GoodNode c good p → GoodNode c good q → i + c.faults ≤ j → j < c.nodes →
      (r : ℕ) × GoodNode c good r
      × (ahead (before p) (at p i) ≤ℤ (lead (before r) +ℤ pos (error_of c)))
      × (lead (before r) ≤ℤ (ahead (before q) (at q j) +ℤ pos (error_of c)))
  some_good p q i j gp gq h k =
      let (r, l, b, low, high) = shared c.nodes (λ r. not (good r)) (read_by before heard p) (read_by before heard q) i j (omega arith) k in
      let gr : GoodNode c good r = (l, not-false (good r) b) in
      let (_, over) = reads_right q r gq gr in
      let (under, _) = reads_right p r gp gr in
      (r, gr, omega (arith, ints), omega (arith, ints))

  -- so what two good nodes set their clocks to is tied to three good clocks
  tied : (p q : ℕ) → GoodNode c good p → GoodNode c good q →
      ((r : ℕ) × GoodNode c good r
      × (ahead (before p) (at p c.faults) ≤ℤ (lead (before r) +ℤ pos (error_of c)))
      × (lead (before r) ≤ℤ (ahead (before q) (at q top) +ℤ pos (error_of c))))
      × ((r : ℕ) × GoodNode c good r × (ahead (before p) (at p top) ≤ℤ (lead (before r) +ℤ pos (error_of c))))
      × ((r : ℕ) × GoodNode c good r × (lead (before r) ≤ℤ (ahead (before q) (at q c.faults) +ℤ pos (error_of c))))
  tied p q gp gq =
      let t = c.tolerated in
      let (r, gr, high, _) = some_good p p top (c.nodes - 1) gp gp (omega arith) (omega arith) in
      let (s, gs, _, low) = some_good q q 0 c.faults gq gq (omega arith) (omega arith) in
      (some_good p q c.faults top gp gq (omega arith) (omega arith), (r, gr, high), (s, gs, low))

  -- what the settings leave them apart
  pub set_closer : (d : ℕ) → Apart c good d before → (p q : ℕ) → GoodNode c good p → GoodNode c good q →
      (round.set p).shown + (before q).common ≤ (round.set q).shown + (before p).common + (d / 2 + 2 * error_of c + 1)
  set_closer d apart p q gp gq =
      let ((t, gt, over, under), (r, gr, high), (s, gs, low)) = tied p q gp gq in
      omega (arith, ints, is_set_to p gp, is_set_to q gq, apart r s gr gs)

  -- each is set between what good clocks span, but for the error
  pub set_between : (low high : ℤ) → ((q : ℕ) → GoodNode c good q → (low ≤ℤ lead (before q)) × (lead (before q) ≤ℤ high)) → (p : ℕ) →
      GoodNode c good p →
      (low ≤ℤ (ahead (before p) (round.set p).shown +ℤ pos (error_of c))) × (ahead (before p) (round.set p).shown ≤ℤ (high +ℤ pos (error_of c)))
  set_between low high span p g =
      let set = is_set_to p g in
      let ((t, gt, over, under), (r, gr, above), (s, gs, below)) = tied p p g g in
      let (lt, ht) = span t gt in
      let (lr, hr) = span r gr in
      let (ls, hs) = span s gs in
      (omega (arith, ints), omega (arith, ints))

pub halves : Halves
halves c good heard before after d few round apart p q gp gq =
    let (up, _) = round.runs p gp in
    let (_, down) = round.runs q gq in
    omega (arith, ints, set_closer c good heard before after few round d apart p q gp gq)

-- a bound on how far good clocks are apart that a round keeps is kept by any number of them; it may change from round to round
module _ (c : Cluster) (good : ℕ → Bool) (heard : ℕ → ℕ → List (Option ℤ)) (m : ℕ → ℕ → Moment) (few : FewBad c good) where
  wider : (j d e : ℕ) → d ≤ e → Apart c good d (m j) → Apart c good e (m j)
  wider j d e h apart p q gp gq = let a = apart p q gp gq in omega (arith, ints)

  kept : (most : ℕ → ℕ) → ((j : ℕ) → most j / 2 + rest_of c ≤ most (suc j)) → (k : ℕ) → Rounds c good heard m k → Apart c good (most 0) (m 0) →
      Apart c good (most k) (m k)
  kept most step zero rounds start = start
  kept most step (suc k) rounds start =
      wider (suc k) (most k / 2 + rest_of c) (most (suc k)) (step k)
      (halves c good (heard k) (m k) (m (suc k)) (most k) few (rounds k (omega arith)) (kept most step k (λ j h. rounds j (omega arith)) start))

pub stays_together : StaysTogether
stays_together c good heard m k few rounds start = kept c good heard m few (λ j. bound_of c) (λ j. omega arith) k rounds start

pub stays_in_width : StaysInWidth
stays_in_width c good end within apart runs p q gp gq =
    let a = apart p q gp gq in
    let (up, _) = runs p gp in
    let (_, down) = runs q gq in
    omega (arith, ints)

halved_again : (d k : ℕ) → d / 2 ^ k / 2 ≡ d / 2 ^ suc k
halved_again d k = div-div-eq-div-mul d (2 ^ k) 2 ∙ ap (λ (n : ℕ). d / n) (sym (pow-suc 2 k))

pub comes_together : ComesTogether
comes_together c good heard m k d few rounds start =
    kept c good heard m few (λ j. d / 2 ^ j + bound_of c) (λ j. omega (arith, halved_again d j)) k rounds
    (wider c good heard m few 0 d (d / 2 ^ 0 + bound_of c) (omega (arith, div-one d)) start)

pub stays_between : StaysBetween
stays_between c good heard before after low high few round span p g =
    let (up, down) = round.runs p g in
    let (above, below) = set_between c good heard before after few round low high span p g in
    (omega (arith, ints), omega (arith, ints))

pub counts_together : CountsTogether
counts_together c good heard m zero round fits rounds start p g = start p g ∙ omega arith
counts_together c good heard m (suc k) round fits rounds start p g =
    let ih = counts_together c good heard m k round (omega arith) (λ j h. rounds j (omega arith)) start p g in
    let last = rounds k (omega arith) in
    last.counts p g ∙ (last.sets p g).its_round ∙ grind (arith, nat_tests)
