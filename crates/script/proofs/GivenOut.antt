-- Each round that is read is within the limits of its cluster. Assumes nothing.
use Rattle.std.proofs.Common.{◌≡◌, refl, ℕ, zero, suc, ◌≤◌, List, [], ◌∷◌, ◌++◌, ◌&&◌, Some, None, Option, ℤ, pos, get_or, set, replicate, unsigned_abs, nat_lt, inl, inr, append-nil, arith}
use Rattle.std.specs.List.{All}
use Rattle.std.specs.Option.{option_to_list, unwrap_or}
use Rattle.std.proofs.lemmas.Bool.{cases_Bool}
use Rattle.std.proofs.lemmas.Bool.Decides.{nat_tests}
use Rattle.std.proofs.lemmas.List.Elements.{All-nil, All-cons, All-append}
use Rattle.midpoint.specs.Refusals.{first_applying}
use Rattle.clock.specs.Config.{error_of}
use Rattle.script.specs.Running as running
use Rattle.script.specs.Running.{NothingSaid}
use Rattle.script.specs.Reading as reading
use Rattle.script.specs.Reading.{Read, TookAny, Ended, setup_of}
use Rattle.script.specs.Rounds.{with_entry, with_place}
use Rattle.script.specs.Theorems.{BadToGood, Within, GivesOut, AllWithin, ReadRoundsAreWithin}
use Rattle.script.specs.Theorems.GivesOut.{nothing, by_line, by_end}
use Rattle.script.specs.declared.entry.Entry.{Entry}
use Rattle.script.specs.declared.entry.Entry.TheVariants as entry
use Rattle.script.specs.declared.entry.Content.{Content}
use Rattle.script.specs.declared.naming.Naming.{Naming}
use Rattle.script.specs.declared.reader.Reader.{Reader}
use Rattle.script.specs.declared.reader.Stage.{Stage}
use Rattle.script.specs.declared.reader.Stage.TheVariants as stage
use Rattle.script.specs.declared.round.Message.{Message}
use Rattle.script.specs.declared.round.Round.{Round}
use Rattle.script.specs.declared.running.Running.{Running}
use Rattle.script.specs.declared.setup.Setup.{Setup}

-- what holds of an entry before, and of the one that is put in, holds of it behind that
kept_by_set : {X : Type 0} (P : X → Type 0) (xs : List X) (i j : ℕ) (x d : X) → P x → P (get_or xs j d) → P (get_or (set xs i x) j d)
kept_by_set P [] i j x d put before = before
kept_by_set P (y ∷ ys) zero zero x d put before = put
kept_by_set P (y ∷ ys) zero (suc j) x d put before = before
kept_by_set P (y ∷ ys) (suc i) zero x d put before = before
kept_by_set P (y ∷ ys) (suc i) (suc j) x d put before = kept_by_set P ys i j x d put before

-- and so where it is put in only at a node of the largest cluster
kept_by_place : {X : Type 0} (P : X → Type 0) (xs : List X) (i j : ℕ) (x d : X) → P x → P (get_or xs j d) → P (get_or (with_place xs i x) j d)
kept_by_place P xs i j x d put before = elim (cases_Bool (nat_lt i 16)) [ inl known ↦ rw known (kept_by_set P xs i j x d put before) | inr past ↦ rw past before ]

-- an entry that is not given, or at most so much either way
abbrev AtMost : ℕ → Option ℤ → Type 0
AtMost most given = unsigned_abs (unwrap_or given (pos 0)) ≤ most

-- a row of such entries
abbrev RowAtMost : ℕ → List (Option ℤ) → Type 0
RowAtMost most row = (q : ℕ) → AtMost most (get_or row q None)

-- with an entry of at most so much put into it, a table has such rows if it had them before
kept_by_entry : (most : ℕ) (rows : List (List (Option ℤ))) (node of p : ℕ) (by : ℤ) → unsigned_abs by ≤ most →
    ((p : ℕ) → RowAtMost most (get_or rows p [])) → RowAtMost most (get_or (with_entry rows node of (Some by)) p [])
kept_by_entry most rows node of p by fits before =
    elim (cases_Bool (nat_lt node 16 && nat_lt of 16)) [
      | inl known ↦
          rw known (
          kept_by_set (RowAtMost most) rows node p (set (get_or rows node []) of (Some by)) []
          (λ q. kept_by_set (AtMost most) (get_or rows node []) of q (Some by) None fits (before node q)) (before p)
          )
      | inr past ↦ rw past (before p)
    ]

-- a list of one thing, so many times, has that at each place, and the default past its end
each_of_same : {X : Type 0} (P : X → Type 0) (j : ℕ) (n : ℕ) (x d : X) → P x → P d → P (get_or (replicate n x) j d)
each_of_same P j zero x d one other = other
each_of_same P zero (suc n) x d one other = one
each_of_same P (suc j) (suc n) x d one other = each_of_same P j n x d one other

-- a round of which nothing is said is within the limits
nothing_within : (setup : Setup) (r : Round) → NothingSaid r → Within setup r
nothing_within setup r said = record {
  jitters = λ p q. rw (said.given)
      (each_of_same (RowAtMost (error_of setup.schedule.cluster)) p 16 (replicate 16 None) []
      (λ q. each_of_same (AtMost (error_of setup.schedule.cluster)) q 16 None None (omega arith) (omega arith)) (λ q. omega arith) q);
  drifts = λ p. rw (said.given) (each_of_same (AtMost setup.schedule.cluster.drift) p 16 None None (omega arith) (omega arith));
  messages = rw (said.messages) (All-nil (BadToGood setup));
}

-- all of one
all_one : {X : Type 0} (P : X → Type 0) (x : X) → P x → All P (x ∷ [])
all_one P x holds = All-cons P x [] holds (All-nil P)

-- a jitter that is not turned away is at most the error
jitter_fits : (s : Running) (node of : ℕ) (by : ℤ) → first_applying (running.no_jitter s node of by) ≡ None →
    unsigned_abs by ≤ error_of s.setup.schedule.cluster
jitter_fits s node of by none = grind (arith, nat_tests)

-- and a drift at most the cluster's
drift_fits : (s : Running) (node : ℕ) (by : ℤ) → first_applying (running.no_drift s node by) ≡ None → unsigned_abs by ≤ s.setup.schedule.cluster.drift
drift_fits s node by none = grind (arith, nat_tests)

-- and a message is of a bad node to a good one
message_fits : (s : Running) (from to ahead : ℕ) (content : Content) (m : Message) → first_applying (running.unsayable s from to) ≡ None →
    running.MessageOf s from to ahead content m → BadToGood s.setup m
message_fits s from to ahead content m none is =
    record {
      sender = rw (is.from) (grind (arith, nat_tests));
      bad = rw (is.from) (grind (arith, nat_tests));
      receiver = rw (is.to) (grind (arith, nat_tests));
      good = rw (is.to) (grind (arith, nat_tests));
    }

-- What is known of a reader at a stage that has given out these rounds: they are within the limits, and so is the round under way.
abbrev Going : Stage → List Round → Type 0
Going (stage.Running s) rounds = Within s.setup s.round × All (Within s.setup) rounds
Going other rounds = rounds ≡ []

-- the round under way ends
ends : (s t : Running) (rounds : List Round) (round : Option Round) → running.NextBegun s t → round ≡ Some s.round → Going (stage.Running s) rounds →
    Going (stage.Running t) (rounds ++ option_to_list round)
ends s t rounds round next is (within, all) =
    rw (next.setup, is) (nothing_within s.setup t.round next.round, All-append (Within s.setup) rounds (s.round ∷ []) all (all_one (Within s.setup) s.round within))

-- or it goes on
goes_on : (s t : Running) (rounds : List Round) (round : Option Round) → t.setup ≡ s.setup → round ≡ None → Within s.setup t.round → All (Within s.setup) rounds →
    Going (stage.Running t) (rounds ++ option_to_list round)
goes_on s t rounds round same none within all = rw (same, none, append-nil rounds) (within, all)

-- a line while rounds run
running_goes_on : (s t : Running) (line : Entry) (rounds : List Round) (round : Option Round) → first_applying (running.misfits s line) ≡ None →
    running.Took s line t round → Going (stage.Running s) rounds → Going (stage.Running t) (rounds ++ option_to_list round)
running_goes_on s t entry.Round rounds round fits (next, is) before = ends s t rounds round next is before
running_goes_on s t (entry.Says from to ahead content) rounds round fits (said, none) (within, all) =
    goes_on s t rounds round said.setup none (record {
      jitters = λ p q. rw (said.given) (within.jitters p q);
      drifts = λ p. rw (said.given) (within.drifts p);
      messages = rw (said.messages)
          (All-append (BadToGood s.setup) s.round.messages.items (said.message ∷ []) within.messages
          (all_one (BadToGood s.setup) said.message (message_fits s from to ahead content said.message fits said.is)));
    }) all
running_goes_on s t (entry.Jitter node of by) rounds round fits (jittered, none) (within, all) =
    goes_on s t rounds round jittered.setup none (record {
      jitters = λ p q. rw (jittered.jitter)
          (kept_by_entry (error_of s.setup.schedule.cluster) s.round.given.jitter node of p by (jitter_fits s node of by fits) within.jitters q);
      drifts = λ p. rw (jittered.drift) (within.drifts p);
      messages = rw (jittered.messages) within.messages;
    }) all
running_goes_on s t (entry.Drift node by) rounds round fits (drifted, none) (within, all) =
    goes_on s t rounds round drifted.setup none (record {
      jitters = λ p q. rw (drifted.jitter) (within.jitters p q);
      drifts = λ p. rw (drifted.drift)
          (kept_by_place (AtMost s.setup.schedule.cluster.drift) s.round.given.drift node p (Some by) None (drift_fits s node by fits) (within.drifts p));
      messages = rw (drifted.messages) within.messages;
    }) all
running_goes_on s t (entry.Value node next) rounds round fits (valued, none) (within, all) =
    goes_on s t rounds round valued.setup none (record {
      jitters = λ p q. rw (valued.jitter) (within.jitters p q);
      drifts = λ p. rw (valued.drift) (within.drifts p);
      messages = rw (valued.messages) within.messages;
    }) all
running_goes_on s t other rounds round fits took before = absurd took

-- a line that names a node, or with which rounds begin
named_goes_on : (s : Naming) (t : Stage) (line : Entry) → reading.Named s line t → Going t []
named_goes_on s stage.Start line named = refl
named_goes_on s (stage.Configured c) line named = refl
named_goes_on s (stage.Naming t) line named = refl
named_goes_on s (stage.Running t) entry.Round begun = (nothing_within t.setup t.round begun.round, All-nil (Within t.setup))
named_goes_on s (stage.Running t) other named = absurd named

-- a line of a script
line_goes_on : (s t : Stage) (line : Entry) (rounds : List Round) (round : Option Round) → reading.Took s line t round → Going s rounds →
    Going t (rounds ++ option_to_list round)
line_goes_on stage.Start (stage.Configured c) line rounds round (_, none) before = rw (none, before) refl
line_goes_on (stage.Configured c) (stage.Naming t) line rounds round (_, none) before = rw (none, before) refl
line_goes_on (stage.Naming s) t line rounds round (_, named, none) before = rw (none, before) (named_goes_on s t line named)
line_goes_on (stage.Running s) (stage.Running t) line rounds round (fits, took) before = running_goes_on s t line rounds round fits took before
line_goes_on s t line rounds round took before = absurd took

-- a line that says something, or nothing
any_goes_on : (s t : Stage) (line : Option Entry) (rounds : List Round) (round : Option Round) → TookAny s line t round → Going s rounds →
    Going t (rounds ++ option_to_list round)
any_goes_on s t None rounds round (same, none) before = rw (same, none, append-nil rounds) before
any_goes_on s t (Some line) rounds round took before = line_goes_on s t line rounds round took before

-- the end of a script
end_goes_on : (s t : Stage) (rounds : List Round) (round : Option Round) → Ended s t round → Going s rounds → Going t (rounds ++ option_to_list round)
end_goes_on (stage.Running s) (stage.Running t) rounds round (next, is) before = ends s t rounds round next is before
end_goes_on (stage.Naming s) t rounds round (named, same, none) before = rw (same, none, append-nil rounds) before
end_goes_on s t rounds round ended before = absurd ended

-- so a reader from its start on
goes_on_from : (s t : Reader) (rounds : List Round) → s.stage ≡ stage.Start → GivesOut s t rounds → Going t.stage rounds
goes_on_from s _ _ begins nothing = rw begins refl
goes_on_from s _ _ begins (by_line text t u rounds round before read) =
    any_goes_on t.stage u.stage read.line rounds round read.took (goes_on_from s t rounds begins before)
goes_on_from s _ _ begins (by_end t u rounds round before ended) = end_goes_on t.stage u.stage rounds round ended (goes_on_from s t rounds begins before)

-- where there are none, all are within the limits
none_within : (setup : Option Setup) → AllWithin setup []
none_within None = refl
none_within (Some setup) = All-nil (Within setup)

-- so what is known of a reader is what is to be shown of it
within_at : (t : Stage) (rounds : List Round) → Going t rounds → AllWithin (setup_of t) rounds
within_at stage.Start rounds none = none
within_at (stage.Configured c) rounds none = none
within_at (stage.Naming s) rounds none = rw none (none_within (setup_of (stage.Naming s)))
within_at (stage.Running s) rounds (_, all) = all

-- So each round that a reader gives out, from its start on, is within the limits.
pub rounds_are_within : ReadRoundsAreWithin
rounds_are_within s t rounds begins gives = within_at t.stage rounds (goes_on_from s t rounds begins gives)
