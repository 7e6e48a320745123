-- A listener that is told of arrivals, one after another: what it has and what is still to come make what is heard. Assumes nothing.
use borrow.Author.Differences.{ints}
use Rattle.std.proofs.Common.{◌≡◌, ℕ, ◌+◌, ◌-◌, ◌≤◌, cond, List, [], ◌∷◌, ◌++◌, pos, ◌-ℤ◌, Some, None, Option, sym, refl, ap, ◌∙◌, inl, inr, arith}
use Rattle.std.proofs.lemmas.Bool.{cases_Bool}
use Rattle.clock.specs.Deviation.{deviation_of, held}
use Rattle.schedule.specs.Slots.{Timing}
use Rattle.schedule.specs.Config.{timing_of}
use Rattle.schedule.specs.Heard.{with_one, answer_of}
use Rattle.schedule.specs.Listening.{timely, came_whole, as_heard, with_arrival, Opened, ToldBy, whole_ones, only, heard_as, heard_in, Tells, no_more, one_more}
use Rattle.schedule.specs.Theorems.{HearsTheOnlyOne}
use Rattle.schedule.specs.declared.limits.Schedule.{Schedule}
use Rattle.schedule.specs.declared.listening.Arrival.{Arrival}
use Rattle.schedule.specs.declared.listening.Received.{Received}
use Rattle.schedule.specs.declared.heard.Heard.{Heard}
use Rattle.schedule.specs.declared.heard.Heard.TheVariants.{Nothing, Once, Several}
use Rattle.schedule.specs.declared.listening.Listener.{Listener}

-- the deviation of a message, counted from the slot's start
pub deviation_behind : (start pause began : ℕ) → start ≤ began → deviation_of pause (began - start) ≡ deviation_of (start + pause) began
deviation_behind start pause began h = let e : pos pause -ℤ pos (began - start) ≡ pos (start + pause) -ℤ pos began = omega (arith, ints) in ap held e

module _ {M : Type 0} where
  -- what is heard where so much has come whole, and these are still to come whole
  abbrev pub joined : Timing → ℕ → Heard (Received M) → List (Arrival M) → Option (Received M)
  joined t slot Nothing xs = heard_as t slot (only xs)
  joined t slot (Once received) [] = Some received
  joined t slot (Once received) (x ∷ xs) = None
  joined t slot Several xs = None

  joined_none : (t : Timing) (slot : ℕ) (w : Heard (Received M)) → joined t slot w [] ≡ answer_of w
  joined_none t slot Nothing = refl
  joined_none t slot (Once received) = refl
  joined_none t slot Several = refl

  joined_one : (t : Timing) (slot : ℕ) (w : Heard (Received M)) (a : Arrival M) (xs : List (Arrival M)) →
      joined t slot w (a ∷ xs) ≡ joined t slot (with_one w (as_heard t slot a)) xs
  joined_one t slot Nothing a [] = refl
  joined_one t slot Nothing a (x ∷ xs) = refl
  joined_one t slot (Once received) a xs = refl
  joined_one t slot Several a xs = refl

  -- one arrival that was to come has come
  joined_more : (s : Schedule) (slot last : ℕ) (w : Heard (Received M)) (a : Arrival M) (rest : List (Arrival M)) →
      joined (timing_of s) slot w (whole_ones s slot last (a ∷ rest))
      ≡ joined (timing_of s) slot (cond (timely last a) (with_arrival s slot w a) w) (whole_ones s slot (cond (timely last a) a.ended last) rest)
  joined_more s slot last w a rest =
      elim (cases_Bool (timely last a)) [
        | inl taken ↦
            rw taken
            (elim (cases_Bool (came_whole s slot a)) [
              | inl whole ↦ rw whole (joined_one (timing_of s) slot w a (whole_ones s slot a.ended rest))
              | inr part ↦ rw part
            ])
        | inr refused ↦ rw refused
      ]

  -- over all arrivals that a listener is told of
  told_all : (before after : Listener M) (all : List (Arrival M)) → Tells before all after →
      answer_of after.whole ≡ joined (timing_of before.schedule) before.slot before.whole (whole_ones before.schedule before.slot before.last all)
  told_all before after all (no_more l) = sym (joined_none (timing_of l.schedule) l.slot l.whole)
  told_all before after all (one_more l next n a rest told tells) =
      told_all next n rest tells
      ∙ rw (told.its_schedule, told.its_slot, told.its_whole, told.its_last) (sym (joined_more l.schedule l.slot l.last l.whole a rest))

  pub hears_all : (s : Schedule) (slot time : ℕ) (arrivals : List (Arrival M)) (opened l : Listener M) → Opened s slot time opened → Tells opened arrivals l →
      answer_of l.whole ≡ heard_in s slot time arrivals
  hears_all s slot time arrivals opened l is_open tells =
      told_all opened l arrivals tells ∙ rw (is_open.its_schedule, is_open.its_slot, is_open.its_whole, is_open.its_last)

  pub hears_the_only_one : (l : Listener M) → HearsTheOnlyOne l
  hears_the_only_one l opened time arrivals = hears_all l.schedule l.slot time arrivals opened l

  -- one arrival more
  pub tells_push : (before last after : Listener M) (arrivals : List (Arrival M)) (a : Arrival M) → Tells before arrivals last → ToldBy last a after →
      Tells before (arrivals ++ a ∷ []) after
  tells_push before last after arrivals a (no_more l) told = one_more l after after a [] told (no_more after)
  tells_push before last after arrivals a (one_more l next n x rest first tells) told =
      one_more l next after x (rest ++ a ∷ []) first (tells_push next n after rest a tells told)
