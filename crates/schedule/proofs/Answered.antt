-- What a listener answers: the message of its slot's node that alone came whole, and nothing that began before its slot. Assumes nothing.
use Rattle.std.proofs.Common.{◌≡◌, ℕ, ◌≤◌, true, false, List, [], ◌∷◌, ◌++◌, ℤ, None, Option, ◌⊎◌, refl, ap, ◌∙◌, inl, inr, arith}
use Rattle.std.proofs.lemmas.Bool.{cases_Bool}
use Rattle.std.proofs.lemmas.Bool.Decides.{nat_tests}
use Rattle.std.proofs.lemmas.List.Elements.{All-head, filter_passes}
use Rattle.std.specs.List.{All, AllByRecursion}
use Rattle.std.specs.Option.{option_map}
use Rattle.schedule.specs.Config.{timing_of}
use Rattle.schedule.specs.Listening.{timely, came_whole, taken, whole_ones, heard_as, heard_in, only}
use Rattle.schedule.specs.Messages.{at, FromSlot}
use Rattle.schedule.specs.Theorems.{HearsTheMessage, HearsFromItsSlot}
use Rattle.schedule.specs.declared.limits.Schedule.{Schedule}
use Rattle.schedule.specs.declared.listening.Arrival.{Arrival}
use Rattle.schedule.specs.declared.listening.Listener.{Listener}
use Rattle.schedule.proofs.Arrivals.{hears_the_only_one}
use Rattle.schedule.proofs.Passing.{hears_whole}

module _ {M : Type 0} (s : Schedule) (slot : ℕ) where
  none_whole : (last : ℕ) (xs : List (Arrival M)) → AllByRecursion (λ x. came_whole s slot x ≡ false) xs → whole_ones s slot last xs ≡ []
  none_whole last [] others = refl
  none_whole last (x ∷ xs) (other, others) =
      elim (cases_Bool (timely last x)) [
        | inl taken ↦ rw (taken, other) (none_whole x.ended xs others)
        | inr refused ↦ rw refused (none_whole last xs others)
      ]

  pub one_whole : (last : ℕ) (earlier : List (Arrival M)) (a : Arrival M) (later : List (Arrival M)) → came_whole s slot a ≡ true → a.began ≤ a.ended →
      last ≤ a.ended → AllByRecursion (λ x. came_whole s slot x ≡ false) earlier → AllByRecursion (λ x. x.ended ≤ a.ended) earlier →
      AllByRecursion (λ x. came_whole s slot x ≡ false) later → whole_ones s slot last (earlier ++ a ∷ later) ≡ a ∷ []
  one_whole last [] a later is forward in_time others order behind =
      let t : timely last a ≡ true = grind (arith, nat_tests) in
      rw (t, is) (ap (λ xs. a ∷ xs) (none_whole a.ended later behind))
  one_whole last (x ∷ xs) a later is forward in_time (other, others) (first, order) behind =
      elim (cases_Bool (timely last x)) [
        | inl taken ↦ rw (taken, other) (one_whole x.ended xs a later is forward first others order behind)
        | inr refused ↦ rw refused (one_whole last xs a later is forward in_time others order behind)
      ]

  abbrev Whole : Arrival M → Type 0
  Whole a = came_whole s slot a ≡ true

  from_slot : (xs : List (Arrival M)) → All Whole xs → FromSlot (timing_of s) slot (option_map (λ received. received.deviation) (heard_as (timing_of s) slot (only xs)))
  from_slot [] all = tt
  from_slot (a ∷ []) all = let whole = All-head Whole a [] all in (a.began, grind (arith, nat_tests), refl)
  from_slot (a ∷ b ∷ xs) all = tt

  -- whatever a listener is told of
  pub heard_from_slot : (time : ℕ) (arrivals : List (Arrival M)) →
      FromSlot (timing_of s) slot (option_map (λ received. received.deviation) (heard_in s slot time arrivals))
  heard_from_slot time arrivals = from_slot (whole_ones s slot time arrivals) (filter_passes (came_whole s slot) (taken time arrivals))

  -- and also where the answer is turned away, as if nothing had come
  pub none_or_from_slot : (time : ℕ) (arrivals : List (Arrival M)) (heard : Option ℤ) →
      (heard ≡ None) ⊎ (heard ≡ option_map (λ received. received.deviation) (heard_in s slot time arrivals)) → FromSlot (timing_of s) slot heard
  none_or_from_slot time arrivals heard (inl e) = rw e tt
  none_or_from_slot time arrivals heard (inr e) = rw e (heard_from_slot time arrivals)

pub hears_the_message : {M : Type 0} (l : Listener M) → HearsTheMessage l
hears_the_message l opened time earlier later a sent begins ends is_open told alone sends way before behind =
    let s = l.schedule in
    let on_wire = alone.own_wire in
    let whole : came_whole s l.slot a ≡ true = rw on_wire (hears_whole s l.slot sent (at begins a.began) (at ends a.ended) sends way before behind) in
    let one =
    one_whole s l.slot time earlier a later whole alone.forward alone.in_time alone.none_earlier alone.in_order alone.none_later in
    hears_the_only_one l opened time (earlier ++ a ∷ later) is_open told ∙ ap (λ xs. heard_as (timing_of s) l.slot (only xs)) one

pub hears_from_its_slot : {M : Type 0} (l : Listener M) → HearsFromItsSlot l
hears_from_its_slot l opened time arrivals is_open told =
    let e = hears_the_only_one l opened time arrivals is_open told in rw e (heard_from_slot l.schedule l.slot time arrivals)
