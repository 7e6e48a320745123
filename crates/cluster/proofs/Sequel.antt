-- Rounds, one after the other. Assumes nothing.
use Rattle.std.proofs.Common.{◌≡◌, refl, Bool, true, ℕ, ◌+◌, ◌<◌, List, [], ◌∷◌, ◌++◌, length, take, get_or, Ok, Err, Result, IfErr, subst, sym, ap, ◌∙◌}
use Rattle.std.proofs.lemmas.List.{take_more}
use Rattle.script.specs.declared.round.Round.{Round}
use Rattle.cluster.specs.Playing.{Plays, PlaysAll, wanted, SeenIn}
use Rattle.cluster.specs.Playing.PlaysAll.{no_more, one_first}
use Rattle.cluster.specs.declared.bus.Bus.{Bus}

-- Rounds that were played, and that whoever watches has seen; and one more.
module _ {W : Type 0} (sees : W → Bus → Round → Bool → W → Type 0) where
  abbrev pub SeenAll : Bus → List Round → Bus → W → Bool → W → Type 0
  SeenAll a rounds b watch more watched = (played : PlaysAll a rounds b) × SeenIn sees a b rounds played watch more watched

  always_wanted : (rounds : List Round) → wanted true rounds ≡ true
  always_wanted [] = refl
  always_wanted (_ ∷ _) = refl

  not_the_last : (more : Bool) (rounds : List Round) (r : Round) → wanted more (rounds ++ r ∷ []) ≡ true
  not_the_last more [] r = refl
  not_the_last more (_ ∷ _) r = refl

  one_more_last : (a b c : Bus) (rounds : List Round) (r : Round) (more : Bool) (x y z : W) → (played : PlaysAll a rounds b) → SeenIn sees a b rounds played x true y →
      Plays b r c → sees y c r more z → SeenAll a (rounds ++ r ∷ []) c x more z
  one_more_last _ _ c [] r more x y z (no_more a) seen one last =
      (one_first a c c r [] one (no_more c), (z, subst (λ w. sees w c r more z) seen last, refl))
  one_more_last _ _ c (_ ∷ _) r more x y z (one_first a between b first rounds plays rest) (then, sight, seen) one last =
      let (played, all) = one_more_last between b c rounds r more then y z rest seen one last in
      let the_same : wanted true rounds ≡ wanted more (rounds ++ r ∷ []) = always_wanted rounds ∙ sym (not_the_last more rounds r) in
      (one_first a between c first (rounds ++ r ∷ []) plays played, (then, subst (λ m. sees x between first m then) the_same sight, all))

  -- the next of a list of rounds
  pub one_more_seen : (a b c : Bus) (rounds : List Round) (count : ℕ) (r other : Round) (more : Bool) (x y z : W) → count < length rounds → get_or rounds count other ≡ r →
      SeenAll a (take count rounds) b x true y → Plays b r c → sees y c r more z → SeenAll a (take (count + 1) rounds) c x more z
  one_more_seen a b c rounds count r other more x y z within is (played, seen) one last =
      subst (λ list. SeenAll a list c x more z) (sym (take_more rounds count other within ∙ ap (λ x. take count rounds ++ x ∷ []) is))
      (one_more_last a b c (take count rounds) r more x y z played seen one last)

-- what holds in any case holds of an error
pub of_error : {E : Type 0} (P : Type 0) (result : Result (Unit {0}) E) → P → IfErr result (λ _. P)
of_error P (Ok _) holds = tt
of_error P (Err e) holds = holds
