-- What good nodes hold for paths, as functions on paths. Assumes nothing: these are definitions.
use Rattle.std.specs.Prelude.{◌≡◌, ℕ, ◌<◌, ◌≤◌, Bool, true, cond, List, [], ◌∷◌, length}
use Rattle.clock.specs.Rounds.{Good}
use Rattle.relay.specs.Paths.{is_path}
use Rattle.agreement.specs.Results.{result_for}

-- `held p path` is what node p holds for a path, and for the row of no nodes the value that it gives. A good node tells all what it holds: so what a good
-- node p holds for a good node q in front of a path is what q holds for the path. That is asked of paths only, and of no more nodes than a cycle tells of; of what
-- faulty nodes tell nothing is asked.
abbrev pub Tells : ℕ → ℕ → (ℕ → Bool) → (ℕ → List ℕ → ℕ) → Type 0
Tells n faults good held =
    (p q : ℕ) (path : List ℕ) → Good n good p → Good n good q → is_path n (q ∷ path) ≡ true → length path ≤ faults → held p (q ∷ path) ≡ held q path

-- Good nodes agree: any two of them have the same result for each node, and for a good node that is the value that it gave.
pub record Agrees (n faults : ℕ) (good : ℕ → Bool) (held : ℕ → List ℕ → ℕ) : Type 0 where
  pub same : (p q r : ℕ) → Good n good p → Good n good q → r < n → result_for n faults (held p) r ≡ result_for n faults (held q) r
  pub right : (p r : ℕ) → Good n good p → Good n good r → result_for n faults (held p) r ≡ held r []

-- What nodes hold where the good ones tell what they hold, and the faulty ones anything: `lies p q path` is what faulty node q tells p of the path.
abbrev pub holding : (ℕ → Bool) → (ℕ → ℕ) → (ℕ → ℕ → List ℕ → ℕ) → ℕ → List ℕ → ℕ
holding good value lies p [] = value p
holding good value lies p (q ∷ path) = cond (good q) (holding good value lies q path) (lies p q path)
