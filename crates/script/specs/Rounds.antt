-- What a script says of a round. Assumes nothing: these are definitions.
use Rattle.std.specs.Prelude.{ℕ, Bool, cond, ◌&&◌, List, [], ◌∷◌, filter, replicate, ℤ, pos, Some, None, Option, ◌==◌, nat_lt, slice_index_or, slice_set}
use Rattle.std.specs.Option.{unwrap_or}
use Rattle.script.specs.declared.round.Message.{Message}
use Rattle.script.specs.declared.round.Given.{Given}
use Rattle.script.specs.declared.round.Round.{Round}

-- of the messages from one node to another the only one, if there is one: of several nothing is heard
abbrev pub is_message : ℕ → ℕ → Message → Bool
is_message to from m = m.to == to && m.from == from

abbrev pub only : {A : Type 0} → List A → Option A
only [] = None
only (one ∷ []) = Some one
only (one ∷ another ∷ more) = None

abbrev pub only_message : Round → ℕ → ℕ → Option Message
only_message r to from = only (filter (is_message to from) r.messages.items)

-- nothing is given
abbrev pub nothing_given : Given
nothing_given = record { jitter = replicate 16 (replicate 16 None); drift = replicate 16 None; next = replicate 16 None }

-- by how much node p reads node q wrong, by how much its clock runs off, and the value that it gives next, if one is given
abbrev pub jitter_of : Given → ℕ → ℕ → ℤ
jitter_of g p q = unwrap_or (slice_index_or (slice_index_or g.jitter p []) q None) (pos 0)

abbrev pub drift_of : Given → ℕ → ℤ
drift_of g p = unwrap_or (slice_index_or g.drift p None) (pos 0)

abbrev pub next_of : Given → ℕ → Option ℕ
next_of g p = slice_index_or g.next p None

-- an entry put into a table at row p and column q, or into a row at p, where that is a node of the largest cluster
abbrev pub with_entry : {X : Type 0} → List (List X) → ℕ → ℕ → X → List (List X)
with_entry rows p q x = cond (nat_lt p 16 && nat_lt q 16) (slice_set rows p (slice_set (slice_index_or rows p []) q x)) rows

abbrev pub with_place : {X : Type 0} → List X → ℕ → X → List X
with_place row p x = cond (nat_lt p 16) (slice_set row p x) row
