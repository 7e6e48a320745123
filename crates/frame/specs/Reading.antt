-- Frames that are turned away, in the order of the checks, and what becomes of one that was heard. Assumes nothing: these are definitions.
use Rattle.std.specs.Prelude.{◌≡◌, ℕ, ℤ, not, List, [], ◌∷◌, length, Some, None, Option, ◌==◌}
use Rattle.midpoint.specs.Refusals.{Row, refused_if, first_applying}
use Rattle.midpoint.specs.declared.refusal.Code.{Code}
use Rattle.frame.specs.Layout.{frame_length_of, header_round_of, sender_in, round_in, payload_of}
use Rattle.frame.specs.declared.turn.Turn.{Turn}
use Rattle.frame.specs.declared.refusal.Refusal.{Refusal}
use Rattle.frame.specs.declared.refusal.Refusal.TheVariants.{Length, Sender, Round}
use Rattle.frame.specs.declared.reading.Reception.{Reception}
use Rattle.frame.specs.declared.reading.Reception.TheVariants.{Whole, TurnedAway}

-- a frame that is shorter or longer than its round asks; whose sender is not the node whose turn it is; that is of another round
abbrev pub untaken : Turn → List ℕ → List (Row Refusal)
untaken t frame =
    refused_if (not (length frame == frame_length_of t)) (Length (length frame))
    ∷ refused_if (not (sender_in frame == t.sender)) Sender
    ∷ refused_if (not (round_in frame == header_round_of t)) Round
    ∷ []

-- number and place of each refusal
abbrev pub code_of : Refusal → Code
code_of (Length n) = record { number = 7; place = n }
code_of Sender = record { number = 8; place = 0 }
code_of Round = record { number = 9; place = 1 }

-- what becomes of a frame that was heard: its payload is handed on, with the deviation, or it is turned away
abbrev pub Receives : Turn → ℤ → List ℕ → Reception → Type 0
Receives t deviation frame (Whole ahead payload) = (first_applying (untaken t frame) ≡ None) × (ahead ≡ deviation) × (payload.now ≡ payload_of frame)
Receives t deviation frame (TurnedAway refusal) = first_applying (untaken t frame) ≡ Some refusal

-- number and place of each case: one that is heard whole has none
abbrev pub code_of_reception : Reception → Option Code
code_of_reception (Whole ahead payload) = None
code_of_reception (TurnedAway refusal) = Some (code_of refusal)
