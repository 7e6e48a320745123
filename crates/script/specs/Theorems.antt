-- What is proved of text, and of the rounds that are read. Each statement is demanded by the contract of a function of src/theorems.rt. Assumes nothing.
use Rattle.std.specs.Prelude.{◌≡◌, ℕ, ◌<◌, ◌≤◌, true, false, List, [], ◌++◌, Some, None, Option, unsigned_abs}
use Rattle.std.specs.List.{All}
use Rattle.std.specs.Option.{option_to_list}
use Rattle.clock.specs.Config.{error_of}
use Rattle.script.specs.Hex.{AreBytes, bytes_written}
use Rattle.script.specs.Words.{HasWords, before_comment}
use Rattle.script.specs.Text.{HasNumbers, words_of, text_of, each_of, byte_text}
use Rattle.script.specs.declared.entry.Entry.{Entry}
use Rattle.script.specs.Reading.{Read, Ended, setup_of}
use Rattle.script.specs.Rounds.{jitter_of, drift_of}
use Rattle.script.specs.Setup.{good_at}
use Rattle.script.specs.declared.reader.Reader.{Reader}
use Rattle.script.specs.declared.reader.Stage.TheVariants as stage
use Rattle.script.specs.declared.round.Message.{Message}
use Rattle.script.specs.declared.round.Round.{Round}
use Rattle.script.specs.declared.setup.Setup.{Setup}

-- the text of an entry that has only numbers has the words of this entry, and no comment in it
abbrev pub TextHasItsWords : Type 0
TextHasItsWords = (line : Entry) → HasNumbers line → HasWords (before_comment (text_of line)) (words_of line)

-- the digits that bytes are printed as write these bytes
abbrev pub DigitsWriteTheBytes : Type 0
DigitsWriteTheBytes = (bytes : List ℕ) → AreBytes bytes → bytes_written (each_of byte_text 0 bytes) ≡ Some bytes

-- a message of a bad node of the cluster to a good one
pub record BadToGood (setup : Setup) (m : Message) : Type 0 where
  pub sender : m.from < setup.schedule.cluster.nodes
  pub bad : good_at setup m.from ≡ false
  pub receiver : m.to < setup.schedule.cluster.nodes
  pub good : good_at setup m.to ≡ true

-- A round in which no node reads another one wrong by more than the error, none runs off by more than the drift, and only bad nodes say something, to good ones.
pub record Within (setup : Setup) (r : Round) : Type 0 where
  pub jitters : (p q : ℕ) → unsigned_abs (jitter_of r.given p q) ≤ error_of setup.schedule.cluster
  pub drifts : (p : ℕ) → unsigned_abs (drift_of r.given p) ≤ setup.schedule.cluster.drift
  pub messages : All (BadToGood setup) r.messages.items

-- the rounds that a reader gives out, in their order, on the way from one state to another: by lines that it takes, and by the end of the script
pub data GivesOut (s : Reader) : Reader → List Round → Type 0 where
  nothing : GivesOut s s []
  by_line : (text : List ℕ) (t u : Reader) (rounds : List Round) (round : Option Round) → GivesOut s t rounds → Read text t u round → GivesOut s u (rounds ++ option_to_list round)
  by_end : (t u : Reader) (rounds : List Round) (round : Option Round) → GivesOut s t rounds → Ended t.stage u.stage round →
      GivesOut s u (rounds ++ option_to_list round)

-- all of them are within the limits of the cluster that was read; as long as its nodes are not all named there are none
abbrev pub AllWithin : Option Setup → List Round → Type 0
AllWithin None rounds = rounds ≡ []
AllWithin (Some setup) rounds = All (Within setup) rounds

-- So it is with each reader that began with nothing read.
abbrev pub ReadRoundsAreWithin : Type 0
ReadRoundsAreWithin = (s t : Reader) (rounds : List Round) → s.stage ≡ stage.Start → GivesOut s t rounds → AllWithin (setup_of t.stage) rounds
