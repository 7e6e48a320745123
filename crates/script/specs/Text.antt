-- The text that an entry is printed as. Assumes nothing: these are definitions.
use Rattle.std.specs.Prelude.{◌≡◌, Result, Ok, Option, Some, None, take, ◌+◌, ℕ, ◌^◌, ◌<◌, List, [], ◌∷◌, ◌++◌, ℤ, codes, length}
use Rattle.std.specs.Fmt.{decimal, signed_decimal}
use Rattle.std.specs.Int.{w64}
use Rattle.std.specs.Int.RustNames.{FitsSigned}
use Rattle.script.specs.Words.{HasWords}
use Rattle.script.specs.Hex.{digits_of}
use Rattle.script.specs.declared.entry.Entry.{Entry}
use Rattle.script.specs.declared.entry.Entry.TheVariants as entry
use Rattle.clock.specs.declared.limits.Cluster.{Cluster}
use Rattle.schedule.specs.declared.limits.Schedule.{Schedule}
use Rattle.script.specs.declared.round.Given.{Given}
use Rattle.script.specs.declared.round.Message.{Message}
use Rattle.script.specs.declared.round.Round.{Round}
use Rattle.script.specs.declared.setup.Setup.{Setup}
use Rattle.script.specs.declared.setup.Starting.{Starting}
use Rattle.script.specs.declared.setup.Starting.TheVariants as starting

-- the word that an entry begins with
abbrev pub kind_of : Entry → List ℕ
kind_of (entry.Cluster nodes faults drift jitter) = codes "cluster"
kind_of (entry.Timing length pause message wire) = codes "timing"
kind_of (entry.Good node value ahead) = codes "good"
kind_of (entry.Bad node) = codes "bad"
kind_of entry.Round = codes "round"
kind_of (entry.Says from to reading content) = codes "says"
kind_of (entry.Jitter node of by) = codes "jitter"
kind_of (entry.Drift node by) = codes "drift"
kind_of (entry.Value node next) = codes "value"

-- the words behind it, of an entry that has only numbers
abbrev pub numbers_of : Entry → List (List ℕ)
numbers_of (entry.Cluster nodes faults drift jitter) = codes "nodes" ∷ decimal nodes ∷ codes "faults" ∷ decimal faults ∷ codes "drift" ∷ decimal drift ∷ codes "jitter" ∷ decimal jitter ∷ []
numbers_of (entry.Timing length pause message wire) = codes "length" ∷ decimal length ∷ codes "pause" ∷ decimal pause ∷ codes "message" ∷ decimal message ∷ codes "wire" ∷ decimal wire ∷ []
numbers_of (entry.Good node value ahead) = decimal node ∷ codes "value" ∷ decimal value ∷ codes "ahead" ∷ decimal ahead ∷ []
numbers_of (entry.Bad node) = decimal node ∷ []
numbers_of entry.Round = []
numbers_of (entry.Says from to reading content) = []
numbers_of (entry.Jitter node of by) = decimal node ∷ codes "of" ∷ decimal of ∷ codes "by" ∷ signed_decimal by ∷ []
numbers_of (entry.Drift node by) = decimal node ∷ codes "by" ∷ signed_decimal by ∷ []
numbers_of (entry.Value node next) = decimal node ∷ codes "next" ∷ decimal next ∷ []

abbrev pub words_of : Entry → List (List ℕ)
words_of line = kind_of line ∷ numbers_of line

-- An entry has only numbers, and each fits its type.
abbrev pub HasNumbers : Entry → Type 0
HasNumbers (entry.Cluster nodes faults drift jitter) = (nodes < 2 ^ 64) × (faults < 2 ^ 64) × (drift < 2 ^ 64) × (jitter < 2 ^ 64)
HasNumbers (entry.Timing length pause message wire) = (length < 2 ^ 64) × (pause < 2 ^ 64) × (message < 2 ^ 64) × (wire < 2 ^ 64)
HasNumbers (entry.Good node value ahead) = (node < 2 ^ 64) × (value < 2 ^ 32) × (ahead < 2 ^ 64)
HasNumbers (entry.Bad node) = node < 2 ^ 64
HasNumbers entry.Round = Unit {0}
HasNumbers (entry.Says from to reading content) = ⊥
HasNumbers (entry.Jitter node of by) = (node < 2 ^ 64) × (of < 2 ^ 64) × FitsSigned w64 by
HasNumbers (entry.Drift node by) = (node < 2 ^ 64) × FitsSigned w64 by
HasNumbers (entry.Value node next) = (node < 2 ^ 64) × (next < 2 ^ 32)

-- words behind others, a space before each; and words with a space between them
abbrev pub behind : List (List ℕ) → List ℕ
behind [] = []
behind (word ∷ words) = 32 ∷ (word ++ behind words)

abbrev pub spaced : List (List ℕ) → List ℕ
spaced [] = []
spaced (word ∷ words) = word ++ behind words

-- the text of an entry that is numbers only, and the line that it is printed as
abbrev pub text_of : Entry → List ℕ
text_of line = spaced (words_of line)

abbrev pub line_of : Entry → List ℕ
line_of line = text_of line ++ 10 ∷ []

-- the entry that names a node which starts so
abbrev pub naming : ℕ → Starting → Entry
naming node starting.Bad = entry.Bad node
naming node (starting.Good value ahead) = entry.Good node value ahead

-- the texts of the places of a row, one after another, from this place on
abbrev pub each_of : {X : Type 0} → (ℕ → X → List ℕ) → ℕ → List X → List ℕ
each_of text place [] = []
each_of text place (x ∷ row) = text place x ++ each_of text (place + 1) row

-- a byte is its two digits
abbrev pub byte_text : ℕ → ℕ → List ℕ
byte_text place byte = digits_of byte

-- the words of a message that is given as bytes
abbrev pub words_said : ℕ → ℕ → ℕ → List ℕ → List (List ℕ)
words_said from to reading bytes =
    codes "says" ∷ decimal from ∷ codes "to" ∷ decimal to ∷ codes "reading" ∷ decimal reading ∷ codes "bytes" ∷ each_of byte_text 0 bytes ∷ []

abbrev pub message_text : Message → List ℕ
message_text m = spaced (words_said m.from m.to m.reading m.bytes.items) ++ 10 ∷ []

abbrev pub message_at : ℕ → Message → List ℕ
message_at place m = message_text m

-- The lines of a cluster's setup: the cluster, its schedule, and its nodes in order.
abbrev pub cluster_line : Cluster → List ℕ
cluster_line c = line_of (entry.Cluster c.nodes c.faults c.drift c.jitter)

abbrev pub timing_line : Schedule → List ℕ
timing_line s = line_of (entry.Timing s.length s.pause s.message s.wire)

abbrev pub naming_line : ℕ → Starting → List ℕ
naming_line node start = line_of (naming node start)

abbrev pub setup_text : Setup → List ℕ
setup_text s = cluster_line s.schedule.cluster ++ (timing_line s.schedule ++ each_of naming_line 0 (take s.schedule.cluster.nodes s.starting))

-- the line of a node, if something is given of it; and the lines of what is given in a round
abbrev pub given_line : {X : Type 0} → (ℕ → X → Entry) → ℕ → Option X → List ℕ
given_line said node None = []
given_line said node (Some x) = line_of (said node x)

abbrev pub jitter_lines : ℕ → List (Option ℤ) → List ℕ
jitter_lines node row = each_of (given_line (entry.Jitter node)) 0 row

abbrev pub given_text : Given → List ℕ
given_text g = each_of jitter_lines 0 g.jitter ++ (each_of (given_line entry.Drift) 0 g.drift ++ each_of (given_line entry.Value) 0 g.next)

-- the lines of a round
abbrev pub round_text : Round → List ℕ
round_text r = line_of entry.Round ++ (each_of message_at 0 r.messages.items ++ given_text r.given)

-- the only number that a text may be read as
abbrev pub ReadsAs : {N E : Type 0} → (List ℕ → Result N E → Type 0) → List ℕ → N → Type 0
ReadsAs {N} {E} gives text n = (r : Result N E) → gives text r → r ≡ Ok n

-- The words behind the first one are those of an entry: then it is read, and no word is left.
abbrev pub ReadsNumbers : {E : Type 0} → List ℕ → Result Entry E → List ℕ → Entry → Type 0
ReadsNumbers old result new line = HasNumbers line → HasWords old (numbers_of line) → (result ≡ Ok line) × HasWords new []
