-- The words of a line. Assumes nothing: these are definitions.
use Rattle.std.specs.Prelude.{◌≡◌, ℕ, ◌<◌, List, [], ◌∷◌, ◌++◌, length, ◌==◌}
use Rattle.std.specs.Char.{IsAsciiWhitespace}
use Rattle.std.specs.Int.{IsInRange}
use Rattle.std.specs.List.{AllByRecursion, before_first}

-- what stands before the first `#`, or all of it
abbrev pub before_comment : List ℕ → List ℕ
before_comment line = before_first (λ c. c == 35) line

-- a word of ASCII letters, digits and signs
abbrev pub IsWord : List ℕ → Type 0
IsWord word = (0 < length word) × AllByRecursion (IsInRange 33 126) word

-- a text that goes on with white space, or is at its end
abbrev pub EndsWord : List ℕ → Type 0
EndsWord [] = Unit {0}
EndsWord (c ∷ cs) = IsAsciiWhitespace c

-- The text has these words: white space stands between them, and may stand at both ends.
abbrev pub HasWords : List ℕ → List (List ℕ) → Type 0
HasWords text [] = AllByRecursion IsAsciiWhitespace text
HasWords text (word ∷ words) =
    (gap : List ℕ) × (rest : List ℕ) × (text ≡ gap ++ (word ++ rest)) × AllByRecursion IsAsciiWhitespace gap × IsWord word × EndsWord rest × HasWords rest words
