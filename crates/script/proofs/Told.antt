-- An entry is told by its first word, and by the first letter of it.
use Rattle.std.proofs.Common.{◌≡◌, ap, ℕ, ℤ, List, get_or, arith, codes, Result, Ok}
use Rattle.script.specs.Text.{kind_of, ReadsNumbers}
use Rattle.script.specs.declared.entry.Entry.{Entry}
use Rattle.script.specs.declared.entry.Entry.TheVariants as entry

letter : (a b : List ℕ) → a ≡ b → get_or a 0 0 ≡ get_or b 0 0
letter a b e = ap (λ l. get_or l 0 0) e

pub cluster : (P : Entry → Type 0) → ((a b c d : ℕ) → P (entry.Cluster a b c d)) → (word : List ℕ) (line : Entry) → word ≡ codes "cluster" → word ≡ kind_of line → P line
cluster P f word (entry.Cluster a b c d) is e = f a b c d
cluster P f word (entry.Timing a b c d) is e = absurd (omega (arith, letter _ _ is, letter _ _ e))
cluster P f word (entry.Good a b c) is e = absurd (omega (arith, letter _ _ is, letter _ _ e))
cluster P f word (entry.Bad a) is e = absurd (omega (arith, letter _ _ is, letter _ _ e))
cluster P f word entry.Round is e = absurd (omega (arith, letter _ _ is, letter _ _ e))
cluster P f word (entry.Says a b c d) is e = absurd (omega (arith, letter _ _ is, letter _ _ e))
cluster P f word (entry.Jitter a b c) is e = absurd (omega (arith, letter _ _ is, letter _ _ e))
cluster P f word (entry.Drift a b) is e = absurd (omega (arith, letter _ _ is, letter _ _ e))
cluster P f word (entry.Value a b) is e = absurd (omega (arith, letter _ _ is, letter _ _ e))

pub timing : (P : Entry → Type 0) → ((a b c d : ℕ) → P (entry.Timing a b c d)) → (word : List ℕ) (line : Entry) → word ≡ codes "timing" → word ≡ kind_of line → P line
timing P f word (entry.Cluster a b c d) is e = absurd (omega (arith, letter _ _ is, letter _ _ e))
timing P f word (entry.Timing a b c d) is e = f a b c d
timing P f word (entry.Good a b c) is e = absurd (omega (arith, letter _ _ is, letter _ _ e))
timing P f word (entry.Bad a) is e = absurd (omega (arith, letter _ _ is, letter _ _ e))
timing P f word entry.Round is e = absurd (omega (arith, letter _ _ is, letter _ _ e))
timing P f word (entry.Says a b c d) is e = absurd (omega (arith, letter _ _ is, letter _ _ e))
timing P f word (entry.Jitter a b c) is e = absurd (omega (arith, letter _ _ is, letter _ _ e))
timing P f word (entry.Drift a b) is e = absurd (omega (arith, letter _ _ is, letter _ _ e))
timing P f word (entry.Value a b) is e = absurd (omega (arith, letter _ _ is, letter _ _ e))

pub good : (P : Entry → Type 0) → ((a b c : ℕ) → P (entry.Good a b c)) → (word : List ℕ) (line : Entry) → word ≡ codes "good" → word ≡ kind_of line → P line
good P f word (entry.Cluster a b c d) is e = absurd (omega (arith, letter _ _ is, letter _ _ e))
good P f word (entry.Timing a b c d) is e = absurd (omega (arith, letter _ _ is, letter _ _ e))
good P f word (entry.Good a b c) is e = f a b c
good P f word (entry.Bad a) is e = absurd (omega (arith, letter _ _ is, letter _ _ e))
good P f word entry.Round is e = absurd (omega (arith, letter _ _ is, letter _ _ e))
good P f word (entry.Says a b c d) is e = absurd (omega (arith, letter _ _ is, letter _ _ e))
good P f word (entry.Jitter a b c) is e = absurd (omega (arith, letter _ _ is, letter _ _ e))
good P f word (entry.Drift a b) is e = absurd (omega (arith, letter _ _ is, letter _ _ e))
good P f word (entry.Value a b) is e = absurd (omega (arith, letter _ _ is, letter _ _ e))

pub bad : (P : Entry → Type 0) → ((a : ℕ) → P (entry.Bad a)) → (word : List ℕ) (line : Entry) → word ≡ codes "bad" → word ≡ kind_of line → P line
bad P f word (entry.Cluster a b c d) is e = absurd (omega (arith, letter _ _ is, letter _ _ e))
bad P f word (entry.Timing a b c d) is e = absurd (omega (arith, letter _ _ is, letter _ _ e))
bad P f word (entry.Good a b c) is e = absurd (omega (arith, letter _ _ is, letter _ _ e))
bad P f word (entry.Bad a) is e = f a
bad P f word entry.Round is e = absurd (omega (arith, letter _ _ is, letter _ _ e))
bad P f word (entry.Says a b c d) is e = absurd (omega (arith, letter _ _ is, letter _ _ e))
bad P f word (entry.Jitter a b c) is e = absurd (omega (arith, letter _ _ is, letter _ _ e))
bad P f word (entry.Drift a b) is e = absurd (omega (arith, letter _ _ is, letter _ _ e))
bad P f word (entry.Value a b) is e = absurd (omega (arith, letter _ _ is, letter _ _ e))

pub jitter : (P : Entry → Type 0) → ((a b : ℕ) (c : ℤ) → P (entry.Jitter a b c)) → (word : List ℕ) (line : Entry) → word ≡ codes "jitter" → word ≡ kind_of line → P line
jitter P f word (entry.Cluster a b c d) is e = absurd (omega (arith, letter _ _ is, letter _ _ e))
jitter P f word (entry.Timing a b c d) is e = absurd (omega (arith, letter _ _ is, letter _ _ e))
jitter P f word (entry.Good a b c) is e = absurd (omega (arith, letter _ _ is, letter _ _ e))
jitter P f word (entry.Bad a) is e = absurd (omega (arith, letter _ _ is, letter _ _ e))
jitter P f word entry.Round is e = absurd (omega (arith, letter _ _ is, letter _ _ e))
jitter P f word (entry.Says a b c d) is e = absurd (omega (arith, letter _ _ is, letter _ _ e))
jitter P f word (entry.Jitter a b c) is e = f a b c
jitter P f word (entry.Drift a b) is e = absurd (omega (arith, letter _ _ is, letter _ _ e))
jitter P f word (entry.Value a b) is e = absurd (omega (arith, letter _ _ is, letter _ _ e))

pub drift : (P : Entry → Type 0) → ((a : ℕ) (b : ℤ) → P (entry.Drift a b)) → (word : List ℕ) (line : Entry) → word ≡ codes "drift" → word ≡ kind_of line → P line
drift P f word (entry.Cluster a b c d) is e = absurd (omega (arith, letter _ _ is, letter _ _ e))
drift P f word (entry.Timing a b c d) is e = absurd (omega (arith, letter _ _ is, letter _ _ e))
drift P f word (entry.Good a b c) is e = absurd (omega (arith, letter _ _ is, letter _ _ e))
drift P f word (entry.Bad a) is e = absurd (omega (arith, letter _ _ is, letter _ _ e))
drift P f word entry.Round is e = absurd (omega (arith, letter _ _ is, letter _ _ e))
drift P f word (entry.Says a b c d) is e = absurd (omega (arith, letter _ _ is, letter _ _ e))
drift P f word (entry.Jitter a b c) is e = absurd (omega (arith, letter _ _ is, letter _ _ e))
drift P f word (entry.Drift a b) is e = f a b
drift P f word (entry.Value a b) is e = absurd (omega (arith, letter _ _ is, letter _ _ e))

pub value : (P : Entry → Type 0) → ((a b : ℕ) → P (entry.Value a b)) → (word : List ℕ) (line : Entry) → word ≡ codes "value" → word ≡ kind_of line → P line
value P f word (entry.Cluster a b c d) is e = absurd (omega (arith, letter _ _ is, letter _ _ e))
value P f word (entry.Timing a b c d) is e = absurd (omega (arith, letter _ _ is, letter _ _ e))
value P f word (entry.Good a b c) is e = absurd (omega (arith, letter _ _ is, letter _ _ e))
value P f word (entry.Bad a) is e = absurd (omega (arith, letter _ _ is, letter _ _ e))
value P f word entry.Round is e = absurd (omega (arith, letter _ _ is, letter _ _ e))
value P f word (entry.Says a b c d) is e = absurd (omega (arith, letter _ _ is, letter _ _ e))
value P f word (entry.Jitter a b c) is e = absurd (omega (arith, letter _ _ is, letter _ _ e))
value P f word (entry.Drift a b) is e = absurd (omega (arith, letter _ _ is, letter _ _ e))
value P f word (entry.Value a b) is e = f a b

-- an entry that is read is taken as it is
pub taken : {E F : Type 0} (old new : List ℕ) (read : Result Entry E) (result : Result Entry F) → ((said : Entry) → read ≡ Ok said → result ≡ Ok said) →
    (line : Entry) → ReadsNumbers old read new line → ReadsNumbers old result new line
taken old new read result same line reads = λ fits h. let k = reads fits h in (same line k.0, k.1)
