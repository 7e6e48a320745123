-- Two tables, of which a round reads one and writes the other one, and the next round the other way round. Assumes nothing.
use Rattle.std.proofs.Common.{◌≡◌, ℕ, suc, ◌%◌, Bool, true, false, cond, List, length, refl, sym, ◌∙◌, inl, inr, arith}
use Rattle.std.proofs.lemmas.Bool.{cases_Bool, eqb-true}
use Rattle.std.proofs.lemmas.Bool.Decides.{nat_tests}
use Rattle.node.specs.Nodes.{reads_first, read_in, written_in}

-- both tables have a length if the two by their roles have it
pub by_role : (round m : ℕ) (first second : List ℕ) → length (read_in round first second) ≡ m → length (written_in round first second) ≡ m →
    (length first ≡ m) × (length second ≡ m)
by_role round m first second =
    elim (cases_Bool (reads_first round)) [
      | inl even ↦ rw even (λ a b. (a, b))
      | inr odd ↦ rw odd (λ a b. (b, a))
    ]

odd_next : (round : ℕ) → reads_first round ≡ true → reads_first (suc round) ≡ false
odd_next round even = let e : round % 2 ≡ 0 = eqb-true (round % 2) 0 even in grind (arith, nat_tests, e)

even_next : (round : ℕ) → reads_first round ≡ false → reads_first (suc round) ≡ true
even_next round odd = grind (arith, nat_tests, odd)

-- which table is read and which is written changes with each round
pub read_next : (round : ℕ) (first second : List ℕ) → read_in (suc round) first second ≡ written_in round first second
read_next round first second =
    elim (cases_Bool (reads_first round)) [
      | inl even ↦ rw (even, odd_next round even) refl
      | inr odd ↦ rw (odd, even_next round odd) refl
    ]

pub written_next : (round : ℕ) (first second : List ℕ) → written_in (suc round) first second ≡ read_in round first second
written_next round first second =
    elim (cases_Bool (reads_first round)) [
      | inl even ↦ rw (even, odd_next round even) refl
      | inr odd ↦ rw (odd, even_next round odd) refl
    ]

-- the first and the second table of a round, from the one that it reads and the one that it writes
abbrev pub first_of : ℕ → List ℕ → List ℕ → List ℕ
first_of round read written = cond (reads_first round) read written

abbrev pub second_of : ℕ → List ℕ → List ℕ → List ℕ
second_of round read written = cond (reads_first round) written read

either_read : (b : Bool) (read written : List ℕ) → cond b (cond b read written) (cond b written read) ≡ read
either_read true read written = refl
either_read false read written = refl

pub reads_it : (round : ℕ) (read written : List ℕ) → read_in round (first_of round read written) (second_of round read written) ≡ read
reads_it round read written = either_read (reads_first round) read written

pub writes_it : (round : ℕ) (read written : List ℕ) → written_in round (first_of round read written) (second_of round read written) ≡ written
writes_it round read written = either_read (reads_first round) written read

-- those of the next round, as this one reads and writes them
pub read_before : (round : ℕ) (read written : List ℕ) → read_in round (first_of (suc round) read written) (second_of (suc round) read written) ≡ written
read_before round read written =
    sym (written_next round (first_of (suc round) read written) (second_of (suc round) read written)) ∙ writes_it (suc round) read written

pub written_before : (round : ℕ) (read written : List ℕ) → written_in round (first_of (suc round) read written) (second_of (suc round) read written) ≡ read
written_before round read written =
    sym (read_next round (first_of (suc round) read written) (second_of (suc round) read written)) ∙ reads_it (suc round) read written
