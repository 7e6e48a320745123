-- Lists of refusals: input is turned away by the first row of a list that applies. Assumes nothing: these are definitions.
use Rattle.std.specs.Prelude.{◌≡◌, ℕ, Bool, cond, List, [], ◌∷◌, Some, None, Ok, Err, Option, Result}
use Rattle.midpoint.specs.declared.refusal.Code.{Code}

-- a row: whether it applies to the input, and the refusal that it gives then
pub record Row (R : Type 0) : Type 0 where
  pub applies : Bool
  pub refusal : R

-- the refusal of the first row that applies
abbrev pub first_applying : {R : Type 0} → List (Row R) → Option R
first_applying [] = None
first_applying (row ∷ rows) = cond row.applies (Some row.refusal) (first_applying rows)

-- a row that gives a refusal where a test holds
abbrev pub refused_if : {R : Type 0} → Bool → R → Row R
refused_if applies refusal = record { applies = applies; refusal = refusal }

-- a row of the fixed list of all refusals: its number, whether it applies, and the place in the input that it names
abbrev pub row : ℕ → Bool → ℕ → Row Code
row number applies place = refused_if applies (record { number = number; place = place })

-- the answer of a function that turns away by a list of rows: what is promised of a value where no row applies, else the first row that does
abbrev pub ByRows : {A E R : Type 0} → List (Row R) → (E → R) → (A → Type 0) → Result A E → Type 0
ByRows rows code promised (Ok value) = (first_applying rows ≡ None) × promised value
ByRows rows code promised (Err refusal) = first_applying rows ≡ Some (code refusal)
