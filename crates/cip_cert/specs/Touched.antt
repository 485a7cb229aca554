-- A row of coefficients with the columns that were touched, so that it can be cleared and walked over by those alone.
use Rattle.std.specs.Prelude.{◌≢◌, ℕ, ◌<◌, List, length, slice_index_or, All}
use Rattle.std.specs.List.{Contains}
use Rattle.std.specs.Coded.{Coded, code_by, coded×, coded_ℕ, coded_list}
use Rattle.std.specs.Prelude.{refl}
use Rattle.cip_rational.specs.Rational.{ℚ, zeroℚ, coded_ℚ}

-- one coefficient for each column, and columns in any order, perhaps more than once
pub record Touched : Type 0 where
  pub entries : List ℚ
  pub touched : List ℕ

-- its code
abbrev pub touched_code : Coded Touched
touched_code =
    code_by (List ℚ × List ℕ) (coded× (coded_list coded_ℚ) (coded_list coded_ℕ))
    (λ t. (t.entries, t.touched)) (λ p. record { entries = p.0; touched = p.1 }) (λ _. refl)

-- each column with a coefficient that isn't 0 is among the touched ones, and these are columns of the row
pub record Tells (entries : List ℚ) (touched : List ℕ) : Type 0 where
  pub covers : (column : ℕ) → slice_index_or entries column zeroℚ ≢ zeroℚ → Contains touched column
  pub within : All (λ column. column < length entries) touched
