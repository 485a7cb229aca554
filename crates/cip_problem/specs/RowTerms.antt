-- Which lists of terms a row has: by rising column, none with the coefficient 0.
use Rattle.std.specs.Prelude.{◌≡◌, ◌≢◌, ℕ, ◌+◌, ◌<◌, ◌≤◌, List, length, slice_index_or}
use Rattle.cip_rational.specs.Rational.{ℚ, zeroℚ}
use Rattle.cip_problem.specs.Program.{Term}

-- what stands past the last term: 0 of column 0
abbrev pub no_term : Term
no_term = record { column = 0; coefficient = zeroℚ }

-- the column of the term at a place, counted from 0
abbrev pub column_at : List Term → ℕ → ℕ
column_at terms k = (slice_index_or terms k no_term).column

-- the coefficient of the term at a place, counted from 0
abbrev pub coefficient_at : List Term → ℕ → ℚ
coefficient_at terms k = (slice_index_or terms k no_term).coefficient

-- the first n terms stand by rising column, and none has the coefficient 0
pub record AreTermsTo (n : ℕ) (terms : List Term) : Type 0 where
  pub rising : (k : ℕ) → k + 1 < n → column_at terms k < column_at terms (k + 1)
  pub nonzero : (k : ℕ) → k < n → coefficient_at terms k ≢ zeroℚ

-- the terms stand by rising column, and none has the coefficient 0
abbrev pub AreTerms : List Term → Type 0
AreTerms terms = AreTermsTo (length terms) terms

-- a column is above that of the last term, if there is one
pub record IsAboveLast (terms : List Term) (column : ℕ) : Type 0 where
  pub above : (k : ℕ) → k + 1 ≡ length terms → column_at terms k < column

-- there is a last term, and a column is not above its column
pub record IsNotAboveLast (terms : List Term) (column : ℕ) : Type 0 where
  pub last : ℕ
  pub is_last : last + 1 ≡ length terms
  pub not_above : column ≤ column_at terms last
