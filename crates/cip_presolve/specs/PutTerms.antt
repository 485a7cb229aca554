-- Terms put into a row one after another, by what they do to its activity.
use Rattle.std.specs.Prelude.{◌≡◌, ℕ, ◌<◌, List}
use Rattle.cip_rational.specs.Rational.{ℚ, ◌+ℚ◌, ◌*ℚ◌}
use Rattle.cip_problem.specs.Program.{Term, Row}
use Rattle.cip_problem.specs.Activity.{activity, value_at, StandsBelow}

-- the product of a term at a point
abbrev pub product_of : Term → List ℚ → ℚ
product_of term point = term.coefficient *ℚ value_at point term.column

-- a row with the same sides has a product more, and stands on the term's column beside the old ones
pub record HasMore (old : Row) (term : Term) (new : Row) : Type 0 where
  pub activity : (point : List ℚ) → activity new.terms point ≡ activity old.terms point +ℚ product_of term point
  pub low : new.low ≡ old.low
  pub high : new.high ≡ old.high
  pub stands : (columns : ℕ) → StandsBelow columns old.terms → term.column < columns → StandsBelow columns new.terms

-- a term that waits was put into a row, or was added to another term, or waits still: row, waiting term and other term
-- come to the same together
pub record HasMet (old : Row) (waiting term : Term) (new : Row) (still left : Term) : Type 0 where
  pub activity : (point : List ℚ)
      → (activity new.terms point +ℚ product_of still point) +ℚ product_of left point
      ≡ (activity old.terms point +ℚ product_of waiting point) +ℚ product_of term point
  pub low : new.low ≡ old.low
  pub high : new.high ≡ old.high
  pub column : still.column ≡ waiting.column
  pub same : left.column ≡ term.column
  pub stands : (columns : ℕ)
      → StandsBelow columns old.terms → waiting.column < columns → StandsBelow columns new.terms

-- the same of two terms that wait, and a term that is put into the row
pub record HasBoth (old : Row) (first second term : Term) (new : Row) (one other : Term) : Type 0 where
  pub activity : (point : List ℚ)
      → (activity new.terms point +ℚ product_of one point) +ℚ product_of other point
      ≡ ((activity old.terms point +ℚ product_of first point) +ℚ product_of second point) +ℚ product_of term point
  pub low : new.low ≡ old.low
  pub high : new.high ≡ old.high
  pub one_column : one.column ≡ first.column
  pub other_column : other.column ≡ second.column
  pub stands : (columns : ℕ)
      → StandsBelow columns old.terms → first.column < columns → second.column < columns → term.column < columns
      → StandsBelow columns new.terms

-- all of these terms beside two others
pub record HasAll (old : Row) (first second : Term) (terms : List Term) (new : Row) : Type 0 where
  pub activity : (point : List ℚ)
      → activity new.terms point
      ≡ ((activity old.terms point +ℚ product_of first point) +ℚ product_of second point) +ℚ activity terms point
  pub low : new.low ≡ old.low
  pub high : new.high ≡ old.high
  pub stands : (columns : ℕ)
      → StandsBelow columns old.terms → first.column < columns → second.column < columns → StandsBelow columns terms
      → StandsBelow columns new.terms
