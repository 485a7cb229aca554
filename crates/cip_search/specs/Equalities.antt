-- Equalities of two terms: one column's value follows from the other's.
use Rattle.std.specs.Prelude.{◌≡◌, ℕ, true, List, [], ◌∷◌, Some}
use Rattle.cip_rational.specs.Rational.{ℚ, ◌+ℚ◌, ◌-ℚ◌, ◌*ℚ◌, negate, inverse, IsWhole}
use Rattle.cip_rational.specs.Range.{fits_range}
use Rattle.cip_problem.specs.Program.{Term, Sides, Row}
use Rattle.cip_problem.specs.Activity.{activity}
use Rattle.cip_problem.specs.Box.{Between}
use Rattle.cip_search.specs.Forms.{Form}
use Rattle.cip_search.specs.RowSteps.{side_less}

-- two terms
abbrev pub two_terms : ℕ → ℚ → ℕ → ℚ → List Term
two_terms first a second b =
    record { column = first; coefficient = a } ∷ record { column = second; coefficient = b } ∷ []

-- the value of a column in `a x + b y = d`, by that of y, where a isn't 0
abbrev pub equality_form : (a b d : ℚ) → ℕ → Form
equality_form a b d source = record { constant = d *ℚ inverse a; factor = negate b *ℚ inverse a; source = source }

-- a row is an equality
pub record IsEquality (row : Row) (value : ℚ) : Type 0 where
  pub low : row.low ≡ Some value
  pub high : row.high ≡ Some value

-- a row less a multiple of an equality: its activity is, and so are its sides
pub record IsLessMultiple (row equality : Row) (value multiple : ℚ) (new : Row) : Type 0 where
  pub activity : (point : List ℚ)
      → activity new.terms point ≡ activity row.terms point -ℚ multiple *ℚ activity equality.terms point
  pub low : new.low ≡ side_less row.low (multiple *ℚ value)
  pub high : new.high ≡ side_less row.high (multiple *ℚ value)

-- both ends of a column's sides are there, and the form's value at each lies between other sides
pub record EndsKeep (form : Form) (own outer : Sides) : Type 0 where
  pub low : ℚ
  pub high : ℚ
  pub is_low : own.low ≡ Some low
  pub is_high : own.high ≡ Some high
  pub at_low : Between outer.low outer.high (form.constant +ℚ form.factor *ℚ low)
  pub at_high : Between outer.low outer.high (form.constant +ℚ form.factor *ℚ high)

-- so that a whole value between the sides gives a whole value in range between the others: the form is whole, the ends
-- are, and what it is at them is in range
pub record EndsAssign (form : Form) (own outer : Sides) : Type 0 where
  pub keep : EndsKeep form own outer
  pub constant : IsWhole form.constant
  pub factor : IsWhole form.factor
  pub low_whole : IsWhole keep.low
  pub high_whole : IsWhole keep.high
  pub low_fits : fits_range (form.constant +ℚ form.factor *ℚ keep.low) ≡ true
  pub high_fits : fits_range (form.constant +ℚ form.factor *ℚ keep.high) ≡ true
