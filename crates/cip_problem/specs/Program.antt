-- Programs with linear rows (constraint integer programs; Achterberg 2007), over the rational numbers.
use Rattle.std.specs.Prelude.{ℕ, Bool, List, [], Option, None}
use Rattle.cip_rational.specs.Rational.{ℚ}

-- One product of a linear sum: a coefficient, and the number of the column that it stands on.
pub record Term : Type 0 where
  pub column : ℕ
  pub coefficient : ℚ

-- The low and the high side of a column. A side that is not there is open.
pub record Sides : Type 0 where
  pub low : Option ℚ
  pub high : Option ℚ

-- A row: a linear sum by rising column, no coefficient 0, and the two sides that it lies between.
pub record Row : Type 0 where
  pub terms : List Term
  pub low : Option ℚ
  pub high : Option ℚ

-- what stands past the last row: one without terms and sides
abbrev pub no_row : Row
no_row = record { terms = []; low = None; high = None }

-- What is chosen of a column. A semi-continuous column has the value 0, or one between its own sides: while that is
-- open, the choice holds these sides; then the column is off, at 0, or on, between them. A plain column has no choice.
pub data Choice : Type 0 where
  Plain : Choice
  Open : (own : Sides) → Choice
  Off : Choice
  On : Choice

-- A program. Rows and columns are numbered from 0 in the order of the lists. The costs and the
-- constant are those of the minimised form: where the text maximises they are its negated ones. The
-- bounds of a semi-continuous column hold 0 too. Columns past the end of the choices are plain.
pub record Program : Type 0 where
  pub column_names : List (List ℕ)
  pub row_names : List (List ℕ)
  pub rows : List Row
  pub costs : List ℚ
  pub constant : ℚ
  pub maximized : Bool
  pub integral : List Bool
  pub bounds : List Sides
  pub choices : List Choice
