-- The definitions tried on programs that were worked out by hand.
use Rattle.std.specs.Prelude.{◌≡◌, ◌^◌, ℕ, pos, negsuc, true, false, List, [], ◌∷◌, None, Some}
use Rattle.cip_rational.specs.Rational.{ℚ, integer, ratio, zeroℚ, oneℚ, negate}
use Rattle.cip_problem.specs.Program.{Term, Sides, Row, Program}
use Rattle.cip_problem.specs.LinearProgram.{LinearProgram}
use Rattle.cip_bland.specs.declared.moves.Stand.TheVariants.{Low}
use Rattle.cip_bland.specs.declared.moves.Move.TheVariants.{Exchange}
use Rattle.cip_bland.specs.EndAnswers.{Certificate, Optimal, Unbounded, OutOfRange}
use Rattle.cip_bland.specs.NoRepeat.{whole_answer}
use Rattle.cip_search.specs.LeafProgram.{at_continuous, merged, is_continuous, new_number, program_of_leaf}
use Rattle.cip_search.specs.WideLeaf.{AfterMoves, IsWideBy}

abbrev pub on : ℕ → ℚ → Term
on column coefficient = record { column = column; coefficient = coefficient }

abbrev pub at_least : List Term → ℚ → Row
at_least terms low = record { terms = terms; low = Some low; high = None }

-- from 0 to 1, from 0, and without sides
abbrev pub binary : Sides
binary = record { low = Some zeroℚ; high = Some oneℚ }

abbrev pub nonnegative : Sides
nonnegative = record { low = Some zeroℚ; high = None }

abbrev pub free : Sides
free = record { low = None; high = None }

-- minimise y, where 3x + 3y is at least 1, -3x + 3y at least -1, x is 0 or 1, and y has no side
abbrev pub kink : Program
kink = record {
  column_names = (120 ∷ []) ∷ (121 ∷ []) ∷ [];
  row_names = (49 ∷ []) ∷ (50 ∷ []) ∷ [];
  rows =
      at_least (on 0 (integer (pos 3)) ∷ on 1 (integer (pos 3)) ∷ []) oneℚ
      ∷ at_least (on 0 (integer (negsuc 2)) ∷ on 1 (integer (pos 3)) ∷ []) (integer (negsuc 0)) ∷ [];
  costs = zeroℚ ∷ oneℚ ∷ [];
  constant = zeroℚ;
  maximized = false;
  integral = true ∷ false ∷ [];
  bounds = binary ∷ free ∷ [];
  choices = [];
}

-- minimise y, from 0, where 10^38 y is at least 1 and 10^-38 y at most 5
abbrev pub steep : Program
steep = record {
  column_names = (121 ∷ []) ∷ [];
  row_names = (49 ∷ []) ∷ (50 ∷ []) ∷ [];
  rows =
      at_least (on 0 (integer (pos (10 ^ 38))) ∷ []) oneℚ
      ∷ record { terms = on 0 (ratio (pos 1) (10 ^ 38)) ∷ []; low = None; high = Some (integer (pos 5)) } ∷ [];
  costs = oneℚ ∷ [];
  constant = zeroℚ;
  maximized = false;
  integral = false ∷ [];
  bounds = nonnegative ∷ [];
  choices = [];
}

-- minimise -y, without rows, where x is 0 or 1 and y from 0
abbrev pub endless : Program
endless = record {
  column_names = (120 ∷ []) ∷ (121 ∷ []) ∷ [];
  row_names = [];
  rows = [];
  costs = zeroℚ ∷ integer (negsuc 0) ∷ [];
  constant = zeroℚ;
  maximized = false;
  integral = true ∷ false ∷ [];
  bounds = binary ∷ nonnegative ∷ [];
  choices = [];
}

-- the leaf of kink where x is 1: 3y is at least -2, and at least 2
abbrev pub kink_at_one : LinearProgram
kink_at_one = record {
  rows =
      at_least (on 0 (integer (pos 3)) ∷ []) (integer (negsuc 1))
      ∷ at_least (on 0 (integer (pos 3)) ∷ []) (integer (pos 2)) ∷ [];
  bounds = free ∷ [];
  costs = oneℚ ∷ [];
}

-- a row by its number times a factor
abbrev pub by_row : ℕ → ℚ → Certificate
by_row number factor = record { rows = record { number = number; factor = factor } ∷ []; lows = []; highs = [] }

-- where x is 0 the least y is 1/3, by the first row, and where it is 1 it is 2/3, by the second; the steep program has
-- one leaf, whose first move is out of range; and the endless one falls along y
pub record Examples : Type 0 where
  pub at_one : program_of_leaf kink (oneℚ ∷ []) ≡ kink_at_one
  pub least_at_zero : whole_answer (program_of_leaf kink (zeroℚ ∷ []))
      ≡ Optimal (ratio (pos 1) 3 ∷ []) (by_row 0 (ratio (pos 1) 3)) (ratio (pos 1) 3)
  pub least_at_one : whole_answer (program_of_leaf kink (oneℚ ∷ []))
      ≡ Optimal (ratio (pos 2) 3 ∷ []) (by_row 1 (ratio (pos 1) 3)) (ratio (pos 2) 3)
  pub first_move : whole_answer (program_of_leaf steep []) ≡ OutOfRange (Exchange 1 0 Low ∷ [])
  pub wide : IsWideBy steep [] (AfterMoves 1)
  pub not_two : ¬ IsWideBy steep [] (AfterMoves 2)
  pub falls : whole_answer (program_of_leaf endless (zeroℚ ∷ [])) ≡ Unbounded (zeroℚ ∷ []) (oneℚ ∷ [])
  -- of three columns the second is continuous
  pub kept : at_continuous {X = ℕ} (true ∷ false ∷ true ∷ []) (1 ∷ 2 ∷ 3 ∷ []) ≡ 2 ∷ []
  pub together : merged (true ∷ false ∷ true ∷ []) (oneℚ ∷ zeroℚ ∷ []) (negate oneℚ ∷ [])
      ≡ oneℚ ∷ negate oneℚ ∷ zeroℚ ∷ []
  -- of four the second and the fourth
  pub renumbered : new_number (true ∷ false ∷ true ∷ false ∷ []) 3 ≡ 1
  pub continuous : is_continuous (true ∷ false ∷ true ∷ false ∷ []) 3 ≡ true
