-- The definitions tried on a program: maximise 5a + 4b + 3c over whole numbers from 0 to 10, under three rows; and on
-- one with a semi-continuous column.
use Rattle.std.specs.Prelude.{◌≡◌, ℕ, pos, true, false, List, [], ◌∷◌, None, Some}
use Rattle.cip_rational.specs.Rational.{ℚ, whole, ratio, zeroℚ}
use Rattle.cip_problem.specs.Program.{Sides, Row, Open, Off, On, Program}
use Rattle.cip_problem.specs.WellFormed.{IsWellFormed}
use Rattle.cip_problem.specs.Activity.{activity}
use Rattle.cip_problem.specs.Points.{IsFeasible, cost_of, printed}
use Rattle.cip_problem.specs.BoxBound.{box_bound}
use Rattle.cip_problem.specs.Wholes.{assignments}
use Rattle.cip_problem.specs.Choices.{zero_sides}
use Rattle.cip_problem.specs.Log.{Node, Entry, Split, Closed, root, low_half, low_node, high_node, leaf_count, IsLog, IsOpen}

-- the row x a + y b + z c ≤ high
abbrev pub row_at_most : ℕ → ℕ → ℕ → ℕ → Row
row_at_most x y z high = record {
  terms =
      record { column = 0; coefficient = whole x 0 }
      ∷ record { column = 1; coefficient = whole y 0 }
      ∷ record { column = 2; coefficient = whole z 0 } ∷ [];
  low = None;
  high = Some (whole high 0);
}

-- from 0 to 10
abbrev pub up_to_ten : Sides
up_to_ten = record { low = Some (whole 0 0); high = Some (whole 10 0) }

-- the program: what it maximises, 5a + 4b + 3c, is -5a - 4b - 3c in the minimised form
abbrev pub example : Program
example = record {
  column_names = (97 ∷ []) ∷ (98 ∷ []) ∷ (99 ∷ []) ∷ [];
  row_names = (114 ∷ []) ∷ (115 ∷ []) ∷ (116 ∷ []) ∷ [];
  rows = row_at_most 2 3 1 5 ∷ row_at_most 4 1 2 11 ∷ row_at_most 3 4 2 8 ∷ [];
  costs = whole 0 5 ∷ whole 0 4 ∷ whole 0 3 ∷ [];
  constant = zeroℚ;
  maximized = true;
  integral = true ∷ true ∷ true ∷ [];
  bounds = up_to_ten ∷ up_to_ten ∷ up_to_ten ∷ [];
  choices = [];
}

-- the point with these values of a, b and c
abbrev pub point_of : ℚ → ℚ → ℚ → List ℚ
point_of a b c = a ∷ b ∷ c ∷ []

-- a node is closed
abbrev pub closed : ℕ → Entry
closed node = record { node = node; bound = None; end = Closed }

-- node 0 is split at a ≤ 5 and 6 ≤ a into the nodes 1 and 2, and then node 2 is closed
abbrev pub split_and_closed : List Entry
split_and_closed = record { node = 0; bound = None; end = Split 0 (pos 5) 1 2 } ∷ closed 2 ∷ []

-- node 1 of that log
abbrev pub node_one : Node
node_one = record { number = 1; box = low_half example.bounds 0 (pos 5); choices = []; bound = None }

-- what holds of the program, of four points and of five lists of entries
pub record ProgramExamples : Type 0 where
  pub well_formed : IsWellFormed example
  pub feasible : IsFeasible example (point_of (whole 2 0) zeroℚ (whole 1 0))
  pub cost : cost_of example (point_of (whole 2 0) zeroℚ (whole 1 0)) ≡ whole 0 13
  pub cost_printed : printed example (cost_of example (point_of (whole 2 0) zeroℚ (whole 1 0))) ≡ whole 13 0
  pub row_activity : activity (row_at_most 2 3 1 5).terms (point_of (whole 2 0) zeroℚ (whole 2 0)) ≡ whole 6 0
  pub row_broken : ¬ IsFeasible example (point_of (whole 2 0) zeroℚ (whole 2 0))
  pub not_whole : ¬ IsFeasible example (point_of (whole 2 0) zeroℚ (ratio (pos 1) 2))
  pub below_bound : ¬ IsFeasible example (point_of (whole 0 1) zeroℚ zeroℚ)
  pub least : box_bound example example.bounds ≡ Some (whole 0 120)
  pub count : assignments example.integral example.bounds ≡ Some 1331
  pub nothing_done : IsLog example []
  pub root_closed : IsLog example (closed 0 ∷ [])
  pub root_split : IsLog example split_and_closed
  pub half_open : IsOpen example split_and_closed node_one
  pub never_given : ¬ IsLog example (closed 7 ∷ [])
  pub taken_twice : ¬ IsLog example (closed 0 ∷ closed 0 ∷ [])

-- from 2 to 5
abbrev pub two_to_five : Sides
two_to_five = record { low = Some (whole 2 0); high = Some (whole 5 0) }

-- minimise x, which is 0 or from 2 to 5, where x is at least 1
abbrev pub semi_example : Program
semi_example = record {
  column_names = (120 ∷ []) ∷ [];
  row_names = (114 ∷ []) ∷ [];
  rows =
      record {
        terms = record { column = 0; coefficient = whole 1 0 } ∷ [];
        low = Some (whole 1 0);
        high = None;
      } ∷ [];
  costs = whole 1 0 ∷ [];
  constant = zeroℚ;
  maximized = false;
  integral = false ∷ [];
  bounds = record { low = Some zeroℚ; high = Some (whole 5 0) } ∷ [];
  choices = Open two_to_five ∷ [];
}

-- the point with this value of x
abbrev pub at_x : ℚ → List ℚ
at_x x = x ∷ []

-- node 0 is split into node 1, where x is off, and node 2, where it is on
abbrev pub off_and_on : Entry
off_and_on = record { node = 0; bound = None; end = Split 0 (pos 0) 1 2 }

-- the two nodes
abbrev pub off_node : Node
off_node = record { number = 1; box = zero_sides ∷ []; choices = Off ∷ []; bound = None }

abbrev pub on_node : Node
on_node = record { number = 2; box = two_to_five ∷ []; choices = On ∷ []; bound = None }

-- what holds of this program, of three points and of three lists of entries
pub record SemiExamples : Type 0 where
  pub well_formed : IsWellFormed semi_example
  pub feasible : IsFeasible semi_example (at_x (whole 2 0))
  pub cost : cost_of semi_example (at_x (whole 2 0)) ≡ whole 2 0
  pub row_broken : ¬ IsFeasible semi_example (at_x zeroℚ)
  pub neither : ¬ IsFeasible semi_example (at_x (whole 1 0))
  pub count : leaf_count semi_example.integral (root semi_example) ≡ Some 2
  pub off : record (low_node (root semi_example) 0 (pos 0)) { number = 1; bound = None } ≡ off_node
  pub on : record (high_node (root semi_example) 0 (pos 0)) { number = 2; bound = None } ≡ on_node
  pub choice_made : IsLog semi_example (off_and_on ∷ closed 1 ∷ [])
  pub on_open : IsOpen semi_example (off_and_on ∷ closed 1 ∷ []) on_node
  pub made_twice : ¬ IsLog semi_example (off_and_on ∷ record { node = 1; bound = None; end = Split 0 (pos 0) 3 4 } ∷ [])
