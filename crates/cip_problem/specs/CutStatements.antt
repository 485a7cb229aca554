-- The main laws, each as one statement: the functions of `src/lib.rt` have them as contracts.
use Rattle.std.specs.Prelude.{◌≡◌, ◌↔◌, ◌⊎◌, ℕ, ◌<◌, ℤ, pos, ◌+ℤ◌, Bool, true, false, List, [], ◌∷◌, ◌++◌, length, Option, None, Some, IfSome, slice_get, slice_set}
use Rattle.std.specs.List.{Contains}
use Rattle.std.specs.List.Sorted.{IsPermutation}
use Rattle.cip_rational.specs.Rational.{ℚ, ◌≤ℚ◌, integer, ceil}
use Rattle.cip_problem.specs.Program.{Term, Sides, Row, Program}
use Rattle.cip_problem.specs.WellFormed.{IsWellFormed}
use Rattle.cip_problem.specs.Activity.{activity, StandsBelow, value_at}
use Rattle.cip_problem.specs.Box.{Between, IsInBox, sides_at, box_inside}
use Rattle.cip_problem.specs.Points.{IsSatisfied, AreWhole, IsFeasible, cost_of, IsLowerBound}
use Rattle.cip_problem.specs.Wholes.{wholes_between}
use Rattle.cip_problem.specs.Choices.{choice_at, AreStillOpen}
use Rattle.cip_problem.specs.Log.{Node, root, low_node, high_node, CanSplitAt, matters}
use Rattle.cip_problem.specs.Aggregate.{Part, IsPartOf, bound_row, HoldsAt, AllHoldAt, Inequality, Holds, IsAggregate, Empties, implied_sides}
use Rattle.cip_problem.specs.Improving.{IsImproving, HoldsInBox, IsValidRow, IsValid, IsBoundIn, HasNoImproving, IsNoDearer}
use Rattle.cip_problem.specs.Cuts.{CanRound, rounded, rounded_sides, IsCrossed, row_of, cutoff_row, ScopedRow, HoldsInScope, cost_bound, HasWholeCosts}
use Rattle.cip_problem.specs.Splits.{IsWholeForm, SplitForm, IsSplitRow}
use Rattle.cip_problem.specs.Cover.{IsBounded, IsCover, IsReplacedBy, HasBoundFrom}
use Rattle.cip_problem.specs.Reduced.{IsReduction}

-- where what is held gets cheaper there are no new improving points; what is valid, and what is a bound, stays so
-- then, and in each box inside
pub record ImprovingPointsShrink : Type 0 where
  pub fewer : (program : Program) (now before : Option ℚ) (point : List ℚ)
      → IsNoDearer now before → IsImproving program now point → IsImproving program before point
  pub row_later : (program : Program) (now before : Option ℚ) (box : List Sides) (row : Row)
      → IsNoDearer now before → IsValidRow program before box row → IsValidRow program now box row
  pub valid_later : (program : Program) (now before : Option ℚ) (box : List Sides) (row : Inequality)
      → IsNoDearer now before → IsValid program before box row → IsValid program now box row
  pub bound_later : (program : Program) (now before : Option ℚ) (box : List Sides) (b : ℚ)
      → IsNoDearer now before → IsBoundIn program before box b → IsBoundIn program now box b
  pub row_inside : (program : Program) (held : Option ℚ) (inner outer : List Sides) (row : Row)
      → length inner ≡ length outer → box_inside inner outer ≡ true
      → IsValidRow program held outer row → IsValidRow program held inner row
  pub valid_inside : (program : Program) (held : Option ℚ) (inner outer : List Sides) (row : Inequality)
      → length inner ≡ length outer → box_inside inner outer ≡ true
      → IsValid program held outer row → IsValid program held inner row
  pub bound_inside : (program : Program) (held : Option ℚ) (inner outer : List Sides) (b : ℚ)
      → length inner ≡ length outer → box_inside inner outer ≡ true
      → IsBoundIn program held outer b → IsBoundIn program held inner b

-- which rows are valid: the program's own, a kept one in each box inside its scope, and the cutoff row everywhere; and
-- at each improving point every kept row that is valid in its scope holds there
pub record RowsAreValid : Type 0 where
  pub own : (program : Program) (held : Option ℚ) (box : List Sides) (number : ℕ) (row : Row)
      → slice_get program.rows number ≡ Some row → IsValidRow program held box row
  pub kept : (program : Program) (held : Option ℚ) (box : List Sides) (kept : ScopedRow)
      → length box ≡ length kept.scope → box_inside box kept.scope ≡ true
      → IsValidRow program held kept.scope kept.row → IsValidRow program held box kept.row
  pub in_scope : (program : Program) (held : Option ℚ) (kept : ScopedRow) (point : List ℚ)
      → IsValidRow program held kept.scope kept.row → IsImproving program held point → HoldsInScope kept point
  pub cutoff : (program : Program) (cost : ℚ) (box : List Sides)
      → IsValidRow program (Some cost) box (cutoff_row program cost)
  pub cutoff_means : (program : Program) (cost : ℚ) (point : List ℚ)
      → IsSatisfied (cutoff_row program cost) point ↔ (cost_of program point ≤ℚ cost)

-- what follows from valid rows: parts of them and of the box are kept, sums of such parts are valid, and so is the
-- rounded sum; an inequality and its row are satisfied at the same points
pub record SumsAreValid : Type 0 where
  pub row_part : (program : Program) (held : Option ℚ) (box : List Sides) (row : Row) (part : Part)
      → IsValidRow program held box row → IsPartOf row part → HoldsInBox program held box (HoldsAt part)
  pub column_part : (program : Program) (held : Option ℚ) (box : List Sides) (column : ℕ) (part : Part)
      → IsPartOf (bound_row column (sides_at box column)) part → HoldsInBox program held box (HoldsAt part)
  pub sum : (program : Program) (held : Option ℚ) (box : List Sides) (n : ℕ) (parts : List Part) (row : Inequality)
      → IsAggregate n parts row → HoldsInBox program held box (AllHoldAt parts) → IsValid program held box row
  pub rounded_at : (integral : List Bool) (row : Inequality) (point : List ℚ)
      → CanRound integral row.coefficients → AreWhole integral point → Holds row point → Holds (rounded row) point
  pub rounded : (program : Program) (held : Option ℚ) (box : List Sides) (row : Inequality)
      → CanRound program.integral row.coefficients → IsValid program held box row
      → IsValid program held box (rounded row)
  pub same_row : (row : Inequality) (point : List ℚ) → Holds row point ↔ IsSatisfied (row_of row) point
  pub row_stands : (row : Inequality) → StandsBelow (length row.coefficients) (row_of row).terms

-- an inequality has a coefficient for each column of the box, and so has the program a cost
pub record Fits (program : Program) (row : Inequality) (box : List Sides) : Type 0 where
  pub coefficients : length row.coefficients ≡ length box
  pub costs : length program.costs ≡ length box

-- what a valid inequality implies: a bound, rounded up where costs are whole, that no improving point is there, and
-- sides for each column, rounded inward where it is whole
pub record ValidRowsImply : Type 0 where
  pub bound : (program : Program) (held : Option ℚ) (box : List Sides) (row : Inequality) (b : ℚ)
      → Fits program row box → IsValid program held box row → cost_bound program row box ≡ Some b
      → IsBoundIn program held box b
  pub whole_bound : (program : Program) (held : Option ℚ) (box : List Sides) (b : ℚ)
      → HasWholeCosts program → IsBoundIn program held box b → IsBoundIn program held box (integer (ceil b))
  pub empty : (program : Program) (held : Option ℚ) (box : List Sides) (row : Inequality)
      → Fits program row box → IsValid program held box row → Empties row box → HasNoImproving program held box
  pub sides : (program : Program) (held : Option ℚ) (box : List Sides) (row : Inequality) (column : ℕ)
      → Fits program row box → column < length box → IsValid program held box row
      → HoldsInBox program held box (λ point. Between (implied_sides row box column).low
      (implied_sides row box column).high (value_at point column))
  pub whole_sides : (program : Program) (held : Option ℚ) (box : List Sides) (column : ℕ) (sides : Sides)
      → slice_get program.integral column ≡ Some true
      → HoldsInBox program held box (λ point. Between sides.low sides.high (value_at point column))
      → HoldsInBox program held box (λ point. Between (rounded_sides sides).low (rounded_sides sides).high
      (value_at point column))
  pub narrowed : (program : Program) (held : Option ℚ) (box : List Sides) (column : ℕ) (sides : Sides)
      → HoldsInBox program held box (λ point. Between sides.low sides.high (value_at point column))
      → HoldsInBox program held box (IsInBox (slice_set box column sides))

-- what a split tells: at a point whose whole columns are whole a whole form is at most a whole number or at least the
-- next one; so where both rows of a split row hold it does, and it is valid where both are
pub record SplitRowsAreValid : Type 0 where
  pub either_side : (integral : List Bool) (form : List Term) (at : ℤ) (point : List ℚ)
      → IsWholeForm integral form → AreWhole integral point
      → (activity form point ≤ℚ integer at) ⊎ (integer (at +ℤ pos 1) ≤ℚ activity form point)
  pub holds : (integral : List Bool) (split : SplitForm) (left right row : Inequality) (point : List ℚ)
      → IsSplitRow integral split left right row → AreWhole integral point
      → Holds left point → Holds right point → Holds row point
  pub valid : (program : Program) (held : Option ℚ) (box : List Sides) (split : SplitForm)
      (left right row : Inequality) → IsSplitRow program.integral split left right row
      → IsValid program held box left → IsValid program held box right → IsValid program held box row

-- where a box has no improving point: its bound is not below the cost held; the sides of a column are crossed, or no
-- whole number lies between those of a whole column
pub record BoxesAreEmpty : Type 0 where
  pub by_bound : (program : Program) (held : Option ℚ) (box : List Sides) (bound : Option ℚ)
      → IfSome bound (IsBoundIn program held box) → matters held bound ≡ false → HasNoImproving program held box
  pub crossed : (program : Program) (held : Option ℚ) (box : List Sides) (column : ℕ)
      → IsCrossed (sides_at box column) → HasNoImproving program held box
  pub no_whole : (program : Program) (held : Option ℚ) (box : List Sides) (column : ℕ)
      → slice_get program.integral column ≡ Some true
      → wholes_between (sides_at box column).low (sides_at box column).high ≡ Some 0
      → HasNoImproving program held box

-- how a cover goes on: a node is replaced, what is held gets cheaper, and the order of the nodes doesn't matter
pub record CoversGoOn : Type 0 where
  pub start : (program : Program) (held : Option ℚ) → IsWellFormed program → IsCover program held (root program ∷ [])
  pub step : (program : Program) (held : Option ℚ) (node : Node) (others news : List Node)
      → IsReplacedBy program held node news → IsCover program held (node ∷ others)
      → IsCover program held (news ++ others)
  pub later : (program : Program) (now before : Option ℚ) (nodes : List Node)
      → IsNoDearer now before → IsCover program before nodes → IsCover program now nodes
  pub reordered : (program : Program) (held : Option ℚ) (nodes others : List Node)
      → IsPermutation nodes others → IsCover program held nodes → IsCover program held others

-- by what a node is replaced: by nothing where its box has no improving point, or its bound is not below the cost held;
-- by a node with a box that holds its improving points; by the halves of a split, where the open choices of the node
-- are the program's own
pub record NodesAreReplaced : Type 0 where
  pub closed : (program : Program) (held : Option ℚ) (node : Node)
      → HasNoImproving program held node.box → IsReplacedBy program held node []
  pub pruned : (program : Program) (held : Option ℚ) (node : Node)
      → IsBounded program held node → matters held node.bound ≡ false → IsReplacedBy program held node []
  pub changed : (program : Program) (held : Option ℚ) (node other : Node)
      → HoldsInBox program held node.box (IsInBox other.box)
      → (IsBounded program held node → IsBounded program held other) → IsReplacedBy program held node (other ∷ [])
  pub split : (program : Program) (held : Option ℚ) (node low high : Node) (column : ℕ) (at : ℤ)
      → CanSplitAt (choice_at node.choices column) (slice_get program.integral column)
      → AreStillOpen program.choices node.choices
      → low.box ≡ (low_node node column at).box → high.box ≡ (high_node node column at).box
      → (IsBounded program held node → IsBounded program held low × IsBounded program held high)
      → IsReplacedBy program held node (low ∷ high ∷ [])

-- what a cover says: without nodes no feasible point is cheaper than what is held; and a number that neither what is
-- held nor a node's bound is below is a bound of all feasible points
pub record CoversTell : Type 0 where
  pub nothing_cheaper : (program : Program) (cost : ℚ)
      → IsCover program (Some cost) [] → IsLowerBound program cost
  pub no_point : (program : Program) (point : List ℚ) → IsCover program None [] → ¬ IsFeasible program point
  pub bound : (program : Program) (held : Option ℚ) (nodes : List Node) (b : ℚ)
      → IsCover program held nodes → IfSome held (λ cost. b ≤ℚ cost)
      → ((node : Node) → Contains nodes node → HasBoundFrom b node)
      → IsLowerBound program b

-- each program is a reduction of itself; reductions follow one another; and bounds of the reduced program, and that it
-- has no point, hold of the other
pub record ReductionsCarry : Type 0 where
  pub itself : (program : Program) → IsReduction program program (λ point. point)
  pub bound : (program reduced : Program) (postsolve : List ℚ → List ℚ) (b : ℚ)
      → IsReduction program reduced postsolve → IsLowerBound reduced b → IsLowerBound program b
  pub no_point : (program reduced : Program) (postsolve : List ℚ → List ℚ)
      → IsReduction program reduced postsolve → ((point : List ℚ) → ¬ IsFeasible reduced point)
      → (point : List ℚ) → ¬ IsFeasible program point
  pub chain : (first second third : Program) (post more : List ℚ → List ℚ)
      → IsReduction first second post → IsReduction second third more
      → IsReduction first third (λ point. post (more point))
