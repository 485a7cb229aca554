-- The Lagrangian bound as one computation: the constant, each multiplier that isn't 0 times its side, the least of what
-- is left of the costs on the columns of no block, and the bound of each block's tree; or the first fault in that
-- order.
use Rattle.std.specs.Prelude.{ℕ, suc, List, [], ◌∷◌, Option, None, Some, Result, Ok, Err, if◌then◌else◌, slice_index_or, slice_set}
use Rattle.cip_rational.specs.Rational.{ℚ, ◌-ℚ◌, ◌*ℚ◌, zeroℚ, lt_test}
use Rattle.cip_rational.specs.Range.{difference_overflows, product_overflows}
use Rattle.cip_frac.specs.declared.operations.Wide.{Wide as Overflow}
use Rattle.cip_frac.specs.Outcomes.{sum_outcome, product_added}
use Rattle.cip_problem.specs.Program.{Term, Sides, Row, Program, no_row}
use Rattle.cip_problem.specs.Activity.{value_at}
use Rattle.cip_problem.specs.Box.{sides_at}
use Rattle.cip_problem.specs.Log.{Node}
use Rattle.cip_problem.specs.BlockParts.{Blocks}
use Rattle.cip_problem.specs.BlockMeaning.{part_at}
use Rattle.cip_cert.specs.declared.pricing.BoundTree.{BoundTree}
use Rattle.cip_lagrange.specs.Numbers.{found}
use Rattle.cip_lagrange.specs.declared.parts.Subproblem.{Subproblem}
use Rattle.cip_lagrange.specs.declared.parts.Decomposed.{Decomposed}
use Rattle.cip_lagrange.specs.declared.answers.TreeBound.{TreeBound}
use Rattle.cip_lagrange.specs.declared.answers.TreeBound.TheVariants.{Finite, NoPoint}
use Rattle.cip_lagrange.specs.declared.answers.TreeFault.{TreeFault}
use Rattle.cip_lagrange.specs.declared.answers.LagrangeFault.{LagrangeFault}
use Rattle.cip_lagrange.specs.declared.answers.LagrangeFault.TheVariants.{NoSide, NoRest, Tree, Wide}
use Rattle.cip_lagrange.specs.TreeOutcomes.{Asked, tree_outcome}
use Rattle.cip_lagrange.specs.TreeMeaning.{own_rows}

-- what comes after an outcome: a fault stays
abbrev pub chain : {A B : Type 0} → Result A LagrangeFault → (A → Result B LagrangeFault) → Result B LagrangeFault
chain (Ok a) next = next a
chain (Err fault) next = Err fault

-- an operation that may overflow
abbrev pub in_range : Result ℚ Overflow → Result ℚ LagrangeFault
in_range (Ok q) = Ok q
in_range (Err overflow) = Err Wide

-- ---- multipliers

-- the sum so far, and what is left of the cost of each column
pub record Reduced : Type 0 where
  pub total : ℚ
  pub rests : List ℚ

-- a rest less the product of a multiplier and a coefficient
abbrev pub product_less : ℚ → ℚ → ℚ → Result ℚ LagrangeFault
product_less rest y coefficient =
    if product_overflows y coefficient then Err Wide
    else (if difference_overflows rest (y *ℚ coefficient) then Err Wide else Ok (rest -ℚ y *ℚ coefficient))

-- rests less the products of a multiplier and the coefficients of a row, one after another
abbrev pub terms_less : ℚ → List Term → List ℚ → Result (List ℚ) LagrangeFault
terms_less y [] rests = Ok rests
terms_less y (t ∷ ts) rests =
    chain (product_less (value_at rests t.column) y t.coefficient)
    (λ less. terms_less y ts (slice_set rests t.column less))

-- a multiplier that uses a side: the side's product is added first, and then the row is taken from the rests
abbrev pub side_used : ℕ → ℚ → List Term → Option ℚ → Reduced → Result Reduced LagrangeFault
side_used number y terms None reduced = Err (NoSide number)
side_used number y terms (Some side) reduced =
    chain (in_range (product_added reduced.total y side))
    (λ total. chain (terms_less y terms reduced.rests) (λ rests. Ok (record { total = total; rests = rests })))

-- a multiplier above 0 uses the low side of its row, one below 0 the high side, and 0 changes nothing
abbrev pub multiplier_used : ℕ → ℚ → Row → Reduced → Result Reduced LagrangeFault
multiplier_used number y row reduced =
    if lt_test zeroℚ y then side_used number y row.terms row.low reduced
    else (if lt_test y zeroℚ then side_used number y row.terms row.high reduced else Ok reduced)

-- the multipliers of the rows with these numbers, one after another
abbrev pub multipliers_used : List Row → List ℕ → List ℚ → Reduced → Result Reduced LagrangeFault
multipliers_used rows [] ys reduced = Ok reduced
multipliers_used rows (number ∷ numbers) [] reduced = Ok reduced
multipliers_used rows (number ∷ numbers) (y ∷ ys) reduced =
    chain (multiplier_used number y (slice_index_or rows number no_row) reduced) (multipliers_used rows numbers ys)

-- ---- columns of no block

abbrev pub rest_added : ℕ → ℚ → Option ℚ → ℚ → Result ℚ LagrangeFault
rest_added column rest None sum = Err (NoRest column)
rest_added column rest (Some side) sum = in_range (product_added sum rest side)

-- a sum with the least product of a rest and a value between two sides added; a rest of 0 adds nothing
abbrev pub column_added : ℕ → ℚ → Sides → ℚ → Result ℚ LagrangeFault
column_added column rest sides sum =
    if lt_test zeroℚ rest then rest_added column rest sides.low sum
    else (if lt_test rest zeroℚ then rest_added column rest sides.high sum else Ok sum)

-- a sum with the least rests of these columns added, one after another
abbrev pub free_added : List ℚ → List Sides → List ℕ → ℚ → Result ℚ LagrangeFault
free_added rests box [] sum = Ok sum
free_added rests box (column ∷ columns) sum =
    chain (column_added column (value_at rests column) (sides_at box column) sum) (free_added rests box columns)

-- ---- blocks

-- what a tree of a block is checked with: the block's rows alone
abbrev pub asked_of : Subproblem → (room : ℕ) → (costs : List ℚ) → Asked
asked_of part room costs =
    record { lent = own_rows part.rows.items; integral = part.whole.items; room = room; costs = costs }

-- a block's part of a box, with the program's choices
abbrev pub part_node : Subproblem → List Sides → Node
part_node part box = record { number = 0; box = box; choices = part.choices; bound = None }

-- the check of a block's tree, in its part of a box and at what is left of the costs of its columns
abbrev pub block_outcome : ℕ → List ℕ → Subproblem → List ℚ → List Sides → BoundTree → Result TreeBound TreeFault
block_outcome room numbers part rests box tree =
    tree_outcome (asked_of part room (found rests numbers)) 1 tree (part_node part (found box numbers))

-- a fault of a tree, with its block
abbrev pub tree_of : ℕ → Result TreeBound TreeFault → Result TreeBound LagrangeFault
tree_of block (Ok bound) = Ok bound
tree_of block (Err fault) = Err (Tree block fault)

abbrev pub finite_sum : Result ℚ Overflow → Result TreeBound LagrangeFault
finite_sum (Ok sum) = Ok (Finite sum)
finite_sum (Err overflow) = Err Wide

-- the sum of two bounds; where one block has no point, there is none
abbrev pub bounds_sum : TreeBound → TreeBound → Result TreeBound LagrangeFault
bounds_sum NoPoint more = Ok NoPoint
bounds_sum (Finite bound) NoPoint = Ok NoPoint
bounds_sum (Finite bound) (Finite more) = finite_sum (sum_outcome bound more)

-- a bound with that of a block added
abbrev pub block_added : ℕ → Result TreeBound TreeFault → TreeBound → Result TreeBound LagrangeFault
block_added block outcome bound = chain (tree_of block outcome) (bounds_sum bound)

-- a bound with those of blocks added, the first of which has this number
abbrev pub blocks_added : ℕ → Blocks → List ℚ → List Sides → (first : ℕ) → List Subproblem → List BoundTree
    → TreeBound → Result TreeBound LagrangeFault
blocks_added room blocks rests box block [] trees bound = Ok bound
blocks_added room blocks rests box block (part ∷ parts) [] bound = Ok bound
blocks_added room blocks rests box block (part ∷ parts) (tree ∷ trees) bound =
    chain (block_added block (block_outcome room (part_at blocks block).columns part rests box tree) bound)
    (blocks_added room blocks rests box (suc block) parts trees)

-- ---- the bound

-- without multipliers: the constant, and the costs
abbrev pub start_of : Program → Reduced
start_of program = record { total = program.constant; rests = program.costs }

-- behind the multipliers: the columns of no block, and then the blocks
abbrev pub rests_added : ℕ → Decomposed → List Sides → List BoundTree → Reduced → Result TreeBound LagrangeFault
rests_added room kept box trees reduced =
    chain (free_added reduced.rests box kept.blocks.free_columns reduced.total)
    (λ sum. blocks_added room kept.blocks reduced.rests box 0 kept.subproblems.items trees (Finite sum))

-- the outcome, where checks of trees have so much room
abbrev pub lagrange_outcome : ℕ → Program → Decomposed → List Sides → List ℚ → List BoundTree
    → Result TreeBound LagrangeFault
lagrange_outcome room program kept box multipliers trees =
    chain (multipliers_used program.rows kept.blocks.master_rows multipliers (start_of program))
    (rests_added room kept box trees)
