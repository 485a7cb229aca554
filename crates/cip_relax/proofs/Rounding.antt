-- What rounded multipliers show of the linear program of a node.
use Rattle.std.proofs.Common.{◌≡◌, ◌++◌, List, map, Option, None, Some, IfSome, ap, ◌∙◌}
use Rattle.std.specs.Borrow.{Bor}
use Rattle.cip_rational.specs.Rational.{ℚ, ◌+ℚ◌}
use Rattle.cip_problem.specs.Program.{Sides, Row, Program}
use Rattle.cip_problem.specs.LinearProgram.{LinearProgram, CostsAtLeast}
use Rattle.cip_cert.specs.Lent.{Lent}
use Rattle.cip_relax.specs.NodeRows.{usable_rows}
use Rattle.cip_relax.specs.Relaxing.{node_program, ShowsBound}

-- a bound of its costs, with the constant, if there is one
pub shown_bound : (program : Program) (lent : Lent) (box : List Sides) (cost : ℚ) → CostsAtLeast (node_program program lent box) cost → (bound : Option ℚ) → IfSome bound (λ b. b ≡ program.constant +ℚ cost) → IfSome bound (ShowsBound program lent box)
shown_bound program lent box cost least None h = tt
shown_bound program lent box cost least (Some b) h = record { cost = cost; least = least; is_bound = h }

abbrev pub linear_program : List Row → List Sides → List ℚ → LinearProgram
linear_program rows box costs = record { rows = rows; bounds = box; costs = costs }

-- what is lent is the linear program of the node
pub same_program : (program : Program) (lent : Lent) (box : List Sides) (own : List Row) (others : List (Bor Row)) (costs : List ℚ) → own ≡ program.rows → map (λ (row : Bor Row). row.now) others ≡ usable_rows box lent.pool → costs ≡ program.costs → linear_program (own ++ map (λ (row : Bor Row). row.now) others) box costs ≡ node_program program lent box
same_program program lent box own others costs o u k =
    ap (λ (rows : List Row). linear_program (rows ++ map (λ (row : Bor Row). row.now) others) box costs) o
    ∙ ap (λ (rows : List Row). linear_program (program.rows ++ rows) box costs) u
    ∙ ap (λ (other : List ℚ). linear_program (program.rows ++ usable_rows box lent.pool) box other) k
