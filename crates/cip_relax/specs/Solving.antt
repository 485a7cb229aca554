-- What is said of an answer on the linear program of a node, by whichever rule it was found; and by which rule it is
-- said that there is none.
use Rattle.std.specs.Prelude.{◌≡◌, ℕ}
use Rattle.cip_problem.specs.LinearProgram.{LinearProgram}
use Rattle.cip_bland.specs.EndAnswers as list
use Rattle.cip_bland.specs.EndAnswers.{answer}
use Rattle.cip_bland.specs.Statements.{IsRight}
use Rattle.cip_simplex.specs.Reached.{IsOptimumBy, IsEmptyBy}
use Rattle.cip_simplex.specs.declared.answers.LpAnswer.{LpAnswer}
use Rattle.cip_simplex.specs.declared.answers.LpAnswer.TheVariants.{Optimal, Infeasible, Unbounded, Wide, Limit}

-- the most moves of the linear program of a node by Bland's rule
abbrev pub most_moves : ℕ
most_moves = 10000

-- what an answer says holds; that a move is out of range, or that too many are needed, is said of Bland's list
abbrev pub SaysRight : LinearProgram → LpAnswer → Type 0
SaysRight program (Optimal point combo cost) = IsOptimumBy program point.items combo cost
SaysRight program (Infeasible combo) = IsEmptyBy program combo
SaysRight program (Unbounded point ray) = IsRight program (list.Unbounded point.items ray.items)
SaysRight program (Wide moves) = answer most_moves program ≡ list.OutOfRange moves.items
SaysRight program Limit = answer most_moves program ≡ list.LimitReached
