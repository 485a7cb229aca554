-- What is said of an answer on the linear program of the master, by whichever moves it was found.
use Rattle.std.specs.Prelude.{◌≡◌, ℕ, List, ◌++◌}
use Rattle.cip_problem.specs.LinearProgram.{LinearProgram}
use Rattle.cip_bland.specs.EndAnswers as list
use Rattle.cip_bland.specs.EndAnswers.{answer}
use Rattle.cip_bland.specs.Statements.{IsRight}
use Rattle.cip_simplex.specs.Reached.{IsOptimumBy, IsEmptyBy}
use Rattle.cip_simplex.specs.declared.answers.LpAnswer.{LpAnswer}
use Rattle.cip_simplex.specs.declared.answers.LpAnswer.TheVariants.{Optimal, Infeasible, Unbounded, Wide, Limit}
use Rattle.cip_columns.specs.PoolPoints.{PoolPoint}
use Rattle.cip_lagrange.specs.Decompositions.{owners_in}
use Rattle.cip_pricing.specs.MasterPrograms.{IsMasterProgram}
use Rattle.cip_master.specs.MasterTasks.{Task, points_in, held_by}
use Rattle.cip_master.specs.KeptMasters.{IsMasterOf, HasSeen}
use Rattle.cip_master.specs.declared.masters.MasterProgram.{MasterProgram}

-- the linear program of the master of the points that are held in the box
abbrev pub IsMasterLp : Task → LinearProgram → Type 0
IsMasterLp task lp = IsMasterProgram task.program (owners_in task.kept) task.box (held_by task) lp

-- an optimum and an emptiness hold; that the cost falls without end, that a move is out of range, or that too many are
-- needed, is what the list of moves by Bland's rule from the first state answers
abbrev pub Says : ℕ → LinearProgram → LpAnswer → Type 0
Says limit lp (Optimal point combo cost) = IsOptimumBy lp point.items combo cost
Says limit lp (Infeasible combo) = IsEmptyBy lp combo
Says limit lp (Unbounded point ray) =
    (answer limit lp ≡ list.Unbounded point.items ray.items) × IsRight lp (list.Unbounded point.items ray.items)
Says limit lp (Wide moves) = answer limit lp ≡ list.OutOfRange moves.items
Says limit lp Limit = answer limit lp ≡ list.LimitReached

-- what is kept is the master program of the points in the box among those of the pool that were looked at
abbrev pub IsKept : Task → MasterProgram → Type 0
IsKept task master = HasSeen task.program task.kept task.box task.points master

-- so of all of the pool's
abbrev pub IsWhole : Task → MasterProgram → Type 0
IsWhole task master = IsMasterOf task.program task.kept task.box (points_in task) master

-- what is kept for a pool is kept for one with more points at its end
abbrev pub MastersStayKept : Type 0
MastersStayKept =
    (task : Task) (more : List PoolPoint) (master : MasterProgram)
    → IsKept task master → IsKept (record task { points = task.points ++ more }) master
