-- What the master program of held points answers.
use Rattle.std.specs.Prelude.{◌≡◌, ◌⊎◌, ℕ, true, List, [], map, replicate, Some, Ok, ⊤}
use Rattle.cip_rational.specs.Rational.{ℚ, ◌+ℚ◌, zeroℚ, ◌<ℚ◌}
use Rattle.cip_rational.specs.Range.{sum_overflows}
use Rattle.cip_problem.specs.Points.{cost_of}
use Rattle.cip_problem.specs.WellFormed.{columns}
use Rattle.cip_problem.specs.LinearProgram.{LinearProgram}
use Rattle.cip_bland.specs.EndAnswers.{answer, Unbounded, OutOfRange, LimitReached}
use Rattle.cip_bland.specs.Statements.{IsRight}
use Rattle.cip_bland.specs.declared.moves.Move.{Move}
use Rattle.cip_lin.specs.declared.combos.Combo.{Combo}
use Rattle.cip_simplex.specs.Reached.{IsOptimumBy, IsEmptyBy}
use Rattle.cip_pricing.specs.Mixtures.{IsMixture, MeetsMaster}
use Rattle.cip_pricing.specs.MasterForms.{mixed}
use Rattle.cip_columns.specs.PoolPoints.{PoolPoint}
use Rattle.cip_lagrange.specs.Decompositions.{owners_in}
use Rattle.cip_master.specs.KeptMasters.{IsPoolFault}
use Rattle.cip_master.specs.declared.masters.MasterFault.TheVariants.{Wide}
use Rattle.cip_master.specs.declared.masters.MasterProgram.{MasterProgram}
use Rattle.cip_master.specs.MasterTasks.{Task, points_in, held_by}
use Rattle.cip_master.specs.ShownSums.{Worked, worked_out, IsShown}
use Rattle.cip_master.specs.declared.tasks.Shown.{Shown}
use Rattle.cip_master.specs.CombinedFactors.{multipliers_in, prices_in}
use Rattle.cip_master.specs.MasterSolving.{IsMasterLp, IsKept}
use Rattle.cip_master.specs.declared.answers.PointWeight.{PointWeight}
use Rattle.cip_master.specs.declared.answers.Weights.{Weights}
use Rattle.cip_master.specs.declared.answers.MasterCause.{MasterCause}
use Rattle.cip_master.specs.declared.answers.MasterCause.TheVariants.{Wide as TooWide, Unbounded as Falls, Limit, Unshown}
use Rattle.cip_master.specs.declared.answers.MasterAnswer.{MasterAnswer}
use Rattle.cip_master.specs.declared.answers.MasterAnswer.TheVariants.{Prices, Farkas, Unsolved}

-- ---- mixtures

-- the point of the program that values and weights come to
abbrev pub point_of : Task → Weights → List ℚ
point_of task weights =
    mixed task.kept.column_owners.items (held_by task) weights.free.items
    (map (λ (w : PointWeight). w.weight) weights.points.items)

-- they are a mixture of the held points in the box that satisfies the master rows; there is a weight for each of these
-- points, by rising id
pub record IsMixedOf (task : Task) (weights : Weights) : Type 0 where
  pub ids : map (λ (w : PointWeight). w.id) weights.points.items ≡ map (λ (h : PoolPoint). h.id) (points_in task)
  pub mixture : IsMixture task.program (owners_in task.kept) task.box (Some (held_by task)) (point_of task weights)
  pub meets : MeetsMaster task.program (owners_in task.kept) (point_of task weights)

-- ---- prices

-- a mixture of held points costs this much, and multipliers and prices show that none that satisfies the master rows
-- costs less
pub record IsPriced (task : Task) (shown : Shown) (weights : Weights) (cost : ℚ) : Type 0 where
  pub mixed_of : IsMixedOf task weights
  pub cost_is : cost_of task.program (point_of task weights) ≡ cost
  pub shows : IsShown task task.program.costs shown task.program.constant cost

-- multipliers and prices show at costs 0 that each mixture of held points that satisfies the master rows costs more
-- than 0: so there is none
pub record IsFarkas (task : Task) (shown : Shown) : Type 0 where
  pub sum : ℚ
  pub positive : zeroℚ <ℚ sum
  pub shows : IsShown task [] shown zeroℚ sum

-- ---- causes

-- what the factors of a combination show at costs, beside a number to begin with, isn't this
abbrev pub ShowsOther : Task → (start : ℚ) → (costs : List ℚ) → Combo → (ℚ → Type 0) → Type 0
ShowsOther task start costs combo Wanted =
    (worked : Worked)
    → worked_out task start costs (multipliers_in task.kept combo) (prices_in task.kept combo) ≡ Ok worked
    → ¬ Wanted worked.sum

-- an optimum has a cost out of range beside the constant, or the factors of its combination don't show that cost; or
-- those of a combination that shows that there is no point don't show that
pub data IsUnshown (task : Task) : Type 0 where
  Total_overflows : (lp : LinearProgram) (point : List ℚ) (combo : Combo) (cost : ℚ) → IsMasterLp task lp
      → IsOptimumBy lp point combo cost → sum_overflows task.program.constant cost ≡ true → IsUnshown task
  Optimum_unshown : (lp : LinearProgram) (point : List ℚ) (combo : Combo) (cost : ℚ) → IsMasterLp task lp
      → IsOptimumBy lp point combo cost
      → ShowsOther task task.program.constant task.program.costs combo
      (λ sum. sum ≡ task.program.constant +ℚ cost)
      → IsUnshown task
  Emptiness_unshown : (lp : LinearProgram) (combo : Combo) → IsMasterLp task lp → IsEmptyBy lp combo
      → ShowsOther task zeroℚ (replicate (columns task.program) zeroℚ) combo (λ sum. zeroℚ <ℚ sum)
      → IsUnshown task

-- on the linear program of the master the list of moves, at most so many, has a ray; is out of range; is too long
pub record HasRay (limit : ℕ) (task : Task) : Type 0 where
  pub lp : LinearProgram
  pub is_master : IsMasterLp task lp
  pub point : List ℚ
  pub ray : List ℚ
  pub answered : answer limit lp ≡ Unbounded point ray
  pub right : IsRight lp (Unbounded point ray)

pub record HasWideMove (limit : ℕ) (task : Task) : Type 0 where
  pub lp : LinearProgram
  pub is_master : IsMasterLp task lp
  pub moves : List Move
  pub answered : answer limit lp ≡ OutOfRange moves

pub record IsTooLong (limit : ℕ) (task : Task) : Type 0 where
  pub lp : LinearProgram
  pub is_master : IsMasterLp task lp
  pub answered : answer limit lp ≡ LimitReached

-- why it isn't solved; `Wide` comes also where a coefficient of a held point is out of range
abbrev pub IsCause : ℕ → Task → MasterCause → Type 0
IsCause limit task TooWide =
    IsPoolFault task.program task.kept task.box task.points Wide ⊎ HasWideMove limit task
IsCause limit task Falls = HasRay limit task
IsCause limit task Limit = IsTooLong limit task
IsCause limit task Unshown = IsUnshown task

-- ---- answers

abbrev pub IsMasterAnswer : ℕ → Task → MasterAnswer → Type 0
IsMasterAnswer limit task (Prices shown weights cost) = IsPriced task shown weights cost
IsMasterAnswer limit task (Farkas shown) = IsFarkas task shown
IsMasterAnswer limit task (Unsolved cause) = IsCause limit task cause

-- behind an answer that isn't a cause the master program is kept
abbrev pub StaysKept : Task → MasterProgram → MasterAnswer → Type 0
StaysKept task master (Prices shown weights cost) = IsKept task master
StaysKept task master (Farkas shown) = IsKept task master
StaysKept task master (Unsolved cause) = ⊤
