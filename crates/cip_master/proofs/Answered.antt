-- What an end of the simplex method on the master program comes to.
use Rattle.std.proofs.Common.{◌≡◌, ℕ, ◌-◌, ◌≤◌, true, List, [], length, map, take, drop, replicate, Result, Ok, Err, IfOk, refl, sym, ap, ap₂, ◌∙◌, subst, arith}
use Rattle.std.proofs.lemmas.List.{length-map}
use Rattle.cip_rational.specs.Rational.{ℚ, ◌+ℚ◌, zeroℚ, ◌<ℚ◌}
use Rattle.cip_rational.specs.Range.{sum_overflows}
use Rattle.cip_rational.specs.Sums.{dot}
use Rattle.cip_problem.proofs.Points.AtPlaces.{IsInBox-long}
use Rattle.cip_problem.specs.WellFormed.{columns}
use Rattle.cip_problem.specs.LinearProgram.{LinearProgram}
use Rattle.cip_bland.specs.EndAnswers as list
use Rattle.cip_bland.specs.EndAnswers.{Answer, answer}
use Rattle.cip_bland.specs.Statements.{IsRight}
use Rattle.cip_bland.specs.ProgramState.{first_of_program}
use Rattle.cip_bland.proofs.Emptiness.{dot-replicate}
use Rattle.cip_lin.specs.declared.combos.Combo.{Combo}
use Rattle.cip_simplex.specs.LpAnswers.{IsAnswer}
use Rattle.cip_simplex.specs.Reached.{IsOptimumBy, IsEmptyBy}
use Rattle.cip_simplex.specs.Starts.{Stands, stands_of, answer_from}
use Rattle.cip_simplex.specs.declared.answers.LpAnswer.{LpAnswer}
use Rattle.cip_simplex.specs.declared.answers.LpAnswer.TheVariants.{Optimal, Infeasible, Unbounded, Wide, Limit}
use Rattle.cip_simplex.proofs.Held.{HoldsOr, held}
use Rattle.cip_simplex.proofs.SlackStart.{slack_is_first}
use Rattle.cip_master.specs.LagrangeFault.{LagrangeFault}
use Rattle.cip_columns.specs.PoolPoints.{PoolPoint, held_of}
use Rattle.cip_master.specs.KeptMasters.{program_in}
use Rattle.cip_master.specs.declared.masters.MasterProgram.{MasterProgram}
use Rattle.cip_master.specs.MasterTasks.{Task, IsTask, points_in, held_by}
use Rattle.cip_master.specs.ShownSums.{Worked, worked_out, IsShown, ShowsFrom}
use Rattle.cip_master.specs.declared.tasks.Shown.{Shown}
use Rattle.cip_master.specs.CombinedFactors.{multipliers_in, prices_in}
use Rattle.cip_master.specs.MasterSolving.{Says, IsWhole}
use Rattle.cip_master.specs.MasterAnswers.{ShowsOther, IsPriced, IsFarkas, IsUnshown, Total_overflows, Optimum_unshown, Emptiness_unshown}
use Rattle.cip_master.specs.declared.answers.PointWeight.{PointWeight}
use Rattle.cip_master.specs.declared.answers.Weights.{Weights}
use Rattle.cip_master.proofs.Mixed.{master_lp, mixed_at}
use Rattle.cip_master.proofs.Solvable.{bounds_long}

-- ---- what is asked

ray_is : (a : Answer) (point ray : List ℚ) (values changes : List ℚ)
    → values ≡ point → changes ≡ ray → a ≡ list.Unbounded point ray → a ≡ list.Unbounded values changes
ray_is a point ray values changes e f g = g ∙ ap₂ list.Unbounded (sym e) (sym f)

-- what the list of moves from the first state answers is said of it
listed : (limit : ℕ) (lp : LinearProgram) (a : Answer) (found : LpAnswer) → answer limit lp ≡ a
    → IsAnswer a found → HoldsOr lp a found → Says limit lp found
listed limit lp a (Optimal point combo cost) e h k = k
listed limit lp a (Infeasible combo) e h k = k
listed limit lp (list.Unbounded point ray) (Unbounded values changes) e h k =
    (ray_is (answer limit lp) point ray values.items changes.items h.0 h.1 e, k)
listed limit lp (list.Optimal point certificate cost) (Unbounded values changes) e h k = absurd h
listed limit lp (list.NoPoint certificate) (Unbounded values changes) e h k = absurd h
listed limit lp (list.OutOfRange moves) (Unbounded values changes) e h k = absurd h
listed limit lp list.LimitReached (Unbounded values changes) e h k = absurd h
listed limit lp a (Wide moves) e h k = e ∙ k
listed limit lp a Limit e h k = e ∙ k

pub from_slack : (limit : ℕ) (lp : LinearProgram) (start : Stands) (found : LpAnswer)
    → start ≡ stands_of (first_of_program lp) → IsAnswer (answer_from limit lp start) found
    → IsRight lp (answer_from limit lp start) → Says limit lp found
from_slack limit lp start found e h r =
    let same : answer_from limit lp start ≡ answer limit lp =
    ap (answer_from limit lp) e ∙ slack_is_first lp limit in
    let answered : IsAnswer (answer limit lp) found = subst (λ (a : Answer). IsAnswer a found) same h in
    listed limit lp (answer limit lp) found refl answered
    (held lp (answer limit lp) found answered (subst (λ (a : Answer). IsRight lp a) same r))

-- ---- what is shown

-- an outcome is one value
same_worked : (r : Result Worked LagrangeFault) (a b : Worked) → r ≡ Ok a → r ≡ Ok b → b ≡ a
same_worked r a b e f =
    subst (λ (o : Result Worked LagrangeFault). IfOk o (λ w. w ≡ a)) f
    (subst (λ (o : Result Worked LagrangeFault). IfOk o (λ w. w ≡ a)) (sym e) refl)

no_worked : (r : Result Worked LagrangeFault) (fault : LagrangeFault) (b : Worked) → r ≡ Err fault → ¬ (r ≡ Ok b)
no_worked r fault b e f =
    subst (λ (o : Result Worked LagrangeFault). IfOk o (λ w. ⊥)) f
    (subst (λ (o : Result Worked LagrangeFault). IfOk o (λ w. ⊥)) (sym e) tt)

-- what is worked out of the lists that are handed in, which are these
module _ (task : Task) (start : ℚ) (costs ms ps : List ℚ) (combo : Combo)
    (multipliers : ms ≡ multipliers_in task.kept combo) (prices : ps ≡ prices_in task.kept combo)
    (first : List ℚ) (given : first ≡ costs) (Wanted : ℚ → Type 0) where
  same : worked_out task start first ms ps
      ≡ worked_out task start costs (multipliers_in task.kept combo) (prices_in task.kept combo)
  same =
      ap (λ cs. worked_out task start cs ms ps) given ∙ ap (λ ys. worked_out task start costs ys ps) multipliers
      ∙ ap (worked_out task start costs (multipliers_in task.kept combo)) prices

  -- another sum is worked out than one that is wanted
  pub other_sum : (worked : Worked) → worked_out task start first ms ps ≡ Ok worked → ¬ Wanted worked.sum
      → ShowsOther task start costs combo Wanted
  other_sum worked e n = λ other f w.
      n (subst Wanted (ap (λ (o : Worked). o.sum)
      (same_worked (worked_out task start first ms ps) worked other e (same ∙ f))) w)

  -- none is
  pub no_sum : (fault : LagrangeFault) → worked_out task start first ms ps ≡ Err fault
      → ShowsOther task start costs combo Wanted
  no_sum fault e = λ other f w. no_worked (worked_out task start first ms ps) fault other e (same ∙ f)

-- ---- an optimum

pub total_overflows : (task : Task) (master : MasterProgram) (point : List ℚ) (combo : Combo) (cost : ℚ)
    → IsWhole task master → IsOptimumBy (program_in master) point combo cost
    → sum_overflows task.program.constant cost ≡ true → IsUnshown task
total_overflows task master point combo cost m o e =
    Total_overflows (program_in master) point combo cost (master_lp task master m) o e

pub optimum_unshown : (task : Task) (master : MasterProgram) (point : List ℚ) (combo : Combo) (cost : ℚ)
    → IsWhole task master → IsOptimumBy (program_in master) point combo cost
    → ShowsOther task task.program.constant task.program.costs combo (λ sum. sum ≡ task.program.constant +ℚ cost)
    → IsUnshown task
optimum_unshown task master point combo cost m o h =
    Optimum_unshown (program_in master) point combo cost (master_lp task master m) o h

pub emptiness_unshown : (task : Task) (master : MasterProgram) (combo : Combo)
    → IsWhole task master → IsEmptyBy (program_in master) combo
    → ShowsOther task zeroℚ (replicate (columns task.program) zeroℚ) combo (λ sum. zeroℚ <ℚ sum)
    → IsUnshown task
emptiness_unshown task master combo m o h =
    Emptiness_unshown (program_in master) combo (master_lp task master m) o h

pub is_priced : (task : Task) (master : MasterProgram) (point : List ℚ) (combo : Combo) (cost total sum start : ℚ)
    (shown : Shown) (weights : Weights) (first : List ℚ)
    → IsTask task → IsWhole task master → IsOptimumBy (program_in master) point combo cost
    → total ≡ task.program.constant +ℚ cost → sum ≡ total → start ≡ task.program.constant
    → first ≡ task.program.costs → ShowsFrom task first start shown sum
    → map (λ (w : PointWeight). w.id) weights.points.items ≡ master.ids.items
    → weights.free.items ≡ take (length point - length master.ids.items) point
    → map (λ (w : PointWeight). w.weight) weights.points.items ≡ drop (length point - length master.ids.items) point
    → IsPriced task shown weights total
is_priced task master point combo cost total sum start shown weights first ok m o e f g h s ids free points =
    let at = mixed_at task master point weights ok m o.right.optimal.is_point ids free points in
    record {
      mixed_of = at.is;
      cost_is = ap (λ q. task.program.constant +ℚ q) (at.cost_is ∙ o.right.optimal.cost_is) ∙ sym e;
      shows =
          subst (λ q. IsShown task task.program.costs shown q total) g
          (subst (λ q. IsShown task task.program.costs shown start q) f
          (s task.program.costs (λ xs. ap (λ cs. dot cs xs) h)));
    }

-- as many ids as weights, which stand behind the other values
pub ids_fit : (task : Task) (master : MasterProgram) (point : List ℚ) (combo : Combo) (cost : ℚ)
    → IsWhole task master → IsOptimumBy (program_in master) point combo cost
    → length master.ids.items ≤ length point
ids_fit task master point combo cost m o =
    omega (
      arith,
      IsInBox-long master.bounds point o.right.optimal.is_point.within,
      ap length m.bounds,
      bounds_long task.kept.column_owners.items task.box (held_by task),
      ap length m.ids,
      length-map (points_in task) (λ (h : PoolPoint). h.id),
      length-map (points_in task) held_of,
    )

-- ---- that there is no point

pub is_farkas : (task : Task) (sum start : ℚ) (shown : Shown) (first : List ℚ) → zeroℚ <ℚ sum → start ≡ zeroℚ
    → first ≡ replicate (columns task.program) zeroℚ → ShowsFrom task first start shown sum
    → IsFarkas task shown
is_farkas task sum start shown first p g h s = record {
  sum = sum;
  positive = p;
  shows =
      subst (λ q. IsShown task [] shown q sum) g
      (s [] (λ xs. ap (λ cs. dot cs xs) h ∙ dot-replicate (columns task.program) xs));
}
