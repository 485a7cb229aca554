-- An optimum of the master program comes to a mixture of held points at its cost.
use Rattle.std.proofs.Common.{◌≡◌, ℕ, ◌-◌, List, ◌++◌, length, map, take, drop, Some, refl, sym, ap, ap₂, ◌∙◌, subst, arith}
use Rattle.std.proofs.lemmas.List.{length-append, length-map, take-append-le, take_all, drop_at}
use Rattle.cip_rational.specs.Rational.{ℚ}
use Rattle.cip_rational.specs.Sums.{dot}
use Rattle.cip_problem.specs.LinearProgram.{IsPoint}
use Rattle.cip_pricing.specs.Mixtures.{IsMixture, MeetsMaster}
use Rattle.cip_pricing.specs.MasterForms.{mixed}
use Rattle.cip_pricing.specs.MasterStatements.{ComesToMixture}
use Rattle.cip_pricing.proofs.Points.{comes_to}
use Rattle.cip_columns.specs.PoolPoints.{PoolPoint, held_of}
use Rattle.cip_lagrange.specs.Decompositions.{owners_in}
use Rattle.cip_master.specs.KeptMasters.{program_in}
use Rattle.cip_master.specs.declared.masters.MasterProgram.{MasterProgram}
use Rattle.cip_master.specs.MasterTasks.{Task, IsTask, points_in, held_by}
use Rattle.cip_master.specs.MasterSolving.{IsMasterLp, IsWhole}
use Rattle.cip_master.specs.MasterAnswers.{point_of, IsMixedOf}
use Rattle.cip_master.specs.declared.answers.PointWeight.{PointWeight}
use Rattle.cip_master.specs.declared.answers.Weights.{Weights}
use Rattle.cip_master.proofs.HeldInBox.{are_held}

-- what is kept is the linear program of the master
pub master_lp : (task : Task) (master : MasterProgram) → IsWhole task master → IsMasterLp task (program_in master)
master_lp task master m = record {
  masters = master.masters.items;
  sums = master.sums.items;
  rows = refl;
  are_masters = m.masters;
  count = m.count;
  are_sums = m.sums;
  bounds = m.bounds;
  costs = m.costs;
}

-- ---- lists in two parts

take_first : {X : Type 0} (xs ys : List X) (n : ℕ) → n ≡ length xs → take n (xs ++ ys) ≡ xs
take_first xs ys n e = take-append-le n xs ys (omega (arith, e)) ∙ take_all n xs (omega (arith, e))

drop_first : {X : Type 0} (xs ys : List X) (n : ℕ) → n ≡ length xs → drop n (xs ++ ys) ≡ ys
drop_first xs ys n e = drop_at xs ys n (sym e)

-- ---- the mixture

-- what a point of the master comes to, by the values and weights that are handed out
pub record IsMixedAt (task : Task) (weights : Weights) (cost : ℚ) : Type 0 where
  pub is : IsMixedOf task weights
  pub cost_is : dot task.program.costs (point_of task weights) ≡ cost

module _ (task : Task) (master : MasterProgram) (point : List ℚ) (weights : Weights) (ok : IsTask task)
    (m : IsWhole task master) (p : IsPoint (program_in master) point)
    (ids : map (λ (w : PointWeight). w.id) weights.points.items ≡ master.ids.items)
    (free : weights.free.items ≡ take (length point - length master.ids.items) point)
    (points : map (λ (w : PointWeight). w.weight) weights.points.items
    ≡ drop (length point - length master.ids.items) point) where
  mixture : ComesToMixture task.program (owners_in task.kept) task.box (held_by task) (program_in master) point
  mixture =
      comes_to task.program (owners_in task.kept) task.box (held_by task) (program_in master) point
      ok.made.decomposed (ok.box_ ∙ sym ok.made.decomposed.each_column) (are_held task ok)
      (master_lp task master m) p

  -- as many values stand before the weights
  first_is : length point - length master.ids.items ≡ length mixture.values
  first_is =
      omega (
        arith,
        ap length mixture.is,
        length-append mixture.values mixture.weights,
        mixture.each_weight,
        length-map (points_in task) held_of,
        ap length m.ids,
        length-map (points_in task) (λ (h : PoolPoint). h.id),
      )

  values_are : weights.free.items ≡ mixture.values
  values_are =
      free ∙ ap (take (length point - length master.ids.items)) mixture.is
      ∙ take_first mixture.values mixture.weights (length point - length master.ids.items) first_is

  weights_are : map (λ (w : PointWeight). w.weight) weights.points.items ≡ mixture.weights
  weights_are =
      points ∙ ap (drop (length point - length master.ids.items)) mixture.is
      ∙ drop_first mixture.values mixture.weights (length point - length master.ids.items) first_is

  point_is : point_of task weights
      ≡ mixed task.kept.column_owners.items (held_by task) mixture.values mixture.weights
  point_is = ap₂ (mixed task.kept.column_owners.items (held_by task)) values_are weights_are

  pub mixed_at : IsMixedAt task weights (dot master.costs.items point)
  mixed_at = record {
    is = record {
      ids = ids ∙ m.ids;
      mixture =
          subst (IsMixture task.program (owners_in task.kept) task.box (Some (held_by task))) (sym point_is)
          mixture.mixture;
      meets = subst (MeetsMaster task.program (owners_in task.kept)) (sym point_is) mixture.meets;
    };
    cost_is = ap (dot task.program.costs) point_is ∙ sym mixture.cost;
  }
