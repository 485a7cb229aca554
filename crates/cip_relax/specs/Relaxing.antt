-- What the linear program of a node comes to.
use Rattle.std.specs.Prelude.{◌≡◌, ◌⊎◌, ℕ, true, List, length, IfSome, Err}
use Rattle.cip_rational.specs.Rational.{ℚ, ◌+ℚ◌, ◌≤ℚ◌, integer, ceil}
use Rattle.cip_rational.specs.Sums.{dot}
use Rattle.cip_rational.specs.Range.{sum_overflows}
use Rattle.cip_problem.specs.Program.{Sides, Program}
use Rattle.cip_problem.specs.LinearProgram.{LinearProgram, IsPoint, HasNoPoint, CostsAtLeast, IsOptimal, IsRay}
use Rattle.cip_lin.specs.declared.combos.Combo.{Combo}
use Rattle.cip_bland.specs.EndAnswers.{Certificate, Optimal, NoPoint, OutOfRange, LimitReached, answer}
use Rattle.cip_bland.specs.Statements.{IsRight}
use Rattle.cip_cert.specs.Lent.{Lent, Multiples, multiples_of, count_of}
use Rattle.cip_cert.specs.Checks.{lower_bound_of, emptied}
use Rattle.cip_cert.specs.declared.faults.CutFault.{CutFault}
use Rattle.cip_cert.specs.declared.faults.CutFault.TheVariants.{Wide as TooWide}
use Rattle.cip_cert.specs.declared.faults.FaultPlace.TheVariants.{Entry}
use Rattle.cip_search.specs.Relaxation.{relaxation}
use Rattle.cip_problem.specs.Cuts.{HasWholeCosts}
use Rattle.cip_relax.specs.NodeRows.{usable_rows, usable_ids, IsNamed}
use Rattle.cip_relax.specs.Solving.{most_moves}
use Rattle.cip_relax.specs.declared.relaxed.Mark.{Mark}
use Rattle.cip_relax.specs.declared.relaxed.Mark.TheVariants.{Wide, Limit, Refused}
use Rattle.cip_relax.specs.declared.relaxed.Relaxed.{Relaxed}
use Rattle.cip_relax.specs.declared.relaxed.Relaxed.TheVariants.{Bound, Near, Falls, Empty, Unsolved}

-- the linear program of a node with this box
abbrev pub node_program : Program → Lent → List Sides → LinearProgram
node_program program lent box = relaxation program (usable_rows box lent.pool) box

-- ---- why nothing is shown

-- a check refuses a combination at costs, or the constant and a cost have no sum in the range, which stands past the
-- last entry
abbrev pub IsCostFault : Program → Lent → List Sides → ℕ → Multiples → ℚ → CutFault → Type 0
IsCostFault program lent box columns combo cost fault =
    (lower_bound_of lent box columns program.costs combo ≡ Err fault)
    ⊎ ((sum_overflows program.constant cost ≡ true) × (fault ≡ TooWide (Entry (count_of combo))))

-- an optimum was found, with the combination that shows it
pub record IsOptimumFound
    (program : Program) (lent : Lent) (box : List Sides) (point : List ℚ) (combo : Combo) (cost : ℚ) : Type 0 where
  pub certificate : Certificate
  pub right : IsRight (node_program program lent box) (Optimal point certificate cost)
  pub named : IsNamed (length program.rows) (usable_ids box lent.pool) certificate combo

-- it was found that there is no point, with the combination that shows it
pub record IsEmptinessFound (program : Program) (lent : Lent) (box : List Sides) (combo : Combo) : Type 0 where
  pub certificate : Certificate
  pub right : IsRight (node_program program lent box) (NoPoint certificate)
  pub named : IsNamed (length program.rows) (usable_ids box lent.pool) certificate combo

-- a check refuses the certificate of an optimum
pub record RefusesOptimum
    (program : Program) (lent : Lent) (box : List Sides) (columns : ℕ) (combo : Combo) (fault : CutFault) : Type 0 where
  pub point : List ℚ
  pub cost : ℚ
  pub found : IsOptimumFound program lent box point combo cost
  pub fault_is : IsCostFault program lent box columns (multiples_of combo) cost fault

-- a check refuses the certificate that there is no point
pub record RefusesEmptiness
    (program : Program) (lent : Lent) (box : List Sides) (columns : ℕ) (combo : Combo) (fault : CutFault) : Type 0 where
  pub found : IsEmptinessFound program lent box combo
  pub fault_is : emptied lent box columns (multiples_of combo) ≡ Err fault

-- a mark says what the linear program of the node met
abbrev pub IsMark : Program → Lent → List Sides → ℕ → Mark → Type 0
IsMark program lent box columns (Wide moves) =
    answer most_moves (node_program program lent box) ≡ OutOfRange moves.items
IsMark program lent box columns Limit = answer most_moves (node_program program lent box) ≡ LimitReached
IsMark program lent box columns (Refused combo fault) =
    RefusesOptimum program lent box columns combo fault ⊎ RefusesEmptiness program lent box columns combo fault

-- ---- what is shown

-- a point of least cost, and what that is with the constant
pub record ShowsLeast (program : Program) (lent : Lent) (box : List Sides) (point : List ℚ) (bound : ℚ) : Type 0 where
  pub cost : ℚ
  pub optimal : IsOptimal (node_program program lent box) point cost
  pub is_bound : bound ≡ program.constant +ℚ cost

-- no point costs less than this with the constant taken off
pub record ShowsBound (program : Program) (lent : Lent) (box : List Sides) (bound : ℚ) : Type 0 where
  pub cost : ℚ
  pub least : CostsAtLeast (node_program program lent box) cost
  pub is_bound : bound ≡ program.constant +ℚ cost

-- costs are whole, and a bound, rounded up, is at least what a point costs with the constant
pub record ReachesCost (program : Program) (point : List ℚ) (bound : ℚ) : Type 0 where
  pub whole : HasWholeCosts program
  pub reached : program.constant +ℚ dot program.costs point ≤ℚ integer (ceil bound)

-- a point, and a bound that is as good as what that costs
pub record ShowsNear (program : Program) (lent : Lent) (box : List Sides) (point : List ℚ) (bound : ℚ) : Type 0 where
  pub is_point : IsPoint (node_program program lent box) point
  pub shows : ShowsBound program lent box bound
  pub good : ReachesCost program point bound

-- a point from which the cost falls without end
pub record ShowsFalling (program : Program) (lent : Lent) (box : List Sides) (point : List ℚ) : Type 0 where
  pub is_point : IsPoint (node_program program lent box) point
  pub ray : List ℚ
  pub is_ray : IsRay (node_program program lent box) ray

-- what the linear program of a node came to
abbrev pub IsRelaxed : Program → Lent → List Sides → ℕ → Relaxed → Type 0
IsRelaxed program lent box columns (Bound point bound combo) = ShowsLeast program lent box point.items bound
IsRelaxed program lent box columns (Near point bound) = ShowsNear program lent box point.items bound
IsRelaxed program lent box columns (Falls point) = ShowsFalling program lent box point.items
IsRelaxed program lent box columns Empty = HasNoPoint (node_program program lent box)
IsRelaxed program lent box columns (Unsolved mark point bound) =
    IsMark program lent box columns mark
    × (IfSome point (λ values. IsPoint (node_program program lent box) values.items)
    × IfSome bound (ShowsBound program lent box))
