-- What is said of an answer whichever moves led to it.
use Rattle.std.specs.Prelude.{◌≡◌, List, Option, length, IfSome}
use Rattle.cip_rational.specs.Rational.{ℚ}
use Rattle.cip_problem.specs.LinearProgram.{LinearProgram}
use Rattle.cip_lin.specs.declared.combos.Combo.{Combo}
use Rattle.cip_bland.specs.Dictionary.{Dictionary}
use Rattle.cip_bland.specs.EndAnswers as def
use Rattle.cip_bland.specs.EndAnswers.{Certificate, answer_at}
use Rattle.cip_bland.specs.Statements.{IsStateOf, IsRight}
use Rattle.cip_bland.specs.StateEnds.{IsEndAt}
use Rattle.cip_bland.specs.declared.steps.Step.{Step}
use Rattle.cip_simplex.specs.declared.answers.LpAnswer.{LpAnswer}
use Rattle.cip_simplex.specs.declared.answers.LpAnswer.TheVariants.{Optimal, Infeasible, Unbounded, Wide, Limit}
use Rattle.cip_simplex.specs.LpShape.{variables}
use Rattle.cip_simplex.specs.LpAnswers.{IsCombo, IsAnswer}
use Rattle.cip_simplex.specs.Starts.{Stands, stands_of}

-- ---- what an answer in code says holds

-- the point is optimal at this cost, by the certificate that the combination is
pub record IsOptimumBy (program : LinearProgram) (point : List ℚ) (combo : Combo) (cost : ℚ) : Type 0 where
  pub certificate : Certificate
  pub right : IsRight program (def.Optimal point certificate cost)
  pub is_combo : IsCombo certificate combo

-- there is no point, by the certificate that the combination is
pub record IsEmptyBy (program : LinearProgram) (combo : Combo) : Type 0 where
  pub certificate : Certificate
  pub right : IsRight program (def.NoPoint certificate)
  pub is_combo : IsCombo certificate combo

-- an answer is an optimum, an emptiness or a ray, and that is so
abbrev pub Holds : LinearProgram → LpAnswer → Type 0
Holds program (Optimal point combo cost) = IsOptimumBy program point.items combo cost
Holds program (Infeasible combo) = IsEmptyBy program combo
Holds program (Unbounded point ray) = IsRight program (def.Unbounded point.items ray.items)
Holds program (Wide moves) = ⊥
Holds program Limit = ⊥

-- ---- what was reached

-- a state is an end, this is what that answers on the program, and so it holds
pub record IsEndAnswer (program : LinearProgram) (d : Dictionary) (found : LpAnswer) : Type 0 where
  pub step : Step
  pub is_end : IsEndAt d step
  pub answered : IsAnswer (answer_at program d step) found
  pub right : Holds program found

-- a state of the program was reached, at which the variables are there; where there is an answer, that state is an end
-- and this is its answer
pub record IsReached (program : LinearProgram) (found : Option LpAnswer) (last : Stands) : Type 0 where
  pub state : Dictionary
  pub is_state : IsStateOf program state
  pub stands : last ≡ stands_of state
  pub long : length last ≡ variables program
  pub answered : IfSome found (IsEndAnswer program state)
