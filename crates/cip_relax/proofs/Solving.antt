-- What Bland's list answers from the start of the first state holds, and so do its reasons.
use Rattle.std.proofs.Common.{◌≡◌, Option, Some, IfSome, ap, ◌∙◌, subst}
use Rattle.cip_problem.specs.LinearProgram.{LinearProgram}
use Rattle.cip_search.specs.ProgramState.{first_of_program}
use Rattle.cip_bland.specs.EndAnswers.{Answer, answer}
use Rattle.cip_bland.specs.Statements.{IsRight}
use Rattle.cip_simplex.specs.LpAnswers.{IsAnswer}
use Rattle.cip_simplex.specs.Starts.{Stands, stands_of, answer_from}
use Rattle.cip_simplex.specs.Reached.{Holds, IsEndAnswer, IsReached}
use Rattle.cip_simplex.specs.declared.answers.LpAnswer.{LpAnswer}
use Rattle.cip_simplex.specs.declared.answers.LpAnswer.TheVariants.{Optimal, Infeasible, Unbounded, Wide, Limit}
use Rattle.cip_simplex.proofs.Held.{HoldsOr, held}
use Rattle.cip_simplex.proofs.SlackStart.{slack_is_first}
use Rattle.cip_relax.specs.Solving.{most_moves, SaysRight}

listed : (program : LinearProgram) (found : LpAnswer) → HoldsOr program (answer most_moves program) found → SaysRight program found
listed program (Optimal values combo number) h = h
listed program (Infeasible combo) h = h
listed program (Unbounded values changes) h = h
listed program (Wide made) h = h
listed program Limit h = h

pub from_slack : (program : LinearProgram) (start : Stands) (found : LpAnswer) → start ≡ stands_of (first_of_program program) → IsAnswer (answer_from most_moves program start) found → IsRight program (answer_from most_moves program start) → SaysRight program found
from_slack program start found e h r =
    let same : answer_from most_moves program start ≡ answer most_moves program = ap (answer_from most_moves program) e ∙ slack_is_first program most_moves in
    listed program found
    (held program (answer most_moves program) found (subst (λ (a : Answer). IsAnswer a found) same h) (subst (λ (a : Answer). IsRight program a) same r))

holds_said : (program : LinearProgram) (found : LpAnswer) → Holds program found → SaysRight program found
holds_said program (Optimal values combo number) h = h
holds_said program (Infeasible combo) h = h
holds_said program (Unbounded values changes) h = h
holds_said program (Wide made) h = absurd h
holds_said program Limit h = absurd h

-- what is answered at a state that was reached holds
pub reached : (program : LinearProgram) (first : Option LpAnswer) (last : Stands) (found : LpAnswer) → IsReached program first last → first ≡ Some found → SaysRight program found
reached program first last found r e =
    holds_said program found (subst (λ (o : Option LpAnswer). IfSome o (IsEndAnswer program r.state)) e r.answered).right
