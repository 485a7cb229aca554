use Rattle.cip_problem.proofs.Choices.Meeting.{between_both, between_met}
use Rattle.cip_problem.proofs.sides_meet.Goals as goal

pub returns : goal.returns
returns c = λ sides others value. (between_both sides others value, λ h. between_met sides others value h.0 h.1)
