use Rattle.cip_problem.proofs.Choices.Decided.{made, feasible, decided_formed}
use Rattle.cip_problem.proofs.choices_are_made.Goals as goal

pub returns : goal.returns
returns c = record { made = made; feasible = feasible; formed = decided_formed }
