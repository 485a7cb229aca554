use Rattle.std.proofs.lemmas.Grind.{common_steps}
use Rattle.std.proofs.Common.{arith}
use Rattle.cip_basis.proofs.guesses.Guess.list_multipliers.Goals as goal

pub overflow_cast-variable : goal.overflow_cast-variable
overflow_cast-variable c = grind (arith, common_steps)
