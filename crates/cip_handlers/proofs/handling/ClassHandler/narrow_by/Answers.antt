use Rattle.std.proofs.lemmas.Grind.{common_steps}
use Rattle.std.proofs.Common.{arith}
use Rattle.cip_handlers.proofs.handling.ClassHandler.narrow_by.Goals as goal

pub overflow_cast-number : goal.overflow_cast-number
overflow_cast-number c = grind (arith, common_steps)

pub get-requires : goal.get-requires
get-requires c = grind (arith, common_steps)
