use Rattle.std.proofs.lemmas.Grind.{common_steps}
use Rattle.std.proofs.Common.{arith}
use Rattle.cip_presolve.proofs.substituting.found_for.Goals as goal

pub same-form : goal.same-form
same-form c = grind (arith, common_steps)

pub is_whole-requires-then-is_whole : goal.is_whole-requires-then-is_whole
is_whole-requires-then-is_whole c = grind (arith, common_steps)

pub is_whole-requires : goal.is_whole-requires
is_whole-requires c = grind (arith, common_steps)

pub overflow_cast-row : goal.overflow_cast-row
overflow_cast-row c = grind (arith, common_steps)

pub returns-then-not-is_whole : goal.returns-then-not-is_whole
returns-then-not-is_whole c = grind (arith, common_steps)
