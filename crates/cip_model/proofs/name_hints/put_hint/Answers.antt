use Rattle.std.proofs.lemmas.Grind.{common_steps}
use Rattle.std.proofs.Common.{arith}
use Rattle.cip_model.proofs.name_hints.put_hint.Goals as goal

pub overflow_mul-wider : goal.overflow_mul-wider
overflow_mul-wider c = grind (arith, common_steps)

pub piece-requires-clause-there : goal.piece-requires-clause-there
piece-requires-clause-there c = grind (arith, common_steps)

pub overflow_mul-count : goal.overflow_mul-count
overflow_mul-count c = grind (arith, common_steps)

pub loop-number-preserved : goal.loop-number-preserved
loop-number-preserved c = grind (arith, common_steps)
